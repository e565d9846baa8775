-- The indexes that were put in uploads are those of an image, after each change.
use Rattle.std.proofs.Common.{◌≡◌, inl, inr, ℕ, ◌<◌, ◌^◌, Bool, true, false, cond, List, Option, None, Some, refl, sym, ap, subst, ◌∙◌, arith}
use Rattle.std.specs.Prelude.{Ok}
use Rattle.std.specs.FinMap.{nat_cmp-IsAntisymmetric}
use Rattle.ebs_tables.proofs.MapEdits.{is_same}
use Rattle.std.specs.Option.{option_map}
use Rattle.std.specs.Ordering.{nat_cmp, eq_by_cmp}
use Rattle.std.specs.Cmp.{nat_cmp_total}
use Rattle.std.specs.FinMap as fin
use Rattle.std.specs.FinMap.{FinMap, get, insert, remove}
use Rattle.ebs_model.specs.declared.keys.Moment.{Moment}
use Rattle.ebs_model.specs.declared.keys.SnapKey.{SnapKey}
use Rattle.ebs_model.specs.declared.keys.VolKey.{VolKey}
use Rattle.ebs_model.specs.declared.keys.PolicyKey.{PolicyKey}
use Rattle.ebs_model.specs.declared.policy.Policy.{Policy}
use Rattle.ebs_model.specs.declared.rows.SnapRow.{SnapRow}
use Rattle.ebs_model.specs.declared.rows.VolRow.{VolRow}
use Rattle.ebs_model.specs.declared.tags.Tag.{Tag}
use Rattle.ebs_model.specs.declared.request.Request.{Request}
use Rattle.ebs_model.specs.declared.request.Request.TheVariants.{StartSnapshot, PutSnapshotBlock, CompleteSnapshot, ListSnapshotBlocks, ListChangedBlocks, GetSnapshotBlock, DescribeSnapshot, DescribeSnapshots, DeleteSnapshot, ModifyPermission, LockSnapshot, UnlockSnapshot, ArchiveSnapshot, RestoreTier, CreateVolume, CreateSnapshot, WriteVolumeBlock, ReadVolumeBlock, DescribeVolume, DeleteVolume, CreateRule, GetRule, UpdateRule, DeleteRule, ListRules, LockRule, UnlockRule, ListBin, RestoreFromBin, CreatePolicy, GetPolicy, DeletePolicy, RunPolicy}
use Rattle.ebs_model.specs.declared.answer.Answer.{Answer}
use Rattle.ebs_model.specs.Keys.{snap_cmp}
use Rattle.ebs_model.specs.inner.Orders.{snaps_total}
use Rattle.ebs_model.specs.Arrays.{Hash, WholeArray}
use Rattle.ebs_model.specs.Time.{Snapshot, rested, stays, is_failed, status_at}
use Rattle.ebs_model.specs.Rows.{Rows, changed_row}
use Rattle.ebs_model.specs.Calls.Start.{commit_start, line_of, started_row}
use Rattle.ebs_model.specs.Calls.Put.{put_row}
use Rattle.ebs_model.specs.Calls.Complete.{completed_row}
use Rattle.ebs_model.specs.Calls.Disk.{commit_snap, snapped_row, with_snapped}
use Rattle.ebs_model.specs.Calls.Delete.{days_in_bin, deleted, deleted_by}
use Rattle.ebs_model.specs.Calls.Volume.{commit_create}
use Rattle.ebs_model.specs.Calls.Run.{run_row, run_by}
use Rattle.ebs_model.specs.Decide.{commit_by}
use Rattle.ebs_model.specs.Machine.{Machine, advance, rows_of, with_arrays}
use Rattle.ebs_model.specs.Step.{act}
use Rattle.ebs_model.proofs.Aged.{get-aged, aged_row}
use Rattle.ebs_model.proofs.RowLaws.{get-row, get-with, row_in, with_array}
use Rattle.ebs_recovery.specs.Made.{bare}
use Rattle.ebs_recovery.proofs.Outcomes.{IsAfter, IsOwn, is_after, stayed, moved}
use Rattle.ebs_disk_store.specs.inner.Shown.{HasIndexes, AreIndexed}
use Rattle.ebs_recovery.specs.inner.Changes.{IsRowChange}
use Rattle.ebs_recovery.proofs.Ran.{ran_fine}

abbrev pub AreFine : FinMap snap_cmp SnapRow → Type 0
AreFine snaps = (key : SnapKey) (row : SnapRow) → get snaps key ≡ Some row → HasIndexes row

-- a put is at an index of an image
abbrev pub IndexFits : Request → Type 0
IndexFits (PutSnapshotBlock key index digest bytes) = index < 2 ^ 25
IndexFits request = Unit {0}

some_is : {A : Type 0} (x y : A) → Some x ≡ Some y → x ≡ y
some_is x y e = cc

fine_insert : (snaps : FinMap snap_cmp SnapRow) (key : SnapKey) (row : SnapRow) → HasIndexes row → AreFine snaps → AreFine (insert snaps key row)
fine_insert snaps key row new fine q found e = at (eq_by_cmp snap_cmp q key) (sym (fin.get-insert snaps_total snaps key row q) ∙ e)
  where
    at : (b : Bool) → cond b (Some row) (get snaps q) ≡ Some found → HasIndexes found
    at true e = subst HasIndexes (some_is row found e) new
    at false e = fine q found e

fine_remove : (snaps : FinMap snap_cmp SnapRow) (key : SnapKey) → AreFine snaps → AreFine (remove snaps key)
fine_remove snaps key fine q found e = at (eq_by_cmp snap_cmp q key) (sym (fin.get-remove snaps_total snaps key q) ∙ e)
  where
    at : (b : Bool) → cond b None (get snaps q) ≡ Some found → HasIndexes found
    at true e = absurd (cc)
    at false e = fine q found e

fine_changed : (snaps : FinMap snap_cmp SnapRow) (key : SnapKey) (change : SnapRow → SnapRow) → ((row : SnapRow) → HasIndexes row → HasIndexes (change row)) → AreFine snaps → AreFine (changed_row snaps key change (get snaps key))
fine_changed snaps key change keeps fine = at (get snaps key) refl
  where
    at : (o : Option SnapRow) → get snaps key ≡ o → AreFine (changed_row snaps key change o)
    at None is = fine
    at (Some row) is = fine_insert snaps key (change row) (keeps row (fine key row is)) fine

none_there : (index : ℕ) → get {R = nat_cmp} (fin.empty {X = Unit {0}}) index ≡ Some tt → index < 2 ^ 25
none_there index h = absurd (nothing (sym (fin.get-empty {X = Unit {0}} nat_cmp index) ∙ h))
  where
    nothing : ◌≡◌ {A = Option (Unit {0})} None (Some tt) → ⊥
    nothing e = cc

none_put : (row : SnapRow) → row.put ≡ fin.empty → HasIndexes row
none_put row e index there = none_there index (ap (λ (s : FinMap nat_cmp (Unit {0})). get s index) (sym e) ∙ there)

one_put : (at : Moment) (index : ℕ) (row : SnapRow) → index < 2 ^ 25 → HasIndexes row → HasIndexes (put_row at index row)
one_put at index row new fine q e = by (eq_by_cmp nat_cmp q index) refl
  where
    by : (b : Bool) → eq_by_cmp nat_cmp q index ≡ b → q < 2 ^ 25
    by true same = let is : q ≡ index = is_same nat_cmp-IsAntisymmetric q index same in omega (arith, is, new)
    by false other = fine q (ap (λ (b : Bool). cond b (Some tt) (get row.put q)) (sym other) ∙ sym (fin.get-insert nat_cmp_total row.put index tt q) ∙ e)

-- ---- what a change makes of rows

deleted_fine : (rows : Rows) (at : Moment) (key : SnapKey) (o : Option SnapRow) → get rows.snaps key ≡ o → AreFine rows.snaps → AreFine (deleted rows at key o).snaps
deleted_fine rows at key None is fine = fine
deleted_fine rows at key (Some row) is fine = by (days_in_bin rows key row)
  where
    by : (o : Option ℕ) → AreFine (deleted_by rows at key row o).snaps
    by None = fine_remove rows.snaps key fine
    by (Some days) = fine_insert rows.snaps key _ (fine key row is) fine

snapped_fine : (rows : Rows) (at : Moment) (key : SnapKey) (volume : VolKey) (description : Option (List ℕ)) (tags : List Tag) (o : Option VolRow) → AreFine rows.snaps → AreFine (with_snapped rows at key volume description tags o).snaps
snapped_fine rows at key volume description tags None fine = fine
snapped_fine rows at key volume description tags (Some row) fine =
    let new : SnapRow = snapped_row at key volume row description tags in fine_insert rows.snaps key new (none_put new refl) fine

created_fine : (rows : Rows) (at : Moment) (volume : Option VolKey) (origin : Option SnapKey) (size : Option ℕ) (tags : List Tag) (token : Option (List ℕ)) → AreFine rows.snaps → AreFine (commit_create rows at volume origin size tags token).snaps
created_fine rows at None origin size tags token fine = fine
created_fine rows at (Some key) origin size tags token fine = fine

started_fine : (rows : Rows) (at : Moment) (made : Option SnapKey) (size : ℕ) (parent : Option SnapKey) (description : Option (List ℕ)) (tags : List Tag) (token : Option (List ℕ)) (timeout : ℕ) → AreFine rows.snaps
    → AreFine (commit_start rows at made size parent description tags token timeout).snaps
started_fine rows at None size parent description tags token timeout fine = fine
started_fine rows at (Some key) size parent description tags token timeout fine =
    let new : SnapRow = started_row at key size parent (line_of rows.snaps key parent) description tags timeout in fine_insert rows.snaps key new (none_put new refl) fine

snap_made : (rows : Rows) (at : Moment) (made : Option SnapKey) (volume : VolKey) (description : Option (List ℕ)) (tags : List Tag) → AreFine rows.snaps → AreFine (commit_snap rows at made volume description tags).snaps
snap_made rows at None volume description tags fine = fine
snap_made rows at (Some key) volume description tags fine = snapped_fine rows at key volume description tags (get rows.vols volume) fine

run_fine : (rows : Rows) (at : Moment) (key : PolicyKey) (o : Option Policy) → AreFine rows.snaps → AreFine (run_by rows at key o).snaps
run_fine rows at key None fine = fine
run_fine rows at key (Some p) fine = ran_fine HasIndexes (λ row h. h) (λ row end h. h) rows at key p (λ first e. none_put (run_row at first key p e) refl) fine

committed : (rows : Rows) (at : Moment) (account : ℕ) (made : Option SnapKey) (vol : Option VolKey) (request : Request) → IndexFits request → AreFine rows.snaps → AreFine (commit_by rows at account made vol request).snaps
committed rows at account made vol (StartSnapshot size parent description tags token timeout) fits fine = started_fine rows at made size parent description tags token timeout fine
committed rows at account made vol (PutSnapshotBlock key index digest bytes) fits fine = fine_changed rows.snaps key (put_row at index) (λ row h. one_put at index row fits h) fine
committed rows at account made vol (CompleteSnapshot key count checksum) fits fine = fine_changed rows.snaps key completed_row (λ row h. none_put (completed_row row) refl) fine
committed rows at account made vol (ListSnapshotBlocks key page most start) fits fine = fine
committed rows at account made vol (ListChangedBlocks first second page most start) fits fine = fine
committed rows at account made vol (GetSnapshotBlock key index token) fits fine = fine
committed rows at account made vol (DescribeSnapshot key) fits fine = fine
committed rows at account made vol (DescribeSnapshots from most) fits fine = fine
committed rows at account made vol (DeleteSnapshot key) fits fine = deleted_fine rows at key (get rows.snaps key) refl fine
committed rows at account made vol (ModifyPermission key add add_all remove remove_all) fits fine = fine_changed rows.snaps key _ (λ row h. h) fine
committed rows at account made vol (LockSnapshot key mode term cool_hours) fits fine = fine_changed rows.snaps key _ (λ row h. h) fine
committed rows at account made vol (UnlockSnapshot key) fits fine = fine_changed rows.snaps key _ (λ row h. h) fine
committed rows at account made vol (ArchiveSnapshot key) fits fine = fine_changed rows.snaps key _ (λ row h. h) fine
committed rows at account made vol (RestoreTier key days) fits fine = fine_changed rows.snaps key _ (λ row h. h) fine
committed rows at account made vol (CreateVolume origin size tags token) fits fine = created_fine rows at vol origin size tags token fine
committed rows at account made vol (CreateSnapshot volume description tags) fits fine = snap_made rows at made volume description tags fine
committed rows at account made vol (WriteVolumeBlock key index digest bytes) fits fine = fine
committed rows at account made vol (ReadVolumeBlock key index) fits fine = fine
committed rows at account made vol (DescribeVolume key) fits fine = fine
committed rows at account made vol (DeleteVolume key) fits fine = fine
committed rows at account made vol (CreateRule days tags description delay) fits fine = fine
committed rows at account made vol (GetRule key) fits fine = fine
committed rows at account made vol (UpdateRule key days tags description) fits fine = fine
committed rows at account made vol (DeleteRule key) fits fine = fine
committed rows at account made vol ListRules fits fine = fine
committed rows at account made vol (LockRule key delay) fits fine = fine
committed rows at account made vol (UnlockRule key) fits fine = fine
committed rows at account made vol (ListBin from most) fits fine = fine
committed rows at account made vol (RestoreFromBin key) fits fine = fine_changed rows.snaps key _ (λ row h. h) fine
committed rows at account made vol (CreatePolicy targets hours time retain add) fits fine = fine
committed rows at account made vol (GetPolicy key) fits fine = fine
committed rows at account made vol (DeletePolicy key) fits fine = fine
committed rows at account made vol (RunPolicy key) fits fine = run_fine rows at key (get rows.policies key) fine

-- ---- of machines

indexed_with : (rows : FinMap snap_cmp SnapRow) (array : SnapKey → WholeArray) → AreFine rows → (q : SnapKey) (s : Snapshot) → get (with_arrays rows array) q ≡ Some s → HasIndexes s.row
indexed_with rows array fine q s e = at (get rows q) refl (sym (get-with rows array q) ∙ e)
  where
    at : (o : Option SnapRow) → get rows q ≡ o → option_map (with_array (array q)) o ≡ Some s → HasIndexes s.row
    at None is e = absurd (cc)
    at (Some row) is e = subst (λ (x : Snapshot). HasIndexes x.row) (some_is _ _ e) (fine q row is)

pub rows_fine : (m : Machine) → AreIndexed m → AreFine (rows_of m).snaps
rows_fine m indexed key row e = at (get m.snaps key) refl (sym (get-row m.snaps key) ∙ e)
  where
    at : (o : Option Snapshot) → get m.snaps key ≡ o → row_in o ≡ Some row → HasIndexes row
    at None is e = absurd (cc)
    at (Some s) is e = subst HasIndexes (some_is s.row row e) (indexed key s is)

-- time takes indexes away
pub indexed_aged : (m : Machine) (now : Moment) → AreIndexed m → AreIndexed (advance m now)
indexed_aged m now indexed key s e = at (get m.snaps key) refl (sym (get-aged now.second m.snaps key) ∙ e)
  where
    left : (row : SnapRow) (b : Bool) → HasIndexes row → HasIndexes (record row { put = cond b fin.empty row.put })
    left row true h = none_put (record row { put = fin.empty }) refl
    left row false h = h

    at : (o : Option Snapshot) → get m.snaps key ≡ o → aged_row now.second o ≡ Some s → HasIndexes s.row
    at None is e = absurd (cc)
    at (Some old) is e = by (stays now.second old.row) e
      where
        by : (b : Bool) → option_map (rested now.second) (cond b (Some old) None) ≡ Some s → HasIndexes s.row
        by true e = subst (λ (x : Snapshot). HasIndexes x.row) (some_is _ _ e) (left old.row (is_failed (status_at old.row now.second)) (indexed key old is))
        by false e = absurd (cc)

fits_bare : (request : Request) → IndexFits request → IndexFits (bare request)
fits_bare (StartSnapshot size parent description tags token timeout) h = tt
fits_bare (PutSnapshotBlock key index digest bytes) h = h
fits_bare (CompleteSnapshot key count checksum) h = tt
fits_bare (ListSnapshotBlocks key page most start) h = tt
fits_bare (ListChangedBlocks first second page most start) h = tt
fits_bare (GetSnapshotBlock key index token) h = tt
fits_bare (DescribeSnapshot key) h = tt
fits_bare (DescribeSnapshots from most) h = tt
fits_bare (DeleteSnapshot key) h = tt
fits_bare (ModifyPermission key add add_all remove remove_all) h = tt
fits_bare (LockSnapshot key mode term cool_hours) h = tt
fits_bare (UnlockSnapshot key) h = tt
fits_bare (ArchiveSnapshot key) h = tt
fits_bare (RestoreTier key days) h = tt
fits_bare (CreateVolume origin size tags token) h = tt
fits_bare (CreateSnapshot volume description tags) h = tt
fits_bare (WriteVolumeBlock key index digest bytes) h = tt
fits_bare (ReadVolumeBlock key index) h = tt
fits_bare (DescribeVolume key) h = tt
fits_bare (DeleteVolume key) h = tt
fits_bare (CreateRule days tags description delay) h = tt
fits_bare (GetRule key) h = tt
fits_bare (UpdateRule key days tags description) h = tt
fits_bare (DeleteRule key) h = tt
fits_bare ListRules h = tt
fits_bare (LockRule key delay) h = tt
fits_bare (UnlockRule key) h = tt
fits_bare (ListBin from most) h = tt
fits_bare (RestoreFromBin key) h = tt
fits_bare (CreatePolicy targets hours time retain add) h = tt
fits_bare (GetPolicy key) h = tt
fits_bare (DeletePolicy key) h = tt
fits_bare (RunPolicy key) h = tt

fits_own : (request r : Request) → IsOwn request r → IndexFits request → IndexFits r
fits_own request r (inl is) h = subst IndexFits (sym is) (fits_bare request h)
fits_own request r (inr sized) h = subst IndexFits (sym sized.is) tt

indexed_after : (m : Machine) (request : Request) (n : Machine) → IsAfter m request n → IndexFits request → AreIndexed m → AreIndexed n
indexed_after m request n (stayed is) fits indexed = subst AreIndexed (sym is) indexed
indexed_after m request n (moved c of is) fits indexed =
    subst AreIndexed (sym is) (indexed_with _ _ (committed (rows_of m) c.at c.account _ _ c.request (fits_own request c.request of fits) (rows_fine m indexed)))

-- after an accepted call
pub indexed_acts : (hash : Hash) (m : Machine) (now : Moment) (account : ℕ) (request : Request) (n : Machine) (answer : Answer) → act hash (advance m now) account request ≡ Ok (n, answer) → IndexFits request → AreIndexed m → AreIndexed n
indexed_acts hash m now account request n answer e fits indexed =
    indexed_after (advance m now) request n (is_after hash (advance m now) account request n answer e) fits (indexed_aged m now indexed)

-- a row's call puts nothing
pub row_fits : (request : Request) → IsRowChange request → IndexFits request
row_fits (StartSnapshot size parent description tags token timeout) h = tt
row_fits (PutSnapshotBlock key index digest bytes) h = absurd h
row_fits (CompleteSnapshot key count checksum) h = tt
row_fits (ListSnapshotBlocks key page most start) h = tt
row_fits (ListChangedBlocks first second page most start) h = tt
row_fits (GetSnapshotBlock key index token) h = tt
row_fits (DescribeSnapshot key) h = tt
row_fits (DescribeSnapshots from most) h = tt
row_fits (DeleteSnapshot key) h = tt
row_fits (ModifyPermission key add add_all remove remove_all) h = tt
row_fits (LockSnapshot key mode term cool_hours) h = tt
row_fits (UnlockSnapshot key) h = tt
row_fits (ArchiveSnapshot key) h = tt
row_fits (RestoreTier key days) h = tt
row_fits (CreateVolume origin size tags token) h = tt
row_fits (CreateSnapshot volume description tags) h = tt
row_fits (WriteVolumeBlock key index digest bytes) h = tt
row_fits (ReadVolumeBlock key index) h = tt
row_fits (DescribeVolume key) h = tt
row_fits (DeleteVolume key) h = tt
row_fits (CreateRule days tags description delay) h = tt
row_fits (GetRule key) h = tt
row_fits (UpdateRule key days tags description) h = tt
row_fits (DeleteRule key) h = tt
row_fits ListRules h = tt
row_fits (LockRule key delay) h = tt
row_fits (UnlockRule key) h = tt
row_fits (ListBin from most) h = tt
row_fits (RestoreFromBin key) h = tt
row_fits (CreatePolicy targets hours time retain add) h = tt
row_fits (GetPolicy key) h = absurd h
row_fits (DeletePolicy key) h = tt
row_fits (RunPolicy key) h = tt
