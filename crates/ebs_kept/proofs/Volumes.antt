-- The rows and arrays of volumes after a change.
use Rattle.std.proofs.Common.{◌≡◌, ℕ, Bool, true, false, cond, unwrap_or, List, Option, None, Some, refl, sym, ap, subst, ◌∙◌}
use Rattle.std.specs.Ordering.{eq_by_cmp}
use Rattle.std.specs.FinMap.{FinMap, get, insert, remove, empty, get-insert, get-remove}
use Rattle.ebs_tables.proofs.MapEdits.{tied}
use Rattle.ebs_model.specs.declared.keys.SnapKey.{SnapKey}
use Rattle.ebs_model.specs.declared.keys.VolKey.{VolKey}
use Rattle.ebs_model.specs.declared.keys.Moment.{Moment}
use Rattle.ebs_model.specs.declared.rows.VolRow.{VolRow}
use Rattle.ebs_model.specs.declared.rows.SnapRow.{SnapRow}
use Rattle.ebs_model.specs.declared.tags.Tag.{Tag}
use Rattle.ebs_model.specs.declared.request.Request.{Request}
use Rattle.ebs_model.specs.declared.request.Request.TheVariants.{StartSnapshot, PutSnapshotBlock, CompleteSnapshot, ListSnapshotBlocks, ListChangedBlocks, GetSnapshotBlock, DescribeSnapshot, DescribeSnapshots, DeleteSnapshot, ModifyPermission, LockSnapshot, UnlockSnapshot, ArchiveSnapshot, RestoreTier, CreateVolume, CreateSnapshot, WriteVolumeBlock, ReadVolumeBlock, DescribeVolume, DeleteVolume, CreateRule, GetRule, UpdateRule, DeleteRule, ListRules, LockRule, UnlockRule, ListBin, RestoreFromBin, CreatePolicy, GetPolicy, DeletePolicy, RunPolicy}
use Rattle.ebs_model.specs.Keys.{vol_cmp}
use Rattle.ebs_model.specs.inner.Orders.{vols_total}
use Rattle.ebs_model.specs.Limits.{is_size}
use Rattle.ebs_model.specs.Arrays.{WholeArray}
use Rattle.ebs_model.specs.Rows.{Rows}
use Rattle.ebs_model.specs.inner.Rows.{aged}
use Rattle.ebs_model.specs.Decide.{commit_by}
use Rattle.ebs_model.specs.Calls.Disk.{commit_snap, with_snapped}
use Rattle.ebs_model.specs.Calls.Volume.{commit_create}
use Rattle.ebs_model.specs.Calls.Delete.{days_in_bin, deleted_by, deleted}
use Rattle.ebs_model.specs.Machine.{Machine, advance, disk_of}
use Rattle.ebs_model.specs.Step.{begun_array, disks_by}
use Rattle.ebs_model.proofs.Commits.{Facts}
use Rattle.ebs_catalog.specs.Decided.{Passed}
use Rattle.ebs_kept.specs.inner.Shown.{AreGoodVolumes, with_disks}
use Rattle.ebs_kept.proofs.Arrays.{begun_by, begun_in, disks_after}
use Rattle.ebs_kept.specs.inner.Requests.{Brings}
use Rattle.ebs_kept.proofs.Committed.{IsMadeGood}
use Rattle.ebs_model.specs.declared.keys.PolicyKey.{PolicyKey}
use Rattle.ebs_kept.proofs.Runs.{run-vols}
use Rattle.ebs_kept.proofs.Disks.{disks-insert, disks-set, disks-remove}

-- a size that rows decided is one that an image can have, where those of the rows are
pub made-good : (rows : Rows) (at : Moment) (account : ℕ) (shared : List ℕ) → ((key : SnapKey) (row : SnapRow) → get rows.snaps key ≡ Some row → is_size row.size ≡ true) → (request : Request) → Passed rows at account shared request → IsMadeGood request
made-good rows at account shared good (StartSnapshot size parent description tags token timeout) passed = passed.0
made-good rows at account shared good (PutSnapshotBlock key index stated left) passed = tt
made-good rows at account shared good (CompleteSnapshot key count checksum) passed = tt
made-good rows at account shared good (ListSnapshotBlocks key page most start) passed = tt
made-good rows at account shared good (ListChangedBlocks first second page most start) passed = tt
made-good rows at account shared good (GetSnapshotBlock key index token) passed = tt
made-good rows at account shared good (DescribeSnapshot key) passed = tt
made-good rows at account shared good (DescribeSnapshots from most) passed = tt
made-good rows at account shared good (DeleteSnapshot key) passed = tt
made-good rows at account shared good (ModifyPermission key add add_all take take_all) passed = tt
made-good rows at account shared good (LockSnapshot key mode term cool_hours) passed = tt
made-good rows at account shared good (UnlockSnapshot key) passed = tt
made-good rows at account shared good (ArchiveSnapshot key) passed = tt
made-good rows at account shared good (RestoreTier key days) passed = tt
made-good rows at account shared good (CreateVolume origin size tags token) passed = of_origin origin passed
  where
    of_origin : (origin : Option SnapKey) → Passed rows at account shared (CreateVolume origin size tags token) → is_size (unwrap_or size 0) ≡ true
    of_origin None is = is
    of_origin (Some key) source = source.within (good key source.row source.found)
made-good rows at account shared good (CreateSnapshot source description tags) passed = tt
made-good rows at account shared good (WriteVolumeBlock key index stated left) passed = tt
made-good rows at account shared good (ReadVolumeBlock key index) passed = tt
made-good rows at account shared good (DescribeVolume key) passed = tt
made-good rows at account shared good (DeleteVolume key) passed = tt
made-good rows at account shared good (CreateRule days tags description delay) passed = tt
made-good rows at account shared good (GetRule key) passed = tt
made-good rows at account shared good (UpdateRule key days tags description) passed = tt
made-good rows at account shared good (DeleteRule key) passed = tt
made-good rows at account shared good ListRules passed = tt
made-good rows at account shared good (LockRule key delay) passed = tt
made-good rows at account shared good (UnlockRule key) passed = tt
made-good rows at account shared good (ListBin from most) passed = tt
made-good rows at account shared good (RestoreFromBin key) passed = tt
made-good rows at account shared good (CreatePolicy targets hours time retain add) passed = tt
made-good rows at account shared good (GetPolicy key) passed = tt
made-good rows at account shared good (DeletePolicy key) passed = tt
made-good rows at account shared good (RunPolicy key) passed = tt

module _ (now : ℕ) (at : Moment) (account : ℕ) (rows : Rows) (made : Option SnapKey) (volume : Option VolKey) where
  abbrev After : Request → FinMap vol_cmp VolRow
  After request = (commit_by (aged now rows) at account made volume request).vols

  snapped-stay : (source : VolKey) (description : Option (List ℕ)) (tags : List Tag) → After (CreateSnapshot source description tags) ≡ rows.vols
  snapped-stay source description tags = by made (get rows.vols source)
    where
      of_row : (key : SnapKey) (o : Option VolRow) → (with_snapped (aged now rows) at key source description tags o).vols ≡ rows.vols
      of_row key None = refl
      of_row key (Some row) = refl

      by : (made : Option SnapKey) (o : Option VolRow) → (commit_snap (aged now rows) at made source description tags).vols ≡ rows.vols
      by None o = refl
      by (Some key) o = of_row key (get rows.vols source)

  started-stay : (made : Option SnapKey) (size : ℕ) (parent : Option SnapKey) (description : Option (List ℕ)) (tags : List Tag) (token : Option (List ℕ)) (timeout : ℕ) → (commit_by (aged now rows) at account made volume (StartSnapshot size parent description tags token timeout)).vols ≡ rows.vols
  started-stay None size parent description tags token timeout = refl
  started-stay (Some key) size parent description tags token timeout = refl

  deleted-stay : (key : SnapKey) → After (DeleteSnapshot key) ≡ rows.vols
  deleted-stay key = of_row (get (aged now rows).snaps key)
    where
      by : (row : SnapRow) (days : Option ℕ) → (deleted_by (aged now rows) at key row days).vols ≡ rows.vols
      by row None = refl
      by row (Some days) = refl

      of_row : (o : Option SnapRow) → (deleted (aged now rows) at key o).vols ≡ rows.vols
      of_row None = refl
      of_row (Some row) = by row (days_in_bin (aged now rows) key row)

  run-stay : (key : PolicyKey) → After (RunPolicy key) ≡ rows.vols
  run-stay key = run-vols (aged now rows) at key (get rows.policies key)

  -- the sizes of volumes are those that an image can have
  module _ (good : AreGoodVolumes rows.vols) where
    left-good : (key : VolKey) → AreGoodVolumes (remove rows.vols key)
    left-good key q row e = by (eq_by_cmp vol_cmp q key) (sym (get-remove vols_total rows.vols key q) ∙ e)
      where
        by : (b : Bool) → cond b None (get rows.vols q) ≡ Some row → is_size row.size ≡ true
        by true e = cc
        by false e = good q row e

    more-good : (key : VolKey) (new : VolRow) → is_size new.size ≡ true → AreGoodVolumes (insert rows.vols key new)
    more-good key new fits q row e = by (eq_by_cmp vol_cmp q key) (sym (get-insert vols_total rows.vols key new q) ∙ e)
      where
        by : (b : Bool) → cond b (Some new) (get rows.vols q) ≡ Some row → is_size row.size ≡ true
        by true e = let same : new ≡ row = cc in subst (λ (r : VolRow). is_size r.size ≡ true) same fits
        by false e = good q row e

    created-good : (volume : Option VolKey) (origin : Option SnapKey) (size : Option ℕ) (tags : List Tag) (token : Option (List ℕ)) → is_size (unwrap_or size 0) ≡ true → AreGoodVolumes (commit_create (aged now rows) at volume origin size tags token).vols
    created-good None origin size tags token fits = good
    created-good (Some key) origin size tags token fits = more-good key _ fits

    pub volumes-committed : (request : Request) → IsMadeGood request → AreGoodVolumes (After request)
    volumes-committed (StartSnapshot size parent description tags token timeout) fits = subst AreGoodVolumes (sym (started-stay made size parent description tags token timeout)) good
    volumes-committed (PutSnapshotBlock key index stated left) fits = good
    volumes-committed (CompleteSnapshot key count checksum) fits = good
    volumes-committed (ListSnapshotBlocks key page most start) fits = good
    volumes-committed (ListChangedBlocks first second page most start) fits = good
    volumes-committed (GetSnapshotBlock key index token) fits = good
    volumes-committed (DescribeSnapshot key) fits = good
    volumes-committed (DescribeSnapshots from most) fits = good
    volumes-committed (DeleteSnapshot key) fits = subst AreGoodVolumes (sym (deleted-stay key)) good
    volumes-committed (ModifyPermission key add add_all take take_all) fits = good
    volumes-committed (LockSnapshot key mode term cool_hours) fits = good
    volumes-committed (UnlockSnapshot key) fits = good
    volumes-committed (ArchiveSnapshot key) fits = good
    volumes-committed (RestoreTier key days) fits = good
    volumes-committed (CreateVolume origin size tags token) fits = created-good volume origin size tags token fits
    volumes-committed (CreateSnapshot source description tags) fits = subst AreGoodVolumes (sym (snapped-stay source description tags)) good
    volumes-committed (WriteVolumeBlock key index stated left) fits = good
    volumes-committed (ReadVolumeBlock key index) fits = good
    volumes-committed (DescribeVolume key) fits = good
    volumes-committed (DeleteVolume key) fits = left-good key
    volumes-committed (CreateRule days tags description delay) fits = good
    volumes-committed (GetRule key) fits = good
    volumes-committed (UpdateRule key days tags description) fits = good
    volumes-committed (DeleteRule key) fits = good
    volumes-committed ListRules fits = good
    volumes-committed (LockRule key delay) fits = good
    volumes-committed (UnlockRule key) fits = good
    volumes-committed (ListBin from most) fits = good
    volumes-committed (RestoreFromBin key) fits = good
    volumes-committed (CreatePolicy targets hours time retain add) fits = good
    volumes-committed (GetPolicy key) fits = good
    volumes-committed (DeletePolicy key) fits = good
    volumes-committed (RunPolicy key) fits = subst AreGoodVolumes (sym (run-stay key)) good

  module _ (array : SnapKey → WholeArray) (disk : VolKey → WholeArray) (m : Machine) (to : Moment) (are : with_disks rows.vols disk ≡ m.disks)
      (begun_is : (origin : Option SnapKey) → begun_by now rows array origin ≡ begun_array (advance m to) origin)
      (disks_are : (key : VolKey) (row : VolRow) → get rows.vols key ≡ Some row → disk_of m key ≡ disk key) where
    abbrev After_it : List ℕ → Request → VolKey → WholeArray
    After_it digest request = disks_after m.stamps digest (begun_in now rows array disk request) disk volume request

    chosen : (key : VolKey) (x y : WholeArray) → cond (eq_by_cmp vol_cmp key key) x y ≡ x
    chosen key x y = ap (λ b. cond b x y) (tied vols_total key)

    created-is : (volume : Option VolKey) (digest bytes : List ℕ) (origin : Option SnapKey) (size : Option ℕ) (tags : List Tag) (token : Option (List ℕ))
        → with_disks (commit_create (aged now rows) at volume origin size tags token).vols (disks_after m.stamps digest (begun_by now rows array origin) disk volume (CreateVolume origin size tags token)) ≡ disks_by (advance m to) bytes volume (CreateVolume origin size tags token)
    created-is None digest bytes origin size tags token = are
    created-is (Some key) digest bytes origin size tags token =
        let begun = begun_by now rows array origin in
        disks-insert rows.vols key disk (λ q. cond (eq_by_cmp vol_cmp q key) begun (disk q)) (λ q other. ap (λ b. cond b begun (disk q)) other) _
        ∙ (λ i. insert (are i) key ((chosen key begun (disk key) ∙ begun_is origin) i))

    written-is : (digest bytes : List ℕ) (key : VolKey) (index : ℕ) (row : VolRow) → get rows.vols key ≡ Some row → bytes ≡ digest
        → with_disks rows.vols (λ q. cond (eq_by_cmp vol_cmp q key) (insert (disk q) index (record { stamp = m.stamps; bytes = digest })) (disk q)) ≡ insert m.disks key (insert (disk_of m key) index (record { stamp = m.stamps; bytes = bytes }))
    written-is digest bytes key index row found brings =
        disks-set rows.vols key disk (λ q. cond (eq_by_cmp vol_cmp q key) (insert (disk q) index (record { stamp = m.stamps; bytes = digest })) (disk q))
        (λ q other. ap (λ b. cond b (insert (disk q) index (record { stamp = m.stamps; bytes = digest })) (disk q)) other) row found
        ∙ (λ i. insert (are i) key ((chosen key (insert (disk key) index (record { stamp = m.stamps; bytes = digest })) (disk key)
        ∙ (λ j. insert (sym (disks_are key row found) j) index (record { stamp = m.stamps; bytes = sym brings j }))) i))

    dropped-is : (key : VolKey) → with_disks (remove rows.vols key) (λ q. cond (eq_by_cmp vol_cmp q key) empty (disk q)) ≡ remove m.disks key
    dropped-is key =
        disks-remove rows.vols key disk (λ q. cond (eq_by_cmp vol_cmp q key) empty (disk q)) (λ q other. ap (λ b. cond b empty (disk q)) other)
        ∙ ap (λ (d : FinMap vol_cmp WholeArray). remove d key) are

    pub disks-committed : (digest bytes : List ℕ) (request : Request) → Brings request digest bytes → Facts (aged now rows) account made request now
        → with_disks (After request) (After_it digest request) ≡ disks_by (advance m to) bytes volume request
    disks-committed digest bytes (StartSnapshot size parent description tags token timeout) brings facts = ap (λ (v : FinMap vol_cmp VolRow). with_disks v disk) (started-stay made size parent description tags token timeout) ∙ are
    disks-committed digest bytes (PutSnapshotBlock key index stated left) brings facts = are
    disks-committed digest bytes (CompleteSnapshot key count checksum) brings facts = are
    disks-committed digest bytes (ListSnapshotBlocks key page most start) brings facts = are
    disks-committed digest bytes (ListChangedBlocks first second page most start) brings facts = are
    disks-committed digest bytes (GetSnapshotBlock key index token) brings facts = are
    disks-committed digest bytes (DescribeSnapshot key) brings facts = are
    disks-committed digest bytes (DescribeSnapshots from most) brings facts = are
    disks-committed digest bytes (DeleteSnapshot key) brings facts = ap (λ (v : FinMap vol_cmp VolRow). with_disks v disk) (deleted-stay key) ∙ are
    disks-committed digest bytes (ModifyPermission key add add_all take take_all) brings facts = are
    disks-committed digest bytes (LockSnapshot key mode term cool_hours) brings facts = are
    disks-committed digest bytes (UnlockSnapshot key) brings facts = are
    disks-committed digest bytes (ArchiveSnapshot key) brings facts = are
    disks-committed digest bytes (RestoreTier key days) brings facts = are
    disks-committed digest bytes (CreateVolume origin size tags token) brings facts = created-is volume digest bytes origin size tags token
    disks-committed digest bytes (CreateSnapshot source description tags) brings facts = ap (λ (v : FinMap vol_cmp VolRow). with_disks v disk) (snapped-stay source description tags) ∙ are
    disks-committed digest bytes (WriteVolumeBlock key index stated left) brings facts = written-is digest bytes key index facts.0 facts.1 brings
    disks-committed digest bytes (ReadVolumeBlock key index) brings facts = are
    disks-committed digest bytes (DescribeVolume key) brings facts = are
    disks-committed digest bytes (DeleteVolume key) brings facts = dropped-is key
    disks-committed digest bytes (CreateRule days tags description delay) brings facts = are
    disks-committed digest bytes (GetRule key) brings facts = are
    disks-committed digest bytes (UpdateRule key days tags description) brings facts = are
    disks-committed digest bytes (DeleteRule key) brings facts = are
    disks-committed digest bytes ListRules brings facts = are
    disks-committed digest bytes (LockRule key delay) brings facts = are
    disks-committed digest bytes (UnlockRule key) brings facts = are
    disks-committed digest bytes (ListBin from most) brings facts = are
    disks-committed digest bytes (RestoreFromBin key) brings facts = are
    disks-committed digest bytes (CreatePolicy targets hours time retain add) brings facts = are
    disks-committed digest bytes (GetPolicy key) brings facts = are
    disks-committed digest bytes (DeletePolicy key) brings facts = are
    disks-committed digest bytes (RunPolicy key) brings facts = ap (λ (v : FinMap vol_cmp VolRow). with_disks v disk) (run-stay key) ∙ are
