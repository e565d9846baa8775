-- What is shown after a change that rows decided.
use Rattle.std.proofs.Common.{◌≡◌, ℕ, ◌+◌, ◌*◌, ◌≤◌, Bool, true, false, cond, nat_le, unwrap_or, List, Option, Some, None, refl, sym, ap, subst, ◌∙◌}
use Rattle.std.specs.Ordering.{eq_by_cmp}
use Rattle.std.specs.FinMap.{FinMap, get, insert, remove, empty, get-insert, get-remove}
use Rattle.ebs_tables.proofs.MapEdits.{is_same}
use Rattle.ebs_model.specs.declared.keys.SnapKey.{SnapKey}
use Rattle.ebs_model.specs.declared.keys.VolKey.{VolKey}
use Rattle.ebs_model.specs.declared.keys.PolicyKey.{PolicyKey}
use Rattle.ebs_model.specs.declared.keys.AnyKey.{AnyKey}
use Rattle.ebs_model.specs.declared.keys.Moment.{Moment}
use Rattle.ebs_model.specs.declared.tags.Tag.{Tag}
use Rattle.ebs_model.specs.declared.rows.SnapRow.{SnapRow}
use Rattle.ebs_model.specs.declared.rows.VolRow.{VolRow}
use Rattle.ebs_model.specs.declared.request.Request.{Request}
use Rattle.ebs_model.specs.declared.request.Request.TheVariants.{StartSnapshot, PutSnapshotBlock, CompleteSnapshot, ListSnapshotBlocks, ListChangedBlocks, GetSnapshotBlock, DescribeSnapshot, DescribeSnapshots, DeleteSnapshot, ModifyPermission, LockSnapshot, UnlockSnapshot, ArchiveSnapshot, RestoreTier, CreateVolume, CreateSnapshot, WriteVolumeBlock, ReadVolumeBlock, DescribeVolume, DeleteVolume, CreateRule, GetRule, UpdateRule, DeleteRule, ListRules, LockRule, UnlockRule, ListBin, RestoreFromBin, CreatePolicy, GetPolicy, DeletePolicy, RunPolicy}
use Rattle.ebs_model.specs.Keys.{snap_cmp}
use Rattle.ebs_model.specs.Limits.{is_size}
use Rattle.ebs_model.specs.inner.Orders.{snaps_total, exact_snaps}
use Rattle.ebs_model.specs.Arrays.{WholeBlock, WholeArray}
use Rattle.ebs_model.specs.Time.{status_at, status_by, is_failed, is_pending}
use Rattle.ebs_model.specs.inner.Time.{has_blocks}
use Rattle.ebs_model.specs.Rows.{Rows, changed_row}
use Rattle.ebs_model.specs.inner.Rows.{aged, aged_snaps}
use Rattle.ebs_model.specs.Decide.{commit_by}
use Rattle.ebs_model.specs.Calls.Start.{started_row, line_of, next_key}
use Rattle.ebs_model.specs.Calls.Put.{put_row}
use Rattle.ebs_model.specs.Calls.Complete.{completed_row}
use Rattle.ebs_model.specs.declared.lock.LockCommand.TheVariants.{Lock, Unlock}
use Rattle.ebs_model.specs.Calls.Permission.{permitted_row}
use Rattle.ebs_model.specs.Calls.Lock.{locked_row}
use Rattle.ebs_model.specs.Calls.Archive.{archived_row, restored_row}
use Rattle.ebs_model.specs.Calls.Volume.{commit_create}
use Rattle.ebs_model.specs.Calls.Delete.{days_in_bin, deleted_by, deleted}
use Rattle.ebs_model.specs.Calls.Bin.{recovered}
use Rattle.ebs_model.specs.Rules.{bin_end}
use Rattle.ebs_model.specs.Calls.Disk.{snapped_row, with_snapped, commit_snap}
use Rattle.ebs_model.specs.Calls.Run.{due_targets, source_of, run_by, run_source, freed}
use Rattle.ebs_model.specs.declared.policy.Policy.{Policy}
use Rattle.ebs_model.proofs.RunLaws.{new_row, or_else, get-run}
use Rattle.ebs_model.proofs.RowLaws.{get-aged_snaps}
use Rattle.ebs_model.proofs.Commits.{left_array, array-stays, IsOpenRow, IsDoneRow, Facts}
use Rattle.ebs_kept.specs.inner.Shown.{IsGoodRow, AreGoodVolumes}
use Rattle.ebs_kept.proofs.Arrays.{is_new, begun_by, begun_in, copies_of, copies_in, copied, arrays_after}
use Rattle.ebs_kept.proofs.Runs.{AreMade, IsFound, due-found, from_source, copied-made, new-at, run-kept}
use Rattle.ebs_kept.proofs.Timely.{on_time, pending-not-failed, completed-not-failed}

one_is : {A : Type 0} (x y : A) → ◌≡◌ {A = Option A} (Some x) (Some y) → x ≡ y
one_is x y e = cc

-- an upload that hasn't failed isn't completed
pending-open : (completed b : Bool) → is_pending (status_by completed b) ≡ true → completed ≡ false
pending-open true b e = cc
pending-open false b e = refl

-- what time decides of the arrays of kept rows
abbrev pub left_by : ℕ → Rows → (SnapKey → WholeArray) → SnapKey → WholeArray
left_by now rows array key = cond (has_blocks now (get rows.snaps key)) (array key) empty

abbrev pub begun_array : ℕ → Rows → (SnapKey → WholeArray) → Option SnapKey → WholeArray
begun_array now rows array None = empty
begun_array now rows array (Some parent) = left_by now rows array parent

-- the arrays of the machine after the change, of what is kept
abbrev pub machine_after : ℕ → ℕ → Rows → (SnapKey → WholeArray) → (VolKey → WholeArray) → List ℕ → Option SnapKey → Request → SnapKey → WholeArray
machine_after now stamp rows array disk bytes made (StartSnapshot size parent description tags token timeout) key = cond (is_new snap_cmp key made) (begun_array now rows array parent) (left_by now rows array key)
machine_after now stamp rows array disk bytes made (CreateSnapshot source description tags) key = cond (is_new snap_cmp key made) (disk source) (left_by now rows array key)
machine_after now stamp rows array disk bytes made (PutSnapshotBlock at index digest left) key = cond (eq_by_cmp snap_cmp key at) (insert (left_by now rows array key) index (record { stamp = stamp; bytes = bytes })) (left_by now rows array key)
machine_after now stamp rows array disk bytes made (RunPolicy policy) key = from_source disk (run_source (aged now rows) now policy (get rows.policies policy) key) (left_by now rows array key)
machine_after now stamp rows array disk bytes made request key = left_by now rows array key

-- a size that the change gives is one that an image can have
abbrev pub IsMadeGood : Request → Type 0
IsMadeGood (StartSnapshot size parent description tags token timeout) = is_size size ≡ true
IsMadeGood (CreateVolume origin size tags token) = is_size (unwrap_or size 0) ≡ true
IsMadeGood request = Unit {0}

pub begun-is : (now : ℕ) (rows : Rows) (array : SnapKey → WholeArray) (parent : Option SnapKey) → begun_by now rows array parent ≡ begun_array now rows array parent
begun-is now rows array None = refl
begun-is now rows array (Some parent) = refl

unfailed : (now : ℕ) (row : SnapRow) (array : WholeArray) → is_failed (status_at row now) ≡ false → left_array now row array ≡ array
unfailed now row array e = ap (λ b. cond b empty array) e

module _ (now : ℕ) (at : Moment) (at_is : at.second ≡ now) (stamp : ℕ) (rows : Rows) (array : SnapKey → WholeArray) (disk : VolKey → WholeArray) (digest : List ℕ) where
  abbrev left : FinMap snap_cmp SnapRow
  left = aged_snaps now rows.snaps

  -- a row that the change leaves
  others : (q : SnapKey) (row : SnapRow) → get left q ≡ Some row → left_array now row (array q) ≡ left_by now rows array q
  others q row e = array-stays now (array q) (get rows.snaps q) row (sym (get-aged_snaps now rows.snaps q) ∙ e)

  -- a row in the place of another, or the one that was there
  parted : (key : SnapKey) (new : SnapRow) (q : SnapKey) (row : SnapRow) (P : Bool → SnapRow → Type 0) → get (insert left key new) q ≡ Some row
      → (q ≡ key → P true new) → (get left q ≡ Some row → P false row) → P (eq_by_cmp snap_cmp q key) row
  parted key new q row P e here there = by (eq_by_cmp snap_cmp q key) refl (sym (get-insert snaps_total left key new q) ∙ e)
    where
      by : (b : Bool) → eq_by_cmp snap_cmp q key ≡ b → cond b (Some new) (get left q) ≡ Some row → P b row
      by true t e =
          let row_is : new ≡ row = cc in
          subst (P true) row_is (here (is_same exact_snaps q key t))
      by false t e = there e

  -- a row at the moment that hasn't failed, whose array is then all that is kept
  whole_sound : (key : SnapKey) (row : SnapRow) → get left key ≡ Some row → is_failed (status_at row now) ≡ false → array key ≡ left_by now rows array key
  whole_sound key row found sound = sym (unfailed now row (array key) sound) ∙ others key row found

  whole_left : (key : SnapKey) (row : SnapRow) → IsOpenRow (aged now rows) now key row → array key ≡ left_by now rows array key
  whole_left key row going = whole_sound key row going.found (pending-not-failed (status_at row now) going.is_open)

  module _ (made : Option SnapKey) (volume : Option VolKey) (account : ℕ) (ids sources : List AnyKey) (good : (key : SnapKey) (row : SnapRow) → get left key ≡ Some row → IsGoodRow row) (volumes : AreGoodVolumes rows.vols) where
    abbrev Is : Request → Type 0
    Is request = (q : SnapKey) (row : SnapRow) → get (commit_by (aged now rows) at account made volume request).snaps q ≡ Some row
        → left_array now row (copied (copies_in disk ids sources request) q (arrays_after stamp digest (begun_in now rows array disk request) array made request q)) ≡ machine_after now stamp rows array disk digest made request q

    -- what the change makes begins with blocks
    made-each : (key : SnapKey) (new : SnapRow) (begins begun : WholeArray) → left_array now new begins ≡ begun → (q : SnapKey) (row : SnapRow) → get (insert left key new) q ≡ Some row
        → left_array now row (cond (eq_by_cmp snap_cmp q key) begins (array q)) ≡ cond (eq_by_cmp snap_cmp q key) begun (left_by now rows array q)
    made-each key new begins begun is q row e = parted key new q row (λ b w. left_array now w (cond b begins (array q)) ≡ cond b begun (left_by now rows array q)) e (λ same. is) (λ there. others q row there)

    module _ (size : ℕ) (parent : Option SnapKey) (description : Option (List ℕ)) (tags : List Tag) (token : Option (List ℕ)) (timeout : ℕ) where
      abbrev upload : Request
      upload = StartSnapshot size parent description tags token timeout

      abbrev own_key : SnapKey
      own_key = next_key (aged now rows) account

      abbrev started : SnapRow
      started = started_row at own_key size parent (line_of left own_key parent) description tags timeout

      fresh-start : 1 ≤ timeout → is_failed (status_at started now) ≡ false
      fresh-start timely = ap (λ (s : ℕ). is_failed (status_by false (nat_le (s + 60 * timeout) now))) at_is ∙ on_time false now timeout (λ e. timely)

      start-each : 1 ≤ timeout → (q : SnapKey) (row : SnapRow) → get (insert left own_key started) q ≡ Some row
          → left_array now row (cond (eq_by_cmp snap_cmp q own_key) (begun_by now rows array parent) (array q)) ≡ cond (eq_by_cmp snap_cmp q own_key) (begun_array now rows array parent) (left_by now rows array q)
      start-each timely = made-each own_key started (begun_by now rows array parent) (begun_array now rows array parent) (unfailed now started (begun_by now rows array parent) (fresh-start timely) ∙ begun-is now rows array parent)

      start-is : Facts (aged now rows) account made upload now → Is upload
      start-is facts = subst (λ (made : Option SnapKey). (q : SnapKey) (row : SnapRow) → get (commit_by (aged now rows) at account made volume upload).snaps q ≡ Some row
          → left_array now row (arrays_after stamp digest (begun_in now rows array disk upload) array made upload q) ≡ machine_after now stamp rows array disk digest made upload q) (sym facts.0) (start-each facts.2)

    module _ (source : VolKey) (description : Option (List ℕ)) (tags : List Tag) where
      abbrev snapped : VolRow → SnapRow
      snapped row = snapped_row at (next_key (aged now rows) account) source row description tags

      -- the rows with a snapshot of the volume, where that is there
      snapped-found : (vol : VolRow) → get rows.vols source ≡ Some vol → (q : SnapKey) (row : SnapRow) → get (commit_snap (aged now rows) at (Some (next_key (aged now rows) account)) source description tags).snaps q ≡ Some row
          → get (insert left (next_key (aged now rows) account) (snapped vol)) q ≡ Some row
      snapped-found vol found q row e = ap (λ o. get (with_snapped (aged now rows) at (next_key (aged now rows) account) source description tags o).snaps q) (sym found) ∙ e

      snap-is : Facts (aged now rows) account made (CreateSnapshot source description tags) now → Is (CreateSnapshot source description tags)
      snap-is (vol, found, made_is) = subst (λ (made : Option SnapKey). (q : SnapKey) (row : SnapRow) → get (commit_snap (aged now rows) at made source description tags).snaps q ≡ Some row
          → left_array now row (cond (is_new snap_cmp q made) (disk source) (array q)) ≡ cond (is_new snap_cmp q made) (disk source) (left_by now rows array q)) (sym made_is)
          (λ q row e. made-each (next_key (aged now rows) account) (snapped vol) (disk source) (disk source) (unfailed now (snapped vol) (disk source) refl) q row (snapped-found vol found q row e))

    module _ (key : SnapKey) (index : ℕ) (stated bytes : List ℕ) where
      abbrev block : WholeBlock
      block = record { stamp = stamp; bytes = digest }

      fresh-put : (old : SnapRow) → IsOpenRow (aged now rows) now key old → is_failed (status_at (put_row at index old) now) ≡ false
      fresh-put old going = ap (λ (s : ℕ). is_failed (status_by old.completed (nat_le (s + 60 * old.timeout) now))) at_is ∙ on_time old.completed now old.timeout ((good key old going.found).timeout)

      put-is : Facts (aged now rows) account made (PutSnapshotBlock key index stated bytes) now → Is (PutSnapshotBlock key index stated bytes)
      put-is (old, going, within) q row e = parted key (put_row at index old) q row (λ b w. left_array now w (cond b (insert (array q) index block) (array q)) ≡ cond b (insert (left_by now rows array q) index block) (left_by now rows array q))
          (ap (λ o. get (changed_row left key (put_row at index) o) q) (sym going.found) ∙ e)
          (λ same. unfailed now (put_row at index old) (insert (array q) index block) (fresh-put old going) ∙ ap (λ a. insert a index block) (subst (λ k. array k ≡ left_by now rows array k) (sym same) (whole_left key old going)))
          (λ there. others q row there)

    complete-is : (key : SnapKey) (count : ℕ) (checksum : Option (List ℕ)) → let r : Request = CompleteSnapshot key count checksum in Facts (aged now rows) account made r now → Is r
    complete-is key count checksum (old, going) q row e = parted key (completed_row old) q row (λ b w. left_array now w (array q) ≡ left_by now rows array q)
        (ap (λ o. get (changed_row left key completed_row o) q) (sym going.found) ∙ e)
        (λ same. subst (λ k. array k ≡ left_by now rows array k) (sym same) (whole_left key old going))
        (λ there. others q row there)

    -- a completed row that is changed in nothing that its array depends on
    altered-is : (key : SnapKey) (change : SnapRow → SnapRow) → ((row : SnapRow) → status_at (change row) now ≡ status_at row now) → (old : SnapRow) → IsDoneRow (aged now rows) now key old
        → (q : SnapKey) (row : SnapRow) → get (changed_row left key change (get left key)) q ≡ Some row → left_array now row (array q) ≡ left_by now rows array q
    altered-is key change stays old finished q row e =
        let sound = completed-not-failed (status_at old now) finished.is_done in
        parted key (change old) q row (λ b w. left_array now w (array q) ≡ left_by now rows array q)
        (ap (λ o. get (changed_row left key change o) q) (sym finished.found) ∙ e)
        (λ same. unfailed now (change old) (array q) (ap is_failed (stays old) ∙ sound) ∙ subst (λ k. array k ≡ left_by now rows array k) (sym same) (whole_sound key old finished.found sound))
        (λ there. others q row there)

    -- a row that is left after another was taken out
    remaining : (key q : SnapKey) (row : SnapRow) → get (remove left key) q ≡ Some row → get left q ≡ Some row
    remaining key q row e = by (eq_by_cmp snap_cmp q key) (sym (get-remove snaps_total left key q) ∙ e)
      where
        by : (b : Bool) → cond b None (get left q) ≡ Some row → get left q ≡ Some row
        by true e = cc
        by false e = e

    -- a row that is written again, changed in nothing that its array depends on
    binned-is : (key : SnapKey) (old new : SnapRow) → get left key ≡ Some old → status_at new now ≡ status_at old now
        → (q : SnapKey) (row : SnapRow) → get (insert left key new) q ≡ Some row → left_array now row (array q) ≡ left_by now rows array q
    binned-is key old new found stays q row e =
        parted key new q row (λ b w. left_array now w (array q) ≡ left_by now rows array q) e
        (λ same. ap (λ s. cond (is_failed s) empty (array q)) stays ∙ subst (λ k. left_array now old (array k) ≡ left_by now rows array k) (sym same) (others key old found))
        (λ there. others q row there)

    delete-is : (key : SnapKey) → Facts (aged now rows) account made (DeleteSnapshot key) now → Is (DeleteSnapshot key)
    delete-is key (old, found) q row e = by (days_in_bin (aged now rows) key old) (ap (λ o. get (deleted (aged now rows) at key o).snaps q) (sym found) ∙ e)
      where
        by : (days : Option ℕ) → get (deleted_by (aged now rows) at key old days).snaps q ≡ Some row → left_array now row (array q) ≡ left_by now rows array q
        by None e = others q row (remaining key q row e)
        by (Some days) e = binned-is key old (record old { bin_end = Some (bin_end at.second days) }) found refl q row e

    recover-is : (key : SnapKey) → Facts (aged now rows) account made (RestoreFromBin key) now → Is (RestoreFromBin key)
    recover-is key (old, found) q row e = binned-is key old (recovered old) found refl q row (ap (λ o. get (changed_row left key recovered o) q) (sym found) ∙ e)

    -- a volume that is created leaves the rows of snapshots
    uncreated : (o : Option VolKey) (origin : Option SnapKey) (size : Option ℕ) (tags : List Tag) (token : Option (List ℕ)) (q : SnapKey) (row : SnapRow)
        → get (commit_create (aged now rows) at o origin size tags token).snaps q ≡ Some row → get left q ≡ Some row
    uncreated None origin size tags token q row e = e
    uncreated (Some key) origin size tags token q row e = e

    module _ (key : PolicyKey) (p : Policy) where
      abbrev due : List (VolKey × VolRow)
      due = due_targets (aged now rows) key p now

      abbrev own_first : SnapKey
      own_first = next_key (aged now rows) key.account

      -- what is left of a key, where each row that was there or was made has it
      ran : (P : SnapRow → Type 0) → ((w : SnapRow) → P w → P (freed w)) → ((w : SnapRow) (end : Moment) → P w → P (record w { bin_end = Some end }))
          → get rows.policies key ≡ Some p → (q : SnapKey) → ((w : SnapRow) → or_else (new_row at key p own_first due q) (get left q) ≡ Some w → P w)
          → (row : SnapRow) → get (commit_by (aged now rows) at account made volume (RunPolicy key)).snaps q ≡ Some row → P row
      ran P freeing binning found q h row e =
          run-kept P freeing binning (aged now rows) at key p q
          (subst (λ (t : ℕ). (w : SnapRow) → or_else (new_row at key p own_first (due_targets (aged now rows) key p t) q) (get left q) ≡ Some w → P w) (sym at_is) h) row
          (sym (get-run (aged now rows) at key p q) ∙ ap (λ (o : Option Policy). get (run_by (aged now rows) at key o).snaps q) (sym found) ∙ e)

      ran-left : get rows.policies key ≡ Some p → (q : SnapKey) (row : SnapRow) → get (commit_by (aged now rows) at account made volume (RunPolicy key)).snaps q ≡ Some row
          → left_array now row (from_source disk (source_of own_first due q) (array q)) ≡ from_source disk (source_of own_first due q) (left_by now rows array q)
      ran-left found q row e =
          new-at (IsFound (aged now rows)) at key p (left_array now row (from_source disk (source_of own_first due q) (array q)) ≡ from_source disk (source_of own_first due q) (left_by now rows array q)) q own_first due (due-found (aged now rows) key p now)
          (λ none new.
          let there = ran (λ w. left_array now w (array q) ≡ left_by now rows array q) (λ w h. h) (λ w end h. h) found q (λ w is. others q w (ap (λ (o : Option SnapRow). or_else o (get left q)) (sym new) ∙ is)) row e in
          subst (λ (o : Option VolKey). left_array now row (from_source disk o (array q)) ≡ from_source disk o (left_by now rows array q)) (sym none) there)
          (λ v known k some new.
          let there = ran (λ w. left_array now w (disk v.0) ≡ disk v.0) (λ w h. h) (λ w end h. h) found q
          (λ w is. subst (λ (w : SnapRow). left_array now w (disk v.0) ≡ disk v.0) (one_is _ _ (ap (λ (o : Option SnapRow). or_else o (get left q)) (sym new) ∙ is)) refl) row e in
          subst (λ (o : Option VolKey). left_array now row (from_source disk o (array q)) ≡ from_source disk o (left_by now rows array q)) (sym some) there)

      ran-good : get rows.policies key ≡ Some p → (q : SnapKey) (row : SnapRow) → get (commit_by (aged now rows) at account made volume (RunPolicy key)).snaps q ≡ Some row → IsGoodRow row
      ran-good found q row e =
          new-at (IsFound (aged now rows)) at key p (IsGoodRow row) q own_first due (due-found (aged now rows) key p now)
          (λ none new. ran IsGoodRow (λ w g. record { size = g.size; timeout = g.timeout }) (λ w end g. record { size = g.size; timeout = g.timeout }) found q (λ w is. good q w (ap (λ (o : Option SnapRow). or_else o (get left q)) (sym new) ∙ is)) row e)
          (λ v known k some new. ran IsGoodRow (λ w g. record { size = g.size; timeout = g.timeout }) (λ w end g. record { size = g.size; timeout = g.timeout }) found q
          (λ w is. subst IsGoodRow (one_is _ _ (ap (λ (o : Option SnapRow). or_else o (get left q)) (sym new) ∙ is)) (record { size = volumes v.0 v.1 known; timeout = λ open_upload. cc })) row e)

    run-is : (key : PolicyKey) → AreMade (aged now rows) now ids sources (RunPolicy key) → Is (RunPolicy key)
    run-is key (p, found, made_is, sources_are) q row e =
        ap (left_array now row)
        ((λ i. copied (copies_of disk (made_is i) (sources_are i)) q (array q)) ∙ copied-made disk (next_key (aged now rows) key.account) (due_targets (aged now rows) key p now) q (array q))
        ∙ ran-left key p found q row e
        ∙ ap (λ (o : Option Policy). from_source disk (run_source (aged now rows) now key o q) (left_by now rows array q)) (sym found)

    pub arrays-committed : (request : Request) → Facts (aged now rows) account made request now → AreMade (aged now rows) now ids sources request → Is request
    arrays-committed (StartSnapshot size parent description tags token timeout) facts made_so = start-is size parent description tags token timeout facts
    arrays-committed (PutSnapshotBlock key index stated bytes) facts made_so = put-is key index stated bytes facts
    arrays-committed (CompleteSnapshot key count checksum) facts made_so = complete-is key count checksum facts
    arrays-committed (ListSnapshotBlocks key page most start) facts made_so = absurd facts
    arrays-committed (ListChangedBlocks first second page most start) facts made_so = absurd facts
    arrays-committed (GetSnapshotBlock key index token) facts made_so = absurd facts
    arrays-committed (DescribeSnapshot key) facts made_so = absurd facts
    arrays-committed (DescribeSnapshots from most) facts made_so = absurd facts
    arrays-committed (DeleteSnapshot key) facts made_so = delete-is key facts
    arrays-committed (ModifyPermission key add add_all remove remove_all) (old, finished) made_so = altered-is key (permitted_row add add_all remove remove_all) (λ row. refl) old finished
    arrays-committed (LockSnapshot key mode term cool_hours) (old, finished) made_so = altered-is key (locked_row at (Lock mode term cool_hours)) (λ row. refl) old finished
    arrays-committed (UnlockSnapshot key) (old, finished) made_so = altered-is key (locked_row at Unlock) (λ row. refl) old finished
    arrays-committed (ArchiveSnapshot key) (old, finished) made_so = altered-is key (archived_row at) (λ row. refl) old finished
    arrays-committed (RestoreTier key days) (old, finished) made_so = altered-is key (restored_row at days) (λ row. refl) old finished
    arrays-committed (CreateVolume origin size tags token) facts made_so = λ q row e. others q row (uncreated volume origin size tags token q row e)
    arrays-committed (CreateSnapshot source description tags) facts made_so = snap-is source description tags facts
    arrays-committed (WriteVolumeBlock key index stated bytes) facts made_so = others
    arrays-committed (ReadVolumeBlock key index) facts made_so = absurd facts
    arrays-committed (DescribeVolume key) facts made_so = absurd facts
    arrays-committed (DeleteVolume key) facts made_so = others
    arrays-committed (CreateRule days tags description delay) facts made_so = others
    arrays-committed (GetRule key) facts made_so = absurd facts
    arrays-committed (UpdateRule key days tags description) facts made_so = others
    arrays-committed (DeleteRule key) facts made_so = others
    arrays-committed ListRules facts made_so = absurd facts
    arrays-committed (LockRule key delay) facts made_so = others
    arrays-committed (UnlockRule key) facts made_so = others
    arrays-committed (ListBin from most) facts made_so = absurd facts
    arrays-committed (RestoreFromBin key) facts made_so = recover-is key facts
    arrays-committed (CreatePolicy targets hours time retain add) facts made_so = others
    arrays-committed (GetPolicy key) facts made_so = absurd facts
    arrays-committed (DeletePolicy key) facts made_so = others
    arrays-committed (RunPolicy key) facts made_so = run-is key made_so

    abbrev CommitsGood : Option SnapKey → Request → Type 0
    CommitsGood made request = (q : SnapKey) (row : SnapRow) → get (commit_by (aged now rows) at account made volume request).snaps q ≡ Some row → IsGoodRow row

    altered-good : (key : SnapKey) (change : SnapRow → SnapRow) → ((row : SnapRow) → IsGoodRow row → IsGoodRow (change row)) → (old : SnapRow) → IsDoneRow (aged now rows) now key old
        → (q : SnapKey) (row : SnapRow) → get (changed_row left key change (get left key)) q ≡ Some row → IsGoodRow row
    altered-good key change stays old finished q row e =
        parted key (change old) q row (λ b w. IsGoodRow w) (ap (λ o. get (changed_row left key change o) q) (sym finished.found) ∙ e)
        (λ same. stays old (good key old finished.found)) (λ there. good q row there)

    written-good : (key : SnapKey) (new : SnapRow) → IsGoodRow new → (q : SnapKey) (row : SnapRow) → get (insert left key new) q ≡ Some row → IsGoodRow row
    written-good key new fine q row e = parted key new q row (λ b w. IsGoodRow w) e (λ same. fine) (λ there. good q row there)

    deleted-good : (key : SnapKey) (old : SnapRow) → get left key ≡ Some old → CommitsGood made (DeleteSnapshot key)
    deleted-good key old found q row e = by (days_in_bin (aged now rows) key old) (ap (λ o. get (deleted (aged now rows) at key o).snaps q) (sym found) ∙ e)
      where
        by : (days : Option ℕ) → get (deleted_by (aged now rows) at key old days).snaps q ≡ Some row → IsGoodRow row
        by None e = good q row (remaining key q row e)
        by (Some days) e = let was = good key old found in written-good key (record old { bin_end = Some (bin_end at.second days) }) (record { size = was.size; timeout = was.timeout }) q row e

    recovered-good : (key : SnapKey) (old : SnapRow) → get left key ≡ Some old → CommitsGood made (RestoreFromBin key)
    recovered-good key old found q row e =
        let was = good key old found in
        written-good key (recovered old) (record { size = was.size; timeout = was.timeout }) q row (ap (λ o. get (changed_row left key recovered o) q) (sym found) ∙ e)

    -- the committed rows are good
    pub good-committed : (request : Request) → Facts (aged now rows) account made request now → IsMadeGood request → CommitsGood made request
    good-committed (StartSnapshot size parent description tags token timeout) facts made_good =
        let key : SnapKey = next_key (aged now rows) account in
        subst (λ (made : Option SnapKey). CommitsGood made (StartSnapshot size parent description tags token timeout)) (sym facts.0)
        (λ q row e. parted key (started size parent description tags token timeout) q row (λ b w. IsGoodRow w) e (λ same. record { size = made_good; timeout = λ e. facts.2 }) (λ there. good q row there))
    good-committed (PutSnapshotBlock key index stated bytes) (old, going, within) made_good = λ q row e.
        let was = good key old going.found in
        parted key (put_row at index old) q row (λ b w. IsGoodRow w) (ap (λ o. get (changed_row left key (put_row at index) o) q) (sym going.found) ∙ e)
        (λ same. record { size = was.size; timeout = was.timeout }) (λ there. good q row there)
    good-committed (CompleteSnapshot key count checksum) (old, going) made_good = λ q row e.
        let was = good key old going.found in
        parted key (completed_row old) q row (λ b w. IsGoodRow w) (ap (λ o. get (changed_row left key completed_row o) q) (sym going.found) ∙ e)
        (λ same. record { size = was.size; timeout = λ done. cc }) (λ there. good q row there)
    good-committed (ListSnapshotBlocks key page most start) facts made_good = absurd facts
    good-committed (ListChangedBlocks first second page most start) facts made_good = absurd facts
    good-committed (GetSnapshotBlock key index token) facts made_good = absurd facts
    good-committed (DescribeSnapshot key) facts made_good = absurd facts
    good-committed (DescribeSnapshots from most) facts made_good = absurd facts
    good-committed (DeleteSnapshot key) facts made_good = deleted-good key facts.0 facts.1
    good-committed (ModifyPermission key add add_all remove remove_all) (old, finished) made_good = altered-good key (permitted_row add add_all remove remove_all) (λ row was. record { size = was.size; timeout = was.timeout }) old finished
    good-committed (LockSnapshot key mode term cool_hours) (old, finished) made_good = altered-good key (locked_row at (Lock mode term cool_hours)) (λ row was. record { size = was.size; timeout = was.timeout }) old finished
    good-committed (UnlockSnapshot key) (old, finished) made_good = altered-good key (locked_row at Unlock) (λ row was. record { size = was.size; timeout = was.timeout }) old finished
    good-committed (ArchiveSnapshot key) (old, finished) made_good = altered-good key (archived_row at) (λ row was. record { size = was.size; timeout = was.timeout }) old finished
    good-committed (RestoreTier key days) (old, finished) made_good = altered-good key (restored_row at days) (λ row was. record { size = was.size; timeout = was.timeout }) old finished
    good-committed (CreateVolume origin size tags token) facts made_good = λ q row e. good q row (uncreated volume origin size tags token q row e)
    good-committed (CreateSnapshot source description tags) (vol, found, made_is) made_good =
        subst (λ (made : Option SnapKey). CommitsGood made (CreateSnapshot source description tags)) (sym made_is)
        (λ q row e. parted (next_key (aged now rows) account) (snapped source description tags vol) q row (λ b w. IsGoodRow w) (snapped-found source description tags vol found q row e)
        (λ same. record { size = volumes source vol found; timeout = λ open_upload. cc }) (λ there. good q row there))
    good-committed (WriteVolumeBlock key index stated bytes) facts made_good = good
    good-committed (ReadVolumeBlock key index) facts made_good = absurd facts
    good-committed (DescribeVolume key) facts made_good = absurd facts
    good-committed (DeleteVolume key) facts made_good = good
    good-committed (CreateRule days tags description delay) facts made_good = good
    good-committed (GetRule key) facts made_good = absurd facts
    good-committed (UpdateRule key days tags description) facts made_good = good
    good-committed (DeleteRule key) facts made_good = good
    good-committed ListRules facts made_good = absurd facts
    good-committed (LockRule key delay) facts made_good = good
    good-committed (UnlockRule key) facts made_good = good
    good-committed (ListBin from most) facts made_good = absurd facts
    good-committed (RestoreFromBin key) facts made_good = recovered-good key facts.0 facts.1
    good-committed (CreatePolicy targets hours time retain add) facts made_good = good
    good-committed (GetPolicy key) facts made_good = absurd facts
    good-committed (DeletePolicy key) facts made_good = good
    good-committed (RunPolicy key) (p, run) made_good = ran-good key p run.found
