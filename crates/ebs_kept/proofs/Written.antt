-- What a change does to all arrays is what it makes of those of snapshots and of volumes.
use Rattle.std.proofs.Common.{◌≡◌, ℕ, Bool, true, false, cond, ◌++◌, List, [], ◌∷◌, Option, Some, None, refl, ap, ◌∙◌}
use Rattle.std.specs.Ordering.{eq_by_cmp}
use Rattle.std.specs.FinMap.{get, insert, empty}
use Rattle.ebs_model.specs.declared.keys.SnapKey.{SnapKey}
use Rattle.ebs_model.specs.declared.keys.VolKey.{VolKey}
use Rattle.ebs_model.specs.declared.keys.AnyKey.{AnyKey}
use Rattle.ebs_model.specs.declared.keys.AnyKey.TheVariants.{Snap, Vol, Rule, Policy}
use Rattle.ebs_model.specs.declared.array.Block.{Block}
use Rattle.ebs_model.specs.declared.request.Request.{Request}
use Rattle.ebs_model.specs.declared.request.Request.TheVariants.{StartSnapshot, PutSnapshotBlock, CompleteSnapshot, ListSnapshotBlocks, ListChangedBlocks, GetSnapshotBlock, DescribeSnapshot, DescribeSnapshots, DeleteSnapshot, ModifyPermission, LockSnapshot, UnlockSnapshot, ArchiveSnapshot, RestoreTier, CreateVolume, CreateSnapshot, WriteVolumeBlock, ReadVolumeBlock, DescribeVolume, DeleteVolume, CreateRule, GetRule, UpdateRule, DeleteRule, ListRules, LockRule, UnlockRule, ListBin, RestoreFromBin, CreatePolicy, GetPolicy, DeletePolicy, RunPolicy}
use Rattle.ebs_model.specs.Keys.{snap_cmp, vol_cmp}
use Rattle.ebs_model.specs.inner.Time.{has_blocks}
use Rattle.ebs_model.specs.Arrays.{WholeArray}
use Rattle.ebs_model.specs.Rows.{Rows}
use Rattle.ebs_model.specs.Decisions.{made_snap, made_vol}
use Rattle.ebs_holds.specs.declared.holder.Holder.{Holder}
use Rattle.ebs_holds.specs.Holders.{of_snap, of_vol}
use Rattle.ebs_holds.specs.Holds.{Holding, blocks_at}
use Rattle.ebs_holds.specs.Changes.{Arrays, snap_holder, vol_holder, begins, runs, runs_one, after}
use Rattle.ebs_holds.specs.Changes as changes
use Rattle.ebs_kept.specs.inner.Shown.{kept_array, snap_array, disk_array}
use Rattle.ebs_kept.specs.inner.Room.{source_by, source_in}
use Rattle.ebs_kept.proofs.Arrays.{begun_by, begun_in, copy_by, copies_of, copies_in, copied, is_new, arrays_after, disks_after, kept-cond, kept-insert, kept-empty}

-- ---- a run

one_vol : (arrays : Arrays) (id source : AnyKey) (v : VolKey) → runs_one arrays id source (of_vol v) ≡ arrays (of_vol v)
one_vol arrays (Snap key) (Snap other) v = refl
one_vol arrays (Snap key) (Vol volume) v = refl
one_vol arrays (Snap key) (Rule other) v = refl
one_vol arrays (Snap key) (Policy other) v = refl
one_vol arrays (Vol key) source v = refl
one_vol arrays (Rule key) source v = refl
one_vol arrays (Policy key) source v = refl

one_snap : (disk : VolKey → WholeArray) (arrays : Arrays) → ((v : VolKey) → kept_array (arrays (of_vol v)) ≡ disk v) → (rest : List (SnapKey × WholeArray)) (id source : AnyKey) (q : SnapKey)
    → copied rest q (kept_array (runs_one arrays id source (of_snap q))) ≡ copied (copy_by disk id source ++ rest) q (kept_array (arrays (of_snap q)))
one_snap disk arrays same rest (Snap key) (Snap other) q = refl
one_snap disk arrays same rest (Snap key) (Vol volume) q =
    ap (copied rest q) (kept-cond (eq_by_cmp snap_cmp q key) (arrays (of_vol volume)) (arrays (of_snap q)) ∙ ap (λ a. cond (eq_by_cmp snap_cmp q key) a (kept_array (arrays (of_snap q)))) (same volume))
one_snap disk arrays same rest (Snap key) (Rule other) q = refl
one_snap disk arrays same rest (Snap key) (Policy other) q = refl
one_snap disk arrays same rest (Vol key) source q = refl
one_snap disk arrays same rest (Rule key) source q = refl
one_snap disk arrays same rest (Policy key) source q = refl

run_vol : (arrays : Arrays) (made sources : List AnyKey) (v : VolKey) → kept_array (runs arrays made sources (of_vol v)) ≡ kept_array (arrays (of_vol v))
run_vol arrays made [] v = refl
run_vol arrays [] (source ∷ sources) v = refl
run_vol arrays (id ∷ made) (source ∷ sources) v = run_vol (runs_one arrays id source) made sources v ∙ ap kept_array (one_vol arrays id source v)

run_snap : (disk : VolKey → WholeArray) (arrays : Arrays) → ((v : VolKey) → kept_array (arrays (of_vol v)) ≡ disk v) → (made sources : List AnyKey) (q : SnapKey)
    → kept_array (runs arrays made sources (of_snap q)) ≡ copied (copies_of disk made sources) q (kept_array (arrays (of_snap q)))
run_snap disk arrays same made [] q = refl
run_snap disk arrays same [] (source ∷ sources) q = refl
run_snap disk arrays same (id ∷ made) (source ∷ sources) q =
    run_snap disk (runs_one arrays id source) (λ v. ap kept_array (one_vol arrays id source v) ∙ same v) made sources q ∙ one_snap disk arrays same (copies_of disk made sources) id source q

-- ---- each change

module _ (h : Holding) (now : ℕ) (rows : Rows) (made sources : List AnyKey) (block : Block) where
  abbrev arrays : SnapKey → WholeArray
  arrays = snap_array h

  abbrev disk : VolKey → WholeArray
  disk = disk_array h

  begun_source : (parent : Option SnapKey) → kept_array (changes.begun_by (blocks_at h) (source_by now rows parent)) ≡ begun_by now rows arrays parent
  begun_source None = kept-empty
  begun_source (Some parent) = by (has_blocks now (get rows.snaps parent))
    where
      by : (b : Bool) → kept_array (changes.begun_by (blocks_at h) (cond b (Some (of_snap parent)) None)) ≡ cond b (arrays parent) empty
      by true = refl
      by false = kept-empty

  begun_snap : (m : Option SnapKey) (source : Option Holder) (q : SnapKey) → kept_array (begins (blocks_at h) (snap_holder m) source (of_snap q)) ≡ cond (is_new snap_cmp q m) (kept_array (changes.begun_by (blocks_at h) source)) (arrays q)
  begun_snap None source q = refl
  begun_snap (Some key) source q = kept-cond (eq_by_cmp snap_cmp q key) (changes.begun_by (blocks_at h) source) (blocks_at h (of_snap q))

  begun_vol : (m : Option VolKey) (source : Option Holder) (v : VolKey) → kept_array (begins (blocks_at h) (vol_holder m) source (of_vol v)) ≡ cond (is_new vol_cmp v m) (kept_array (changes.begun_by (blocks_at h) source)) (disk v)
  begun_vol None source v = refl
  begun_vol (Some key) source v = kept-cond (eq_by_cmp vol_cmp v key) (changes.begun_by (blocks_at h) source) (blocks_at h (of_vol v))

  other_snap : (m : Option VolKey) (source : Option Holder) (q : SnapKey) → kept_array (begins (blocks_at h) (vol_holder m) source (of_snap q)) ≡ arrays q
  other_snap None source q = refl
  other_snap (Some key) source q = refl

  other_vol : (m : Option SnapKey) (source : Option Holder) (v : VolKey) → kept_array (begins (blocks_at h) (snap_holder m) source (of_vol v)) ≡ disk v
  other_vol None source v = refl
  other_vol (Some key) source v = refl

  pub snaps-written : (request : Request) (q : SnapKey) → kept_array (after made sources (source_in now rows request) block (blocks_at h) request (of_snap q))
      ≡ copied (copies_in disk made sources request) q (arrays_after block.stamp block.digest (begun_in now rows arrays disk request) arrays (made_snap made) request q)
  snaps-written (StartSnapshot size parent description tags token timeout) q = begun_snap (made_snap made) (source_by now rows parent) q ∙ ap (λ a. cond (is_new snap_cmp q (made_snap made)) a (arrays q)) (begun_source parent)
  snaps-written (PutSnapshotBlock key index stated bytes) q = kept-cond (eq_by_cmp snap_cmp q key) (insert (blocks_at h (of_snap q)) index block) (blocks_at h (of_snap q)) ∙ ap (λ a. cond (eq_by_cmp snap_cmp q key) a (arrays q)) (kept-insert (blocks_at h (of_snap q)) index block)
  snaps-written (CompleteSnapshot key count checksum) q = refl
  snaps-written (ListSnapshotBlocks key page most start) q = refl
  snaps-written (ListChangedBlocks first second page most start) q = refl
  snaps-written (GetSnapshotBlock key index token) q = refl
  snaps-written (DescribeSnapshot key) q = refl
  snaps-written (DescribeSnapshots from most) q = refl
  snaps-written (DeleteSnapshot key) q = refl
  snaps-written (ModifyPermission key add add_all take take_all) q = refl
  snaps-written (LockSnapshot key mode term cool_hours) q = refl
  snaps-written (UnlockSnapshot key) q = refl
  snaps-written (ArchiveSnapshot key) q = refl
  snaps-written (RestoreTier key days) q = refl
  snaps-written (CreateVolume origin size tags token) q = other_snap (made_vol made) (source_by now rows origin) q
  snaps-written (CreateSnapshot source description tags) q = begun_snap (made_snap made) (Some (of_vol source)) q
  snaps-written (WriteVolumeBlock key index stated bytes) q = refl
  snaps-written (ReadVolumeBlock key index) q = refl
  snaps-written (DescribeVolume key) q = refl
  snaps-written (DeleteVolume key) q = refl
  snaps-written (CreateRule days tags description delay) q = refl
  snaps-written (GetRule key) q = refl
  snaps-written (UpdateRule key days tags description) q = refl
  snaps-written (DeleteRule key) q = refl
  snaps-written ListRules q = refl
  snaps-written (LockRule key delay) q = refl
  snaps-written (UnlockRule key) q = refl
  snaps-written (ListBin from most) q = refl
  snaps-written (RestoreFromBin key) q = refl
  snaps-written (CreatePolicy targets hours time retain add) q = refl
  snaps-written (GetPolicy key) q = refl
  snaps-written (DeletePolicy key) q = refl
  snaps-written (RunPolicy key) q = run_snap disk (blocks_at h) (λ v. refl) made sources q

  pub disks-written : (request : Request) (v : VolKey) → kept_array (after made sources (source_in now rows request) block (blocks_at h) request (of_vol v))
      ≡ disks_after block.stamp block.digest (begun_in now rows arrays disk request) disk (made_vol made) request v
  disks-written (StartSnapshot size parent description tags token timeout) v = other_vol (made_snap made) (source_by now rows parent) v
  disks-written (PutSnapshotBlock key index stated bytes) v = refl
  disks-written (CompleteSnapshot key count checksum) v = refl
  disks-written (ListSnapshotBlocks key page most start) v = refl
  disks-written (ListChangedBlocks first second page most start) v = refl
  disks-written (GetSnapshotBlock key index token) v = refl
  disks-written (DescribeSnapshot key) v = refl
  disks-written (DescribeSnapshots from most) v = refl
  disks-written (DeleteSnapshot key) v = refl
  disks-written (ModifyPermission key add add_all take take_all) v = refl
  disks-written (LockSnapshot key mode term cool_hours) v = refl
  disks-written (UnlockSnapshot key) v = refl
  disks-written (ArchiveSnapshot key) v = refl
  disks-written (RestoreTier key days) v = refl
  disks-written (CreateVolume origin size tags token) v = begun_vol (made_vol made) (source_by now rows origin) v ∙ ap (λ a. cond (is_new vol_cmp v (made_vol made)) a (disk v)) (begun_source origin)
  disks-written (CreateSnapshot source description tags) v = other_vol (made_snap made) (Some (of_vol source)) v
  disks-written (WriteVolumeBlock key index stated bytes) v = kept-cond (eq_by_cmp vol_cmp v key) (insert (blocks_at h (of_vol v)) index block) (blocks_at h (of_vol v)) ∙ ap (λ a. cond (eq_by_cmp vol_cmp v key) a (disk v)) (kept-insert (blocks_at h (of_vol v)) index block)
  disks-written (ReadVolumeBlock key index) v = refl
  disks-written (DescribeVolume key) v = refl
  disks-written (DeleteVolume key) v = kept-cond (eq_by_cmp vol_cmp v key) empty (blocks_at h (of_vol v)) ∙ ap (λ a. cond (eq_by_cmp vol_cmp v key) a (disk v)) kept-empty
  disks-written (CreateRule days tags description delay) v = refl
  disks-written (GetRule key) v = refl
  disks-written (UpdateRule key days tags description) v = refl
  disks-written (DeleteRule key) v = refl
  disks-written ListRules v = refl
  disks-written (LockRule key delay) v = refl
  disks-written (UnlockRule key) v = refl
  disks-written (ListBin from most) v = refl
  disks-written (RestoreFromBin key) v = refl
  disks-written (CreatePolicy targets hours time retain add) v = refl
  disks-written (GetPolicy key) v = refl
  disks-written (DeletePolicy key) v = refl
  disks-written (RunPolicy key) v = run_vol (blocks_at h) made sources v
