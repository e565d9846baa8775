-- The machine after a change, of what is kept.
use Rattle.std.proofs.Common.{◌≡◌, ℕ, ◌*◌, ◌≤◌, ◌<◌, ◌^◌, arith, cond, List, [], Option, None, Some, refl, sym, ap, ◌∙◌}
use Rattle.std.specs.FinMap.{FinMap, get, insert}
use Rattle.ebs_model.specs.declared.keys.SnapKey.{SnapKey}
use Rattle.ebs_model.specs.declared.keys.VolKey.{VolKey}
use Rattle.ebs_model.specs.declared.keys.Moment.{Moment}
use Rattle.ebs_model.specs.declared.rows.SnapRow.{SnapRow}
use Rattle.ebs_model.specs.declared.rows.VolRow.{VolRow}
use Rattle.ebs_model.specs.declared.request.Request.{Request}
use Rattle.ebs_model.specs.declared.request.Request.TheVariants.{StartSnapshot, PutSnapshotBlock, CompleteSnapshot, ListSnapshotBlocks, ListChangedBlocks, GetSnapshotBlock, DescribeSnapshot, DescribeSnapshots, DeleteSnapshot, ModifyPermission, LockSnapshot, UnlockSnapshot, ArchiveSnapshot, RestoreTier, CreateVolume, CreateSnapshot, WriteVolumeBlock, ReadVolumeBlock, DescribeVolume, DeleteVolume, CreateRule, GetRule, UpdateRule, DeleteRule, ListRules, LockRule, UnlockRule, ListBin, RestoreFromBin, CreatePolicy, GetPolicy, DeletePolicy, RunPolicy}
use Rattle.ebs_model.specs.declared.change.Change.{Change}
use Rattle.ebs_model.specs.Keys.{snap_cmp}
use Rattle.ebs_model.specs.Arrays.{WholeArray}
use Rattle.ebs_model.specs.Rows.{Rows}
use Rattle.ebs_model.specs.inner.Rows.{aged, aged_snaps}
use Rattle.ebs_model.specs.Decisions.{made_snap, made_vol}
use Rattle.ebs_model.specs.Decide.{commit}
use Rattle.ebs_model.specs.Machine.{Machine, advance, aged_rows, rows_of, array_of, disk_of, with_arrays}
use Rattle.ebs_model.specs.Step.{begun_array, source_array, array_by, array_after}
use Rattle.ebs_model.specs.declared.keys.PolicyKey.{PolicyKey}
use Rattle.ebs_model.specs.declared.policy.Policy.{Policy}
use Rattle.ebs_model.specs.Calls.Start.{next_key}
use Rattle.ebs_model.specs.Calls.Run.{due_targets, source_of, run_source}
use Rattle.ebs_model.proofs.Commits.{Facts, left_array, shown-commit}
use Rattle.ebs_kept.specs.inner.Shown.{IsGoodRow, AreGoodVolumes}
use Rattle.ebs_holds.specs.Changes.{HasSmallIndex}
use Rattle.ebs_kept.proofs.Arrays.{begun_in, copies_in, copied, arrays_after, same-test, same-made}
use Rattle.ebs_kept.proofs.Runs.{AreMade, from_source, source-known}
use Rattle.ebs_kept.specs.inner.Requests.{Brings}
use Rattle.ebs_kept.proofs.Timely.{sized}
use Rattle.ebs_kept.proofs.Committed.{IsMadeGood, left_by, machine_after, arrays-committed, good-committed}
use Rattle.ebs_kept.proofs.Committed as committed

-- what a change brings, where its digest stands for its bytes
pub brings-digest : (request : Request) (digest : List ℕ) → Brings request digest digest
brings-digest (StartSnapshot size parent description tags token timeout) digest = tt
brings-digest (PutSnapshotBlock key index stated left) digest = refl
brings-digest (CompleteSnapshot key count checksum) digest = tt
brings-digest (ListSnapshotBlocks key page most start) digest = tt
brings-digest (ListChangedBlocks first second page most start) digest = tt
brings-digest (GetSnapshotBlock key index token) digest = tt
brings-digest (DescribeSnapshot key) digest = tt
brings-digest (DescribeSnapshots from most) digest = tt
brings-digest (DeleteSnapshot key) digest = tt
brings-digest (ModifyPermission key add add_all remove remove_all) digest = tt
brings-digest (LockSnapshot key mode term cool_hours) digest = tt
brings-digest (UnlockSnapshot key) digest = tt
brings-digest (ArchiveSnapshot key) digest = tt
brings-digest (RestoreTier key days) digest = tt
brings-digest (CreateVolume origin size tags token) digest = tt
brings-digest (CreateSnapshot source description tags) digest = tt
brings-digest (WriteVolumeBlock key index stated left) digest = refl
brings-digest (ReadVolumeBlock key index) digest = tt
brings-digest (DescribeVolume key) digest = tt
brings-digest (DeleteVolume key) digest = tt
brings-digest (CreateRule days tags description delay) digest = tt
brings-digest (GetRule key) digest = tt
brings-digest (UpdateRule key days tags description) digest = tt
brings-digest (DeleteRule key) digest = tt
brings-digest ListRules digest = tt
brings-digest (LockRule key delay) digest = tt
brings-digest (UnlockRule key) digest = tt
brings-digest (ListBin from most) digest = tt
brings-digest (RestoreFromBin key) digest = tt
brings-digest (CreatePolicy targets hours time retain add) digest = tt
brings-digest (GetPolicy key) digest = tt
brings-digest (DeletePolicy key) digest = tt
brings-digest (RunPolicy key) digest = tt

pub below-32 : (size index : ℕ) → size ≤ 16384 → index < 2048 * size → index < 2 ^ 32
below-32 size index h less = grind arith

module _ (rows : Rows) (array : SnapKey → WholeArray) (disk : VolKey → WholeArray) (m : Machine) (at : Moment) (arrays_are : (key : SnapKey) → array_of (advance m at) key ≡ left_by at.second rows array key) (rows_are : rows_of (advance m at) ≡ aged at.second rows)
    (good : (key : SnapKey) (row : SnapRow) → get (aged_snaps at.second rows.snaps) key ≡ Some row → IsGoodRow row)
    (disks_are : (key : VolKey) (row : VolRow) → get rows.vols key ≡ Some row → disk_of m key ≡ disk key) (volumes : AreGoodVolumes rows.vols) where
  pub begun-is : (parent : Option SnapKey) → committed.begun_array at.second rows array parent ≡ begun_array (advance m at) parent
  begun-is None = refl
  begun-is (Some parent) = sym (arrays_are parent)

  -- what is copied is what stands in the machine's volumes
  run-machine : (policy : PolicyKey) (q : SnapKey) → from_source disk (run_source (aged at.second rows) at.second policy (get rows.policies policy) q) (left_by at.second rows array q)
      ≡ source_array (advance m at) (run_source (rows_of (advance m at)) at.second policy (get m.policies policy) q) q
  run-machine policy q =
      of_policy (get rows.policies policy)
      ∙ (λ i. source_array (advance m at) (run_source (sym rows_are i) at.second policy (get (sym rows_are i).policies policy) q) q)
    where
      of_source : (o : Option VolKey) → ((v : VolKey) → o ≡ Some v → disk v ≡ disk_of m v) → from_source disk o (left_by at.second rows array q) ≡ source_array (advance m at) o q
      of_source None known = sym (arrays_are q)
      of_source (Some v) known = known v refl

      of_policy : (o : Option Policy) → from_source disk (run_source (aged at.second rows) at.second policy o q) (left_by at.second rows array q) ≡ source_array (advance m at) (run_source (aged at.second rows) at.second policy o q) q
      of_policy None = sym (arrays_are q)
      of_policy (Some p) = of_source (source_of (next_key (aged at.second rows) policy.account) (due_targets (aged at.second rows) policy p at.second) q)
          (source-known (λ v. disk v ≡ disk_of m v) (aged at.second rows) (λ e known. sym (disks_are e.0 e.1 known)) policy p at.second (next_key (aged at.second rows) policy.account) q)

  machine-is : (bytes digest : List ℕ) (account : ℕ) (made : Option SnapKey) (request : Request) → Brings request digest bytes → Facts (aged at.second rows) account made request at.second
      → (q : SnapKey) → machine_after at.second m.stamps rows array disk digest made request q ≡ array_by (advance m at) bytes made request q
  machine-is bytes digest account made (StartSnapshot size parent description tags token timeout) b facts q = λ i. cond (sym (same-made q made) i) (begun-is parent i) (sym (arrays_are q) i)
  machine-is bytes digest account made (PutSnapshotBlock key index stated left) b facts q = λ i. cond (sym (same-test q key) i) (insert (sym (arrays_are q) i) index (record { stamp = m.stamps; bytes = sym b i })) (sym (arrays_are q) i)
  machine-is bytes digest account made (CompleteSnapshot key count checksum) b facts q = sym (arrays_are q)
  machine-is bytes digest account made (ListSnapshotBlocks key page most start) b facts q = sym (arrays_are q)
  machine-is bytes digest account made (ListChangedBlocks first second page most start) b facts q = sym (arrays_are q)
  machine-is bytes digest account made (GetSnapshotBlock key index token) b facts q = sym (arrays_are q)
  machine-is bytes digest account made (DescribeSnapshot key) b facts q = sym (arrays_are q)
  machine-is bytes digest account made (DescribeSnapshots from most) b facts q = sym (arrays_are q)
  machine-is bytes digest account made (DeleteSnapshot key) b facts q = sym (arrays_are q)
  machine-is bytes digest account made (ModifyPermission key add add_all take take_all) b facts q = sym (arrays_are q)
  machine-is bytes digest account made (LockSnapshot key mode term cool_hours) b facts q = sym (arrays_are q)
  machine-is bytes digest account made (UnlockSnapshot key) b facts q = sym (arrays_are q)
  machine-is bytes digest account made (ArchiveSnapshot key) b facts q = sym (arrays_are q)
  machine-is bytes digest account made (RestoreTier key days) b facts q = sym (arrays_are q)
  machine-is bytes digest account made (CreateVolume origin size tags token) b facts q = sym (arrays_are q)
  machine-is bytes digest account made (CreateSnapshot source description tags) b facts q = λ i. cond (sym (same-made q made) i) (sym (disks_are source facts.0 facts.1) i) (sym (arrays_are q) i)
  machine-is bytes digest account made (WriteVolumeBlock key index stated left) b facts q = sym (arrays_are q)
  machine-is bytes digest account made (ReadVolumeBlock key index) b facts q = sym (arrays_are q)
  machine-is bytes digest account made (DescribeVolume key) b facts q = sym (arrays_are q)
  machine-is bytes digest account made (DeleteVolume key) b facts q = sym (arrays_are q)
  machine-is bytes digest account made (CreateRule days tags description delay) b facts q = sym (arrays_are q)
  machine-is bytes digest account made (GetRule key) b facts q = sym (arrays_are q)
  machine-is bytes digest account made (UpdateRule key days tags description) b facts q = sym (arrays_are q)
  machine-is bytes digest account made (DeleteRule key) b facts q = sym (arrays_are q)
  machine-is bytes digest account made ListRules b facts q = sym (arrays_are q)
  machine-is bytes digest account made (LockRule key delay) b facts q = sym (arrays_are q)
  machine-is bytes digest account made (UnlockRule key) b facts q = sym (arrays_are q)
  machine-is bytes digest account made (ListBin from most) b facts q = sym (arrays_are q)
  machine-is bytes digest account made (RestoreFromBin key) b facts q = sym (arrays_are q)
  machine-is bytes digest account made (CreatePolicy targets hours time retain add) b facts q = sym (arrays_are q)
  machine-is bytes digest account made (GetPolicy key) b facts q = sym (arrays_are q)
  machine-is bytes digest account made (DeletePolicy key) b facts q = sym (arrays_are q)
  machine-is bytes digest account made (RunPolicy key) b facts q = run-machine key q

  -- an index that was decided has 32 bits
  pub small-index : (account : ℕ) (made : Option SnapKey) (request : Request) → Facts (aged at.second rows) account made request at.second → HasSmallIndex request
  small-index account made (StartSnapshot size parent description tags token timeout) facts = tt
  small-index account made (PutSnapshotBlock key index stated left) facts = let (row, going, within) = facts in below-32 row.size index (sized row.size (good key row going.found).size) within
  small-index account made (CompleteSnapshot key count checksum) facts = tt
  small-index account made (ListSnapshotBlocks key page most start) facts = tt
  small-index account made (ListChangedBlocks first second page most start) facts = tt
  small-index account made (GetSnapshotBlock key index token) facts = tt
  small-index account made (DescribeSnapshot key) facts = tt
  small-index account made (DescribeSnapshots from most) facts = tt
  small-index account made (DeleteSnapshot key) facts = tt
  small-index account made (ModifyPermission key add add_all take take_all) facts = tt
  small-index account made (LockSnapshot key mode term cool_hours) facts = tt
  small-index account made (UnlockSnapshot key) facts = tt
  small-index account made (ArchiveSnapshot key) facts = tt
  small-index account made (RestoreTier key days) facts = tt
  small-index account made (CreateVolume origin size tags token) facts = tt
  small-index account made (CreateSnapshot source description tags) facts = tt
  small-index account made (WriteVolumeBlock key index stated left) facts = let (row, found, within) = facts in below-32 row.size index (sized row.size (volumes key row found)) within
  small-index account made (ReadVolumeBlock key index) facts = tt
  small-index account made (DescribeVolume key) facts = tt
  small-index account made (DeleteVolume key) facts = tt
  small-index account made (CreateRule days tags description delay) facts = tt
  small-index account made (GetRule key) facts = tt
  small-index account made (UpdateRule key days tags description) facts = tt
  small-index account made (DeleteRule key) facts = tt
  small-index account made ListRules facts = tt
  small-index account made (LockRule key delay) facts = tt
  small-index account made (UnlockRule key) facts = tt
  small-index account made (ListBin from most) facts = tt
  small-index account made (RestoreFromBin key) facts = tt
  small-index account made (CreatePolicy targets hours time retain add) facts = tt
  small-index account made (GetPolicy key) facts = tt
  small-index account made (DeletePolicy key) facts = tt
  small-index account made (RunPolicy key) facts = tt

  module _ (c : Change) (at_is : c.at.second ≡ at.second) (facts : Facts (aged at.second rows) c.account (made_snap c.made) c.request at.second) (made_so : AreMade (aged at.second rows) at.second c.made c.sources c.request) where
    pub good-after : IsMadeGood c.request → (q : SnapKey) (row : SnapRow) → get (commit (rows_of (advance m at)) c).snaps q ≡ Some row → IsGoodRow row
    good-after made_good q row e = good-committed at.second c.at at_is m.stamps rows array disk [] (made_snap c.made) (made_vol c.made) c.account c.made c.sources good volumes c.request facts made_good q row (ap (λ (r : Rows). get (commit r c).snaps q) (sym rows_are) ∙ e)

    pub snaps-after : (bytes digest : List ℕ) → Brings c.request digest bytes → (kept : FinMap snap_cmp SnapRow) (f : SnapKey → WholeArray)
        → aged_snaps at.second kept ≡ (commit (aged at.second rows) c).snaps
        → ((q : SnapKey) → f q ≡ copied (copies_in disk c.made c.sources c.request) q (arrays_after m.stamps digest (begun_in at.second rows array disk c.request) array (made_snap c.made) c.request q))
        → aged_rows at.second (with_arrays kept f) ≡ with_arrays (commit (rows_of (advance m at)) c).snaps (array_after (advance m at) bytes c)
    snaps-after bytes digest b kept f is fs =
        shown-commit at.second f (array_after (advance m at) bytes c) kept (commit (aged at.second rows) c).snaps is (λ q row e.
        ap (left_array at.second row) (fs q)
        ∙ arrays-committed at.second c.at at_is m.stamps rows array disk digest (made_snap c.made) (made_vol c.made) c.account c.made c.sources good volumes c.request facts made_so q row e
        ∙ machine-is bytes digest c.account (made_snap c.made) c.request b facts q)
        ∙ ap (λ (r : Rows). with_arrays (commit r c).snaps (array_after (advance m at) bytes c)) (sym rows_are)
