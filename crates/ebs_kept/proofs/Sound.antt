-- What stays true of the kept form.
use Rattle.std.proofs.Common.{◌≡◌, ℕ, ◌≤◌, ◌<◌, ◌^◌, arith, Bool, true, false, cond, unwrap_or, List, Option, None, Some, refl, sym, ap, subst, ◌∙◌}
use Rattle.std.specs.Option.{option_map}
use Rattle.std.specs.Ordering.{nat_cmp, eq_by_cmp}
use Rattle.std.specs.Cmp.{nat_cmp_total}
use Rattle.std.specs.FinMap.{FinMap, get, insert, remove, empty, get-insert, get-remove, nat_cmp-IsAntisymmetric}
use Rattle.std.specs.FinMap as fin
use Rattle.ebs_tables.proofs.MapEdits.{is_same}
use Rattle.ebs_model.specs.declared.keys.SnapKey.{SnapKey}
use Rattle.ebs_model.specs.declared.keys.VolKey.{VolKey}
use Rattle.ebs_model.specs.declared.keys.Moment.{Moment}
use Rattle.ebs_model.specs.declared.rows.SnapRow.{SnapRow}
use Rattle.ebs_model.specs.declared.rows.VolRow.{VolRow}
use Rattle.ebs_model.specs.declared.change.Change.{Change}
use Rattle.ebs_model.specs.declared.request.Request.{Request}
use Rattle.ebs_model.specs.declared.request.Request.TheVariants.{StartSnapshot, PutSnapshotBlock, CompleteSnapshot, ListSnapshotBlocks, ListChangedBlocks, GetSnapshotBlock, DescribeSnapshot, DescribeSnapshots, DeleteSnapshot, ModifyPermission, LockSnapshot, UnlockSnapshot, ArchiveSnapshot, RestoreTier, CreateVolume, CreateSnapshot, WriteVolumeBlock, ReadVolumeBlock, DescribeVolume, DeleteVolume, CreateRule, GetRule, UpdateRule, DeleteRule, ListRules, LockRule, UnlockRule, ListBin, RestoreFromBin, CreatePolicy, GetPolicy, DeletePolicy, RunPolicy}
use Rattle.ebs_model.specs.Keys.{snap_cmp, vol_cmp}
use Rattle.ebs_model.specs.inner.Orders.{vols_total}
use Rattle.ebs_model.specs.Arrays.{WholeBlock, WholeArray}
use Rattle.ebs_model.specs.Time.{Snapshot}
use Rattle.ebs_model.specs.Rows.{is_key}
use Rattle.ebs_model.specs.Decisions.{made_snap, made_vol}
use Rattle.ebs_model.specs.Decide.{commit}
use Rattle.ebs_model.specs.Machine.{Machine, empty_machine, advance, rows_of, array_at, array_of, disk_of}
use Rattle.ebs_model.specs.Calls.Run.{run_source}
use Rattle.ebs_model.specs.Step.{is_made, begun_array, source_array, array_by, array_after, with_disk, disks_by, writes_of, changed}
use Rattle.ebs_model.proofs.RowLaws.{get-with, with_array}
use Rattle.ebs_kept.specs.inner.Shown.{IsGoodRow, AreGoodRows, AreGoodVolumes, IndexesAreSmall, DisksAreSmall, IsSound}
use Rattle.ebs_holds.specs.Changes.{HasSmallIndex}
use Rattle.ebs_kept.proofs.Now.{good-later, small-now}

pub sound-advance : (m : Machine) (now : Moment) → IsSound m → now.second ≤ 2 ^ 36 → IsSound (advance m now)
sound-advance m now s early = record { few = s.few; stamps = s.stamps; early = early; rows = good-later m now s.rows; volumes = s.volumes; small = small-now m s.small now; disks = s.disks }

one_write : (request : Request) → writes_of request ≤ 1
one_write (StartSnapshot size parent description tags token timeout) = omega arith
one_write (PutSnapshotBlock key index digest bytes) = omega arith
one_write (CompleteSnapshot key count checksum) = omega arith
one_write (ListSnapshotBlocks key page most start) = omega arith
one_write (ListChangedBlocks first second page most start) = omega arith
one_write (GetSnapshotBlock key index token) = omega arith
one_write (DescribeSnapshot key) = omega arith
one_write (DescribeSnapshots from most) = omega arith
one_write (DeleteSnapshot key) = omega arith
one_write (ModifyPermission key add add_all remove remove_all) = omega arith
one_write (LockSnapshot key mode term cool_hours) = omega arith
one_write (UnlockSnapshot key) = omega arith
one_write (ArchiveSnapshot key) = omega arith
one_write (RestoreTier key days) = omega arith
one_write (CreateVolume origin size tags token) = omega arith
one_write (CreateSnapshot source description tags) = omega arith
one_write (WriteVolumeBlock key index digest bytes) = omega arith
one_write (ReadVolumeBlock key index) = omega arith
one_write (DescribeVolume key) = omega arith
one_write (DeleteVolume key) = omega arith
one_write (CreateRule days tags description delay) = omega arith
one_write (GetRule key) = omega arith
one_write (UpdateRule key days tags description) = omega arith
one_write (DeleteRule key) = omega arith
one_write ListRules = omega arith
one_write (LockRule key delay) = omega arith
one_write (UnlockRule key) = omega arith
one_write (ListBin from most) = omega arith
one_write (RestoreFromBin key) = omega arith
one_write (CreatePolicy targets hours time retain add) = omega arith
one_write (GetPolicy key) = omega arith
one_write (DeletePolicy key) = omega arith
one_write (RunPolicy key) = omega arith

module _ (m : Machine) (small : IndexesAreSmall m) (disks : DisksAreSmall m) (bytes : List ℕ) where
  abbrev IsSmall : WholeArray → Type 0
  IsSmall a = (index : ℕ) (block : WholeBlock) → get a index ≡ Some block → index < 2 ^ 32

  none-small : IsSmall empty
  none-small index block e = let none = fin.get-empty {X = WholeBlock} nat_cmp index in cc

  either-small : (b : Bool) (x y : WholeArray) → IsSmall x → IsSmall y → IsSmall (cond b x y)
  either-small true x y h k = h
  either-small false x y h k = k

  begun-small : (parent : Option SnapKey) → IsSmall (begun_array m parent)
  begun-small None = none-small
  begun-small (Some parent) = small parent

  insert-small : (a : WholeArray) (at : ℕ) (b : WholeBlock) → at < 2 ^ 32 → IsSmall a → IsSmall (insert a at b)
  insert-small a at b less h index block e = by (eq_by_cmp nat_cmp index at) refl (sym (get-insert nat_cmp_total a at b index) ∙ e)
    where
      by : (t : Bool) → eq_by_cmp nat_cmp index at ≡ t → cond t (Some b) (get a index) ≡ Some block → index < 2 ^ 32
      by true t e = subst (λ i. i < 2 ^ 32) (sym (is_same nat_cmp-IsAntisymmetric index at t)) less
      by false t e = h index block e

  source-small : (o : Option VolKey) (q : SnapKey) → IsSmall (source_array m o q)
  source-small None q = small q
  source-small (Some volume) q = disks volume

  after-small : (made : Option SnapKey) (request : Request) → HasSmallIndex request → (q : SnapKey) → IsSmall (array_by m bytes made request q)
  after-small made (StartSnapshot size parent description tags token timeout) less q = either-small (is_made q made) _ _ (begun-small parent) (small q)
  after-small made (PutSnapshotBlock at index digest left) less q = either-small (is_key q at) _ _ (insert-small (array_of m q) index (record { stamp = m.stamps; bytes = bytes }) less (small q)) (small q)
  after-small made (CompleteSnapshot at count checksum) less q = small q
  after-small made (ListSnapshotBlocks at page most start) less q = small q
  after-small made (ListChangedBlocks first second page most start) less q = small q
  after-small made (GetSnapshotBlock at index token) less q = small q
  after-small made (DescribeSnapshot at) less q = small q
  after-small made (DescribeSnapshots from most) less q = small q
  after-small made (DeleteSnapshot at) less q = small q
  after-small made (ModifyPermission at add add_all remove remove_all) less q = small q
  after-small made (LockSnapshot at mode term cool_hours) less q = small q
  after-small made (UnlockSnapshot at) less q = small q
  after-small made (ArchiveSnapshot at) less q = small q
  after-small made (RestoreTier at days) less q = small q
  after-small made (CreateVolume origin size tags token) less q = small q
  after-small made (CreateSnapshot source description tags) less q = either-small (is_made q made) _ _ (disks source) (small q)
  after-small made (WriteVolumeBlock at index digest left) less q = small q
  after-small made (ReadVolumeBlock at index) less q = small q
  after-small made (DescribeVolume at) less q = small q
  after-small made (DeleteVolume at) less q = small q
  after-small made (CreateRule days tags description delay) less q = small q
  after-small made (GetRule at) less q = small q
  after-small made (UpdateRule at days tags description) less q = small q
  after-small made (DeleteRule at) less q = small q
  after-small made ListRules less q = small q
  after-small made (LockRule at delay) less q = small q
  after-small made (UnlockRule at) less q = small q
  after-small made (ListBin from most) less q = small q
  after-small made (RestoreFromBin at) less q = small q
  after-small made (CreatePolicy targets hours time retain add) less q = small q
  after-small made (GetPolicy at) less q = small q
  after-small made (DeletePolicy at) less q = small q
  after-small made (RunPolicy at) less q = source-small (run_source (rows_of m) m.clock.second at (get m.policies at) q) q

  -- and so are those of volumes
  abbrev AreSmall : FinMap vol_cmp WholeArray → Type 0
  AreSmall disks = (q : VolKey) → IsSmall (unwrap_or (get disks q) empty)

  set-small : (key : VolKey) (new : WholeArray) → IsSmall new → AreSmall (insert m.disks key new)
  set-small key new less q = subst (λ o. IsSmall (unwrap_or o empty)) (sym (get-insert vols_total m.disks key new q)) (by (eq_by_cmp vol_cmp q key))
    where
      by : (b : Bool) → IsSmall (unwrap_or (cond b (Some new) (get m.disks q)) empty)
      by true = less
      by false = disks q

  cut-small : (key : VolKey) → AreSmall (remove m.disks key)
  cut-small key q = subst (λ o. IsSmall (unwrap_or o empty)) (sym (get-remove vols_total m.disks key q)) (by (eq_by_cmp vol_cmp q key))
    where
      by : (b : Bool) → IsSmall (unwrap_or (cond b None (get m.disks q)) empty)
      by true = none-small
      by false = disks q

  made-small : (made : Option VolKey) (new : WholeArray) → IsSmall new → AreSmall (with_disk m.disks made new)
  made-small None new less = disks
  made-small (Some key) new less = set-small key new less

  disks-small : (made : Option VolKey) (request : Request) → HasSmallIndex request → AreSmall (disks_by m bytes made request)
  disks-small made (StartSnapshot size parent description tags token timeout) less = disks
  disks-small made (PutSnapshotBlock key index stated left) less = disks
  disks-small made (CompleteSnapshot key count checksum) less = disks
  disks-small made (ListSnapshotBlocks key page most start) less = disks
  disks-small made (ListChangedBlocks first second page most start) less = disks
  disks-small made (GetSnapshotBlock key index token) less = disks
  disks-small made (DescribeSnapshot key) less = disks
  disks-small made (DescribeSnapshots from most) less = disks
  disks-small made (DeleteSnapshot key) less = disks
  disks-small made (ModifyPermission key add add_all take take_all) less = disks
  disks-small made (LockSnapshot key mode term cool_hours) less = disks
  disks-small made (UnlockSnapshot key) less = disks
  disks-small made (ArchiveSnapshot key) less = disks
  disks-small made (RestoreTier key days) less = disks
  disks-small made (CreateVolume origin size tags token) less = made-small made (begun_array m origin) (begun-small origin)
  disks-small made (CreateSnapshot source description tags) less = disks
  disks-small made (WriteVolumeBlock key index stated left) less = set-small key _ (insert-small (disk_of m key) index (record { stamp = m.stamps; bytes = bytes }) less (disks key))
  disks-small made (ReadVolumeBlock key index) less = disks
  disks-small made (DescribeVolume key) less = disks
  disks-small made (DeleteVolume key) less = cut-small key
  disks-small made (CreateRule days tags description delay) less = disks
  disks-small made (GetRule key) less = disks
  disks-small made (UpdateRule key days tags description) less = disks
  disks-small made (DeleteRule key) less = disks
  disks-small made ListRules less = disks
  disks-small made (LockRule key delay) less = disks
  disks-small made (UnlockRule key) less = disks
  disks-small made (ListBin from most) less = disks
  disks-small made (RestoreFromBin key) less = disks
  disks-small made (CreatePolicy targets hours time retain add) less = disks
  disks-small made (GetPolicy key) less = disks
  disks-small made (DeletePolicy key) less = disks
  disks-small made (RunPolicy key) less = disks

  module _ (c : Change) (fits : HasSmallIndex c.request) where
    committed-array : (q : SnapKey) (o : Option SnapRow) → IsSmall (array_at (option_map (with_array (array_after m bytes c q)) o))
    committed-array q None = none-small
    committed-array q (Some row) = after-small (made_snap c.made) c.request fits q

    pub small-changed : IndexesAreSmall (changed m bytes c)
    small-changed key index block e =
        committed-array key (get (commit (rows_of m) c).snaps key) index block (ap (λ o. get (array_at o) index) (sym (get-with (commit (rows_of m) c).snaps (array_after m bytes c) key)) ∙ e)

pub rows-changed : (m : Machine) (bytes : List ℕ) (c : Change) → ((q : SnapKey) (row : SnapRow) → get (commit (rows_of m) c).snaps q ≡ Some row → IsGoodRow row) → AreGoodRows (changed m bytes c).snaps
rows-changed m bytes c good key s e = of_row (get (commit (rows_of m) c).snaps key) refl (sym (get-with (commit (rows_of m) c).snaps (array_after m bytes c) key) ∙ e)
  where
    of_row : (o : Option SnapRow) → get (commit (rows_of m) c).snaps key ≡ o → option_map (with_array (array_after m bytes c key)) o ≡ Some s → IsGoodRow s.row
    of_row None is r = cc
    of_row (Some row) is r =
        let same : with_array (array_after m bytes c key) row ≡ s = cc in
        subst (λ (s : Snapshot). IsGoodRow s.row) same (good key row is)

pub sound-changed : (m : Machine) (bytes : List ℕ) (c : Change) → IsSound m → m.changes < 2 ^ 40 → HasSmallIndex c.request → ((q : SnapKey) (row : SnapRow) → get (commit (rows_of m) c).snaps q ≡ Some row → IsGoodRow row) → AreGoodVolumes (commit (rows_of m) c).vols → IsSound (changed m bytes c)
sound-changed m bytes c s few fits good volumes =
    let one = one_write c.request in
    record { few = omega arith; stamps = omega arith; early = s.early; rows = rows-changed m bytes c good; volumes = volumes; small = small-changed m s.small s.disks bytes c fits; disks = disks-small m s.small s.disks bytes (made_vol c.made) c.request fits }

pub sound-empty : (secret : List ℕ) → IsSound (empty_machine secret)
sound-empty secret = record {
  few = omega arith;
  stamps = omega arith;
  early = omega arith;
  rows = λ key s e. let none = fin.get-empty {X = Snapshot} snap_cmp key in cc;
  volumes = λ key row e. let none = fin.get-empty {X = VolRow} vol_cmp key in cc;
  disks = λ key index block e. let none = ap (λ o. get (unwrap_or o empty) index) (fin.get-empty {X = WholeArray} vol_cmp key) ∙ fin.get-empty {X = WholeBlock} nat_cmp index in cc;
  small = λ key index block e. let none = ap (λ o. get (array_at o) index) (fin.get-empty {X = Snapshot} snap_cmp key) ∙ fin.get-empty {X = WholeBlock} nat_cmp index in cc;
}
