-- A store with a checkpoint's rows and arrays is the machine that the checkpoint says.
use Rattle.std.proofs.Common.{◌≡◌, ℕ, ◌^◌, ◌<◌, ◌≤◌, arith, true, false, List, [], ◌∷◌, map, Option, None, Some, refl, sym, ap, subst, ◌∙◌}
use Rattle.std.specs.Prelude.{nat_le, unwrap_or}
use Rattle.std.specs.Option.{option_map}
use Rattle.std.specs.List.{list_all, AllByRecursion}
use Rattle.std.specs.Ordering.{nat_cmp}
use Rattle.std.specs.declared.alloc.Global.{Global}
use Rattle.std.specs.FinMap.{FinMap, get, empty, same_map, get-empty, get-from_entries}
use Rattle.ebs_model.specs.declared.keys.SnapKey.{SnapKey}
use Rattle.ebs_model.specs.declared.keys.VolKey.{VolKey}
use Rattle.ebs_model.specs.declared.rows.VolRow.{VolRow}
use Rattle.ebs_model.specs.Arrays.{WholeArray, WholeBlock}
use Rattle.ebs_model.specs.Keys.{snap_cmp, vol_cmp}
use Rattle.ebs_model.specs.Limits.{is_size, is_timeout}
use Rattle.ebs_model.specs.Quotas.{blocks_of}
use Rattle.ebs_model.specs.inner.Orders.{snaps_total, vols_total, exact_vols}
use Rattle.ebs_model.specs.Machine.{Machine, rows_of, aged_rows, with_arrays, array_at, array_of, disk_of}
use Rattle.ebs_model.specs.Rows.{Rows}
use Rattle.ebs_model.specs.Time.{Snapshot}
use Rattle.ebs_model.proofs.RowLaws.{get-row, row_in, with-itself}
use Rattle.ebs_lineage.specs.Owned.{Blocks}
use Rattle.ebs_checkpoints.specs.declared.owned.VolPoint.{VolPoint}
use Rattle.ebs_checkpoints.specs.declared.snapshots.SnapPoint.{SnapPoint}
use Rattle.ebs_checkpoints.specs.declared.checkpoint.Checkpoint.{Checkpoint}
use Rattle.ebs_row_rules.specs.Order.{ascends}
use Rattle.ebs_node_rules.specs.Arrays.{arrays_of}
use Rattle.ebs_node_rules.specs.States.{is_none_of}
use Rattle.ebs_recovery.specs.inner.Bases.{snapshot_of, snaps_of, disks_of, machine_of}
use Rattle.ebs_lawful.specs.Snapshots.{IsSnapRow, IsTimeoutOf}
use Rattle.ebs_lawful_points.proofs.Parts.{two, each-of, weaker}
use Rattle.ebs_lawful_points.proofs.SnapPoints.{no_more}
use Rattle.ebs_lawful_points.proofs.Ordered.{sorted}
use Rattle.ebs_point_rules.specs.Laws.{IsSettled}
use Rattle.ebs_recovery.specs.Bases.{HasNoCopies, has_no_copies}
use Rattle.ebs_holds.specs.Holders.{of_snap, of_vol}
use Rattle.ebs_holds.specs.Holds.{Holding}
use Rattle.ebs_catalog.specs.Held.{Held, rows_in}
use Rattle.ebs_kept.specs.inner.Shown as store
use Rattle.ebs_kept.specs.inner.Shown.{IsGoodRow, IsSound, snap_array, disk_array, with_disks}
use Rattle.ebs_kept.specs.inner.Parts.{machine_by}
use Rattle.ebs_kept.proofs.Disks.{get-disk}
use Rattle.ebs_restored_rows.specs.Said.{rows_said, vols_said}
use Rattle.ebs_restored_rows.proofs.PointRows.{lists-say-rows}
use Rattle.ebs_restored.specs.Restored.{AreRestored}
use Rattle.ebs_restored.proofs.SaidArrays.{array_of_vol, snap-array, vol-array}

no-copies : (rows : List SnapPoint) → list_all has_no_copies rows ≡ true → AllByRecursion (λ (s : SnapPoint). s.copies ≡ []) rows
no-copies rows none = weaker (λ (s : SnapPoint). has_no_copies s ≡ true) (λ (s : SnapPoint). s.copies ≡ []) (λ s e. empty-of s.copies e) rows (each-of has_no_copies rows none)
  where
    empty-of : {X : Type 0} (xs : List X) → is_none_of xs ≡ true → xs ≡ []
    empty-of [] e = refl
    empty-of (x ∷ xs) e = absurd (cc)

module _ (point : Checkpoint) (up : ascends snap_cmp (λ (s : SnapPoint). s.key) point.snapshots ≡ true) (copies : HasNoCopies point) (settled : IsSettled (machine_of point)) (catalog : Held) (h : Holding)
    (says : rows_in catalog ≡ rows_said point.accounts point.snapshots point.volumes point.rules point.policies) (restored : AreRestored point h) where
  rows-are : rows_in catalog ≡ rows_of (machine_of point)
  rows-are = says ∙ lists-say-rows point

  array-is : (q : SnapKey) → snap_array h q ≡ array_at (get (snaps_of point) q)
  unfolding snaps_of
  array-is q = ap store.kept_array (restored.arrays (of_snap q))
      ∙ snap-array (arrays_of point.nodes) point.snapshots point.volumes (sorted snaps_total (λ (s : SnapPoint). s.key) (λ s. s) point.snapshots up) (no-copies point.snapshots copies.rows) q
      ∙ sym (ap array_at (get-from_entries snaps_total (map (λ (p : SnapPoint). (p.key, snapshot_of (arrays_of point.nodes) p)) point.snapshots) q))

  snaps-are : aged_rows point.clock.second (with_arrays (rows_in catalog).snaps (snap_array h)) ≡ snaps_of point
  snaps-are = ap (λ (r : Rows). aged_rows point.clock.second (with_arrays r.snaps (snap_array h))) rows-are
      ∙ ap (aged_rows point.clock.second) (with-itself (snaps_of point) (snap_array h) array-is) ∙ ap (λ (m : Machine). m.snaps) settled.rests

  disk-is : (q : VolKey) → get (with_disks (vols_said point.volumes) (disk_array h)) q ≡ get (disks_of point) q
  unfolding disks_of
  disk-is q =
      let found = get-from_entries vols_total (map (λ (v : VolPoint). (v.row.key, v.row)) point.volumes) q in
      get-disk (vols_said point.volumes) (disk_array h) q ∙ ap (option_map (λ (row : VolRow). disk_array h q)) found
      ∙ ap (λ (b : Blocks). option_map (λ (row : VolRow). store.kept_array b) (Rattle.std.specs.FinMap.find vol_cmp q (map (λ (v : VolPoint). (v.row.key, v.row)) point.volumes))) (restored.arrays (of_vol q))
      ∙ vol-array (arrays_of point.nodes) point.snapshots point.volumes q
      ∙ sym (get-from_entries vols_total (map (λ (v : VolPoint). (v.row.key, array_of_vol (arrays_of point.nodes) v)) point.volumes) q)

  disks-are : with_disks (rows_in catalog).vols (disk_array h) ≡ disks_of point
  disks-are = ap (λ (r : Rows). with_disks r.vols (disk_array h)) says ∙ same_map vols_total exact_vols _ _ disk-is

  pub machine-is : (alloc : Global) → machine_by alloc point.secret point.clock point.accepted point.next_stamp catalog h ≡ machine_of point
  machine-is alloc = λ i. record {
    clock = point.clock;
    changes = point.accepted;
    stamps = point.next_stamp;
    secret = point.secret;
    snaps = snaps-are i;
    own = (rows-are i).own;
    tokens = (rows-are i).tokens;
    vols = (rows-are i).vols;
    disks = disks-are i;
    books = (rows-are i).books;
    policies = (rows-are i).policies;
  }

-- ---- a settled machine is one that a store keeps

-- an image has no more than 2^25 blocks
small : (size index : ℕ) → is_size size ≡ true → index < blocks_of size → index < 2 ^ 32
small size index sized l = let most : size ≤ 16384 = no_more size 16384 (two (nat_le 1 size) (nat_le size 16384) sized).1 in omega (arith, most, l)

module _ (m : Machine) (settled : IsSettled m) where
  row-of : (key : SnapKey) (s : Snapshot) → get m.snaps key ≡ Some s → IsSnapRow key s.row
  row-of key s found = settled.lawful.snaps key s.row (get-row m.snaps key ∙ ap row_in found)

  timed : (key : SnapKey) (s : Snapshot) → get m.snaps key ≡ Some s → s.row.completed ≡ false → 1 ≤ s.row.timeout
  timed key s found pending =
      let row = row-of key s found in
      let given : is_timeout s.row.timeout ≡ true = subst (λ (volume : Option VolKey). IsTimeoutOf volume s.row.timeout) ((row.upload pending).volume) row.timeout in
      let least : 10 ≤ s.row.timeout = no_more 10 s.row.timeout (two (nat_le 10 s.row.timeout) (nat_le s.row.timeout 4320) given).0 in
      omega (arith, least)

  array-small : (key : SnapKey) (index : ℕ) (block : WholeBlock) → get (array_of m key) index ≡ Some block → index < 2 ^ 32
  array-small key index block = by (get m.snaps key) refl
    where
      by : (o : Option Snapshot) → get m.snaps key ≡ o → get (array_at o) index ≡ Some block → index < 2 ^ 32
      by None is e = absurd (let none : None ≡ Some block = sym (get-empty nat_cmp index) ∙ e in cc)
      by (Some s) is e = small s.row.size index (row-of key s is).size ((settled.arrays.snaps key s is).fits index block e)

  disk-small : (key : VolKey) (index : ℕ) (block : WholeBlock) → get (disk_of m key) index ≡ Some block → index < 2 ^ 32
  disk-small key index block = by (get m.vols key) refl (get m.disks key) refl
    where
      fits : (row : VolRow) → get m.vols key ≡ Some row → (array : WholeArray) → get m.disks key ≡ Some array → get array index ≡ Some block → index < blocks_of row.size
      fits row there array is e =
          let own = settled.arrays.vols key row there in
          let same : own.0 ≡ array = some_is own.0 array (sym own.1 ∙ is) in
          own.2 index block (ap (λ (a : WholeArray). get a index) same ∙ e)
        where
          some_is : {A : Type 0} (x y : A) → Some x ≡ Some y → x ≡ y
          some_is x y e = cc

      no-volume : (array : WholeArray) → get m.vols key ≡ None → get m.disks key ≡ Some array → ⊥
      no-volume array none is = let e : false ≡ true = sym (ap Rattle.std.specs.Option.is_some none) ∙ settled.arrays.disks key array is in absurd (cc)

      by : (v : Option VolRow) → get m.vols key ≡ v → (o : Option WholeArray) → get m.disks key ≡ o → get (unwrap_or o empty) index ≡ Some block → index < 2 ^ 32
      by v there None is e = absurd (let none : None ≡ Some block = sym (get-empty nat_cmp index) ∙ e in cc)
      by None there (Some array) is e = absurd (no-volume array there is)
      by (Some row) there (Some array) is e = small row.size index (settled.lawful.vols key row there).size (fits row there array is e)

  pub is-sound : IsSound m
  is-sound = record {
    few = settled.lawful.counts.changes;
    stamps = settled.lawful.counts.stamps;
    early = settled.lawful.counts.clock;
    rows = λ key s found. record { size = (row-of key s found).size; timeout = timed key s found };
    volumes = λ key row found. (settled.lawful.vols key row found).size;
    small = array-small;
    disks = disk-small;
  }
