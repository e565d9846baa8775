-- The arrays of a machine, as the rules of a checkpoint want them.
use Rattle.std.proofs.Common.{◌≡◌, ℕ, Bool, true, ◌&&◌, List, [], ◌∷◌, map, Option, Some, None, is_some, refl, sym, ap, subst, ◌∙◌}
use Rattle.std.specs.Prelude.{nat_lt}
use Rattle.std.specs.List.{list_all, AllByRecursion}
use Rattle.std.specs.Option.{option_map}
use Rattle.std.specs.Ordering.{nat_cmp}
use Rattle.std.specs.Cmp.{nat_cmp_total}
use Rattle.std.specs.FinMap.{get, contains_key, entries}
use Rattle.ebs_model.specs.declared.array.Block.{Block}
use Rattle.ebs_model.specs.Arrays.{WholeArray}
use Rattle.ebs_model.specs.Quotas as quotas
use Rattle.ebs_model.proofs.Values.{get-map_values}
use Rattle.ebs_checkpoints.specs.declared.nodes.CopyRow.{CopyRow}
use Rattle.ebs_checkpoints.specs.declared.owned.VolPoint.{VolPoint}
use Rattle.ebs_checkpoints.specs.declared.snapshots.SnapPoint.{SnapPoint}
use Rattle.ebs_checkpoints.specs.declared.checkpoint.Checkpoint.{Checkpoint}
use Rattle.ebs_row_rules.specs.Order.{ascends, is_ordered, has_ordered_parts}
use Rattle.ebs_node_rules.specs.Arrays.{Array, array_in, arrays_of, row_array, is_within, copies_agree, gives_up, puts_are_in, fits_array, volume_fits}
use Rattle.ebs_recovery.specs.inner.Bases.{kept_block, kept_array, snapshot_of, snaps_of, disks_of, machine_of}
use Rattle.ebs_recovery.specs.Bases.{row_of, vols_of}
use Rattle.ebs_lawful.specs.Arrays.{FitsIn, IsArrayOf, AreArrays}
use Rattle.ebs_lawful.proofs.Maps.{some_is, each-entry}
use Rattle.ebs_lawful_points.proofs.Parts.{three, each-of, all-of, weaker, both}
use Rattle.ebs_lawful_points.proofs.Ordered.{each-found}
use Rattle.ebs_lawful_points.proofs.RowRules.{less-is}
use Rattle.ebs_point_rules.specs.Moved.{AreMoved}
use Rattle.ebs_point_rules.specs.Laws.{ArraysFit}
use Rattle.ebs_point_rules.proofs.Rows.{parts-up, snaps-there, vols-there, disks-there}

kept-is : (array : Array) (index : ℕ) → get (kept_array array) index ≡ option_map kept_block (get array index)
kept-is array index = get-map_values nat_cmp_total kept_block array index

kept-there : (o : Option Block) → is_some (option_map kept_block o) ≡ is_some o
kept-there None = refl
kept-there (Some b) = refl

keys-all : (test : ℕ → Bool) (es : List (ℕ × Block)) → AllByRecursion (λ (e : ℕ × Block). test e.0 ≡ true) es → list_all test (map (λ e. e.0) es) ≡ true
keys-all test [] all = refl
keys-all test (e ∷ es) all = λ i. all.0 i && keys-all test es all.1 i

fits-within : (size : ℕ) (array : Array) → FitsIn size (kept_array array) → is_within size array ≡ true
fits-within size array fits = keys-all (λ index. nat_lt index (quotas.blocks_of size)) (entries array)
    (each-entry nat_cmp_total array (λ e. nat_lt e.0 (quotas.blocks_of size) ≡ true) (λ e there. less-is e.0 (quotas.blocks_of size) (fits e.0 (kept_block e.1) (kept-is array e.0 ∙ ap (option_map kept_block) there))))

-- each index that was put is found in the set of them
put-there : (p : SnapPoint) → has_ordered_parts p ≡ true → AllByRecursion (λ (i : ℕ). get (row_of p).put i ≡ Some tt) p.put
put-there p up =
    let lists = three (ascends nat_cmp (λ n. n) p.put) (ascends nat_cmp (λ n. n) p.shared) (ascends nat_cmp (λ (c : CopyRow). c.index) p.copies) up in
    each-found nat_cmp_total (λ (i : ℕ). i) (λ (i : ℕ). tt) p.put lists.0

puts-in : (point : Checkpoint) (p : SnapPoint) → has_ordered_parts p ≡ true → IsArrayOf (row_of p) (kept_array (row_array (arrays_of point.nodes) p)) → puts_are_in (arrays_of point.nodes) p ≡ true
puts-in point p up h =
    let array : Array = row_array (arrays_of point.nodes) p in
    all-of (contains_key array) p.put
    (weaker (λ (i : ℕ). get (row_of p).put i ≡ Some tt) (λ (i : ℕ). contains_key array i ≡ true) (λ i e. sym (ap is_some (kept-is array i) ∙ kept-there (get array i)) ∙ h.puts i e) p.put (put-there p up))

module _ (point : Checkpoint) (up : is_ordered point ≡ true) (given : AreArrays (machine_of point)) (moved : AreMoved point) where
  abbrev IsSnapThere : SnapPoint → Type 0
  IsSnapThere p = get (snaps_of point) p.key ≡ Some (snapshot_of (arrays_of point.nodes) p)

  record IsReady (p : SnapPoint) : Type 0 where
    there : IsSnapThere p
    lists : has_ordered_parts p ≡ true
    agree : copies_agree point.nodes (arrays_of point.nodes) p ≡ true
    given_up : gives_up (arrays_of point.nodes) p ≡ true

  ready : AllByRecursion IsReady point.snapshots
  ready =
      let ups = both IsSnapThere (λ (p : SnapPoint). has_ordered_parts p ≡ true) point.snapshots (snaps-there point up) (each-of has_ordered_parts point.snapshots (parts-up point up)) in
      let moves = both (λ (p : SnapPoint). copies_agree point.nodes (arrays_of point.nodes) p ≡ true) (λ (p : SnapPoint). gives_up (arrays_of point.nodes) p ≡ true) point.snapshots
      (each-of (copies_agree point.nodes (arrays_of point.nodes)) point.snapshots moved.agree) (each-of (gives_up (arrays_of point.nodes)) point.snapshots moved.given_up) in
      weaker (λ (p : SnapPoint). (IsSnapThere p × (has_ordered_parts p ≡ true)) × ((copies_agree point.nodes (arrays_of point.nodes) p ≡ true) × (gives_up (arrays_of point.nodes) p ≡ true))) IsReady
      (λ p h. record { there = h.0.0; lists = h.0.1; agree = h.1.0; given_up = h.1.1 }) point.snapshots
      (both (λ (p : SnapPoint). IsSnapThere p × (has_ordered_parts p ≡ true)) (λ (p : SnapPoint). (copies_agree point.nodes (arrays_of point.nodes) p ≡ true) × (gives_up (arrays_of point.nodes) p ≡ true)) point.snapshots ups moves)

  snap-fits : (p : SnapPoint) → IsReady p → fits_array point.nodes (arrays_of point.nodes) p ≡ true
  snap-fits p h =
      let array : IsArrayOf (row_of p) (kept_array (row_array (arrays_of point.nodes) p)) = given.snaps p.key (snapshot_of (arrays_of point.nodes) p) h.there in
      let inside = fits-within p.size (row_array (arrays_of point.nodes) p) array.fits in
      let puts = puts-in point p h.lists array in
      λ i. inside i && (h.agree i && (h.given_up i && puts i))

  abbrev disk : VolPoint → WholeArray
  disk v = kept_array (array_in (arrays_of point.nodes) (Some v.node))

  vol-fits : (v : VolPoint) → get (vols_of point) v.row.key ≡ Some v.row → get (disks_of point) v.row.key ≡ Some (disk v) → volume_fits (arrays_of point.nodes) v ≡ true
  vol-fits v row image =
      let found = given.vols v.row.key v.row row in
      fits-within v.row.size (array_in (arrays_of point.nodes) (Some v.node)) (subst (FitsIn v.row.size) (some_is found.0 (disk v) (sym found.1 ∙ image)) found.2)

  snaps-fit : list_all (fits_array point.nodes (arrays_of point.nodes)) point.snapshots ≡ true
  snaps-fit = all-of (fits_array point.nodes (arrays_of point.nodes)) point.snapshots (weaker IsReady (λ (p : SnapPoint). fits_array point.nodes (arrays_of point.nodes) p ≡ true) snap-fits point.snapshots ready)

  vols-fit : list_all (volume_fits (arrays_of point.nodes)) point.volumes ≡ true
  vols-fit = all-of (volume_fits (arrays_of point.nodes)) point.volumes
      (weaker (λ (v : VolPoint). (get (vols_of point) v.row.key ≡ Some v.row) × (get (disks_of point) v.row.key ≡ Some (disk v))) (λ (v : VolPoint). volume_fits (arrays_of point.nodes) v ≡ true) (λ v h. vol-fits v h.0 h.1) point.volumes
      (both (λ (v : VolPoint). get (vols_of point) v.row.key ≡ Some v.row) (λ (v : VolPoint). get (disks_of point) v.row.key ≡ Some (disk v)) point.volumes (vols-there point up) (disks-there point up)))

pub arrays-fit : ArraysFit
arrays-fit point up given moved =
    let snaps = snaps-fit point up given moved in
    let vols = vols-fit point up given moved in
    λ i. snaps i && vols i
