-- The arrays that a checkpoint says.
use Rattle.std.proofs.Common.{◌≡◌, ℕ, Bool, true, false, cond, List, [], ◌∷◌, map, Option, Some, None, is_some, refl, sym, ap, subst, ◌∙◌}
use Rattle.std.specs.Prelude.{nat_lt}
use Rattle.std.specs.declared.cmp.Ordering.{Ordering}
use Rattle.std.specs.List.{list_all}
use Rattle.std.specs.Option.{option_map}
use Rattle.std.specs.Ordering.{eq_by_cmp}
use Rattle.std.specs.Cmp.{nat_cmp_total}
use Rattle.std.specs.FinMap.{get, find, contains_key, get-from_entries}
use Rattle.ebs_model.specs.declared.array.Block.{Block}
use Rattle.ebs_model.specs.declared.keys.SnapKey.{SnapKey}
use Rattle.ebs_model.specs.declared.keys.VolKey.{VolKey}
use Rattle.ebs_model.specs.declared.rows.VolRow.{VolRow}
use Rattle.ebs_model.specs.Arrays.{WholeArray}
use Rattle.ebs_model.specs.Quotas as quotas
use Rattle.ebs_model.specs.Keys.{vol_cmp}
use Rattle.ebs_model.specs.inner.Orders.{vols_total}
use Rattle.ebs_model.specs.Time.{Snapshot}
use Rattle.ebs_model.proofs.Values.{get-map_values}
use Rattle.ebs_checkpoints.specs.declared.owned.VolPoint.{VolPoint}
use Rattle.ebs_checkpoints.specs.declared.snapshots.SnapPoint.{SnapPoint}
use Rattle.ebs_checkpoints.specs.declared.checkpoint.Checkpoint.{Checkpoint}
use Rattle.ebs_node_rules.specs.Arrays.{Array, array_in, arrays_of, row_array, is_within, copies_agree, gives_up, puts_are_in, fits_array, volume_fits}
use Rattle.ebs_checkpoint_rules.specs.Rules.{HasRules}
use Rattle.ebs_recovery.specs.inner.Bases.{kept_block, kept_array, disks_of, machine_of}
use Rattle.ebs_recovery.specs.Bases.{row_of, vols_of}
use Rattle.ebs_lawful.specs.Arrays.{FitsIn, IsArrayOf}
use Rattle.ebs_lawful.proofs.Maps.{none_some, some_is}
use Rattle.ebs_lawful_points.specs.Blocks.{PointsHaveArrays}
use Rattle.ebs_lawful_points.proofs.Parts.{two, four}
use Rattle.ebs_lawful_points.proofs.Taken.{arrays-fit}
use Rattle.ebs_lawful_points.proofs.SnapPoints.{less, keys-test, put-found, of-snap}

-- ---- with digests in the place of bytes

kept-is : (array : Array) (index : ℕ) → get (kept_array array) index ≡ option_map kept_block (get array index)
kept-is array index = get-map_values nat_cmp_total kept_block array index

kept-there : (o : Option Block) → is_some (option_map kept_block o) ≡ is_some o
kept-there None = refl
kept-there (Some b) = refl

kept-fits : (size : ℕ) (array : Array) → is_within size array ≡ true → FitsIn size (kept_array array)
kept-fits size array inside index x e =
    let there : contains_key array index ≡ true = sym (kept-there (get array index)) ∙ ap is_some (sym (kept-is array index) ∙ e) in
    less index (quotas.blocks_of size) (keys-test (λ i. nat_lt i (quotas.blocks_of size)) array index inside there)

snap-array : (point : Checkpoint) (p : SnapPoint) → fits_array point.nodes (arrays_of point.nodes) p ≡ true → IsArrayOf (row_of p) (kept_array (row_array (arrays_of point.nodes) p))
snap-array point p fits =
    let array : Array = row_array (arrays_of point.nodes) p in
    let all = four (is_within p.size (row_array (arrays_of point.nodes) p)) (copies_agree point.nodes (arrays_of point.nodes) p) (gives_up (arrays_of point.nodes) p) (puts_are_in (arrays_of point.nodes) p) fits in
    record {
      fits = kept-fits p.size array all.0;
      puts = λ index e. ap is_some (kept-is array index) ∙ kept-there (get array index) ∙ put-found p.put (contains_key (row_array (arrays_of point.nodes) p)) index all.3 e;
    }

-- ---- two maps that are made of one list

record IsBoth {P K X Y : Type 0} (R : K → K → Ordering) (key : P → K) (f : P → X) (g : P → Y) (ps : List P) (q : K) (x : X) : Type 0 where
  point : P
  is : x ≡ f point
  other : find R q (map {B = K × Y} (λ p. (key p, g p)) ps) ≡ Some (g point)
  each : (test : P → Bool) → list_all test ps ≡ true → test point ≡ true

in-both : {P K X Y : Type 0} (R : K → K → Ordering) (key : P → K) (f : P → X) (g : P → Y) (ps : List P) (q : K) (x : X) → find R q (map {B = K × X} (λ p. (key p, f p)) ps) ≡ Some x → IsBoth R key f g ps q x
in-both R key f g [] q x e = none_some e
in-both {K = K} {X = X} {Y = Y} R key f g (p ∷ ps) q x e = by (λ h. in-both R key f g ps q x h) (eq_by_cmp R q (key p)) refl e
  where
    by : (find R q (map {B = K × X} (λ p. (key p, f p)) ps) ≡ Some x → IsBoth R key f g ps q x) → (b : Bool) → eq_by_cmp R q (key p) ≡ b → cond b (Some (f p)) (find R q (map {B = K × X} (λ p. (key p, f p)) ps)) ≡ Some x
        → IsBoth R key f g (p ∷ ps) q x
    by again true t h = record {
      point = p;
      is = sym (some_is (f p) x h);
      other = ap (λ (b : Bool). cond b (Some (g p)) (find R q (map {B = K × Y} (λ p. (key p, g p)) ps))) t;
      each = λ test all. (two (test p) (list_all test ps) all).0;
    }
    by again false t h =
        let r = again h in
        record {
          point = r.point;
          is = r.is;
          other = ap (λ (b : Bool). cond b (Some (g p)) (find R q (map {B = K × Y} (λ p. (key p, g p)) ps))) t ∙ r.other;
          each = λ test all. r.each test (two (test p) (list_all test ps) all).1;
        }

module _ (point : Checkpoint) (rules : HasRules point) where
  abbrev image : VolPoint → WholeArray
  image v = kept_array (array_in (arrays_of point.nodes) (Some v.node))

  abbrev key_of : VolPoint → VolKey
  key_of v = v.row.key

  abbrev row_in : VolPoint → VolRow
  row_in v = v.row

  vol-array : (key : VolKey) (row : VolRow) → get (vols_of point) key ≡ Some row → (array : WholeArray) × (get (disks_of point) key ≡ Some array) × FitsIn row.size array
  unfolding vols_of disks_of
  vol-array key row e =
      let r = in-both vol_cmp (λ (v : VolPoint). v.row.key) (λ (v : VolPoint). v.row) (λ (v : VolPoint). kept_array (array_in (arrays_of point.nodes) (Some v.node))) point.volumes key row
      (sym (get-from_entries vols_total (map (λ (v : VolPoint). (v.row.key, v.row)) point.volumes) key) ∙ e) in
      let v : VolPoint = r.point in (
        image v,
        get-from_entries vols_total (map (λ (v : VolPoint). (v.row.key, kept_array (array_in (arrays_of point.nodes) (Some v.node)))) point.volumes) key ∙ r.other,
        subst (λ (x : VolRow). FitsIn x.size (image v)) (sym r.is) (kept-fits v.row.size (array_in (arrays_of point.nodes) (Some v.node)) (r.each (volume_fits (arrays_of point.nodes)) (arrays-fit point rules).1)),
      )

  disk-row : (key : VolKey) (array : WholeArray) → get (disks_of point) key ≡ Some array → contains_key (vols_of point) key ≡ true
  unfolding vols_of disks_of
  disk-row key array e =
      let r = in-both vol_cmp (λ (v : VolPoint). v.row.key) (λ (v : VolPoint). kept_array (array_in (arrays_of point.nodes) (Some v.node))) (λ (v : VolPoint). v.row) point.volumes key array
      (sym (get-from_entries vols_total (map (λ (v : VolPoint). (v.row.key, kept_array (array_in (arrays_of point.nodes) (Some v.node)))) point.volumes) key) ∙ e) in
      ap is_some (get-from_entries vols_total (map (λ (v : VolPoint). (v.row.key, v.row)) point.volumes) key ∙ r.other)

  snaps-arrays : (key : SnapKey) (s : Snapshot) → get (machine_of point).snaps key ≡ Some s → IsArrayOf s.row s.array
  snaps-arrays key s e =
      let r = of-snap point key s e in
      subst (λ (x : Snapshot). IsArrayOf x.row x.array) (sym r.is) (snap-array point r.point (r.each (fits_array point.nodes (arrays_of point.nodes)) (arrays-fit point rules).0))

pub points-arrays : PointsHaveArrays
points-arrays point rules = record { snaps = snaps-arrays point rules; vols = vol-array point rules; disks = disk-row point rules }
