-- What a moment leaves of the snapshots, row by row, and their arrays.
use Rattle.std.proofs.Common.{◌≡◌, ℕ, ◌≤◌, Bool, true, false, cond, List, [], ◌∷◌, map, Option, None, Some, refl, sym, ap, subst, ◌∙◌}
use Rattle.std.proofs.lemmas.Map.Entries.{option_filter}
use Rattle.std.specs.Option.{option_map}
use Rattle.std.specs.List.{AllByRecursion}
use Rattle.std.specs.List.Sorted.{IsStrictlySortedBy}
use Rattle.std.specs.Map.{keys_of}
use Rattle.std.specs.FinMap.{FinMap, get, empty, entries}
use Rattle.ebs_tables.proofs.TreeMaps.{entries-seen, entries-sorted}
use Rattle.ebs_model.specs.declared.keys.SnapKey.{SnapKey}
use Rattle.ebs_model.specs.declared.rows.SnapRow.{SnapRow}
use Rattle.ebs_model.specs.Keys.{snap_cmp}
use Rattle.ebs_model.specs.Arrays.{WholeArray}
use Rattle.ebs_model.specs.Time.{Snapshot, is_failed, rested, rested_row, status_at, stays}
use Rattle.ebs_model.specs.Machine.{aged_rows, array_at, snap_rows, with_arrays}
use Rattle.ebs_model.specs.inner.Orders.{snaps_total}
use Rattle.ebs_model.specs.inner.Rows.{aged_snaps}
use Rattle.ebs_model.proofs.Aged.{aged-aged, aged_row, get-aged}
use Rattle.ebs_model.proofs.RowLaws.{get-aged_snaps, get-with, left_row, rows-aged, rows-with, with-itself, with_array}
use Rattle.ebs_checkpoints.specs.declared.snapshots.SnapPoint.{SnapPoint}
use Rattle.ebs_node_rules.specs.Arrays.{Arrays, row_array}
use Rattle.ebs_recovery.specs.inner.Bases.{kept_array, snapshot_of}
use Rattle.ebs_recovery.specs.Bases.{row_of}
use Rattle.ebs_lawful.proofs.Maps.{each-entry, none_some, some_is}
use Rattle.ebs_pointed.specs.Snapshots.{listed_row}

pub unmapped : {X Y : Type 0} (P : Y → Type 0) (f : X → Y) (xs : List X) → AllByRecursion P (map f xs) → AllByRecursion (λ x. P (f x)) xs
unmapped P f [] all = tt
unmapped P f (x ∷ xs) all = (all.0, unmapped P f xs all.1)

-- ---- the row that a point's row is made of

module _ (now : ℕ) (rows : FinMap snap_cmp SnapRow) where
  -- the moment leaves such a row at the key
  pub record IsLeft (key : SnapKey) (left : SnapRow) : Type 0 where
    pub row : SnapRow
    pub there : get rows key ≡ Some row
    pub stays : stays now row ≡ true
    pub is : left ≡ rested_row now row

  left-by : (key : SnapKey) (left row : SnapRow) (b : Bool) → get rows key ≡ Some row → stays now row ≡ b → option_map (rested_row now) (cond b (Some row) None) ≡ Some left → IsLeft key left
  left-by key left row true there test e = record { row = row; there = there; stays = test; is = sym (some_is (rested_row now row) left e) }
  left-by key left row false there test e = none_some e

  left-found : (key : SnapKey) (left : SnapRow) → get (aged_snaps now rows) key ≡ Some left → IsLeft key left
  left-found key left found = by (get rows key) refl (sym (get-aged_snaps now rows key) ∙ found)
    where
      by : (o : Option SnapRow) → get rows key ≡ o → left_row now o ≡ Some left → IsLeft key left
      by None there e = none_some e
      by (Some row) there e = left-by key left row (stays now row) there refl e

  pub each-left : (points : List SnapPoint) → entries (aged_snaps now rows) ≡ map listed_row points → AllByRecursion (λ (p : SnapPoint). IsLeft p.key (row_of p)) points
  each-left points is = unmapped (λ (e : SnapKey × SnapRow). IsLeft e.0 e.1) listed_row points
      (subst (AllByRecursion (λ (e : SnapKey × SnapRow). IsLeft e.0 e.1)) is (each-entry snaps_total (aged_snaps now rows) (λ (e : SnapKey × SnapRow). IsLeft e.0 e.1) (λ e found. left-found e.0 e.1 found)))

  pub each-there : (points : List SnapPoint) → entries (aged_snaps now rows) ≡ map listed_row points → AllByRecursion (λ (p : SnapPoint). get (aged_snaps now rows) p.key ≡ Some (row_of p)) points
  each-there points is = unmapped (λ (e : SnapKey × SnapRow). get (aged_snaps now rows) e.0 ≡ Some e.1) listed_row points
      (subst (AllByRecursion (λ (e : SnapKey × SnapRow). get (aged_snaps now rows) e.0 ≡ Some e.1)) is (each-entry snaps_total (aged_snaps now rows) (λ (e : SnapKey × SnapRow). get (aged_snaps now rows) e.0 ≡ Some e.1) (λ e found. found)))

-- ---- the entries of rows with arrays

same-keys : {K X Y : Type 0} (g : K × X → Y) (es : List (K × X)) → keys_of (map {B = K × Y} (λ e. (e.0, g e)) es) ≡ keys_of es
same-keys g [] = refl
same-keys g (e ∷ es) = ap (λ ks. e.0 ∷ ks) (same-keys g es)

entries-with : (rows : FinMap snap_cmp SnapRow) (array : SnapKey → WholeArray) → entries (with_arrays rows array) ≡ map {B = SnapKey × Snapshot} (λ e. (e.0, with_array (array e.0) e.1)) (entries rows)
unfolding with_arrays
entries-with rows array = entries-seen snaps_total (map {B = SnapKey × Snapshot} (λ e. (e.0, with_array (array e.0) e.1)) (entries rows))
    (subst (IsStrictlySortedBy snap_cmp) (sym (same-keys (λ (e : SnapKey × SnapRow). with_array (array e.0) e.1) (entries rows))) (entries-sorted snap_cmp rows))

-- each point's array in its place
listed : (arrays : Arrays) (array : SnapKey → WholeArray) (points : List SnapPoint) → AllByRecursion (λ (p : SnapPoint). array p.key ≡ kept_array (row_array arrays p)) points
    → map {B = SnapKey × Snapshot} (λ (e : SnapKey × SnapRow). (e.0, with_array (array e.0) e.1)) (map listed_row points) ≡ map (λ p. (p.key, snapshot_of arrays p)) points
listed arrays array [] all = refl
listed arrays array (p ∷ points) all = λ i. (p.key, with_array (all.0 i) (row_of p)) ∷ listed arrays array points all.1 i

-- ---- the snapshots of a machine that shows rows and arrays, at a moment

module _ (snaps : FinMap snap_cmp Snapshot) (rows : FinMap snap_cmp SnapRow) (array : SnapKey → WholeArray) (clock now : ℕ) (later : clock ≤ now) (shows : snaps ≡ aged_rows clock (with_arrays rows array)) where
  abbrev left : FinMap snap_cmp Snapshot
  left = aged_rows now snaps

  abbrev pub array-now : SnapKey → WholeArray
  array-now key = array_at (get left key)

  snaps-now : left ≡ aged_rows now (with_arrays rows array)
  snaps-now = ap (aged_rows now) shows ∙ aged-aged clock now later (with_arrays rows array)

  pub rows-now : snap_rows left ≡ aged_snaps now rows
  rows-now = ap snap_rows snaps-now ∙ rows-aged now (with_arrays rows array) ∙ ap (aged_snaps now) (rows-with rows array)

  left-is : left ≡ with_arrays (aged_snaps now rows) array-now
  left-is = sym (with-itself left array-now (λ key. refl)) ∙ ap (λ (r : FinMap snap_cmp SnapRow). with_arrays r array-now) rows-now

  -- the array of a row that stays is its own, unless its upload has failed
  pub array-of : (key : SnapKey) (row : SnapRow) → get rows key ≡ Some row → stays now row ≡ true → array-now key ≡ cond (is_failed (status_at row now)) empty (array key)
  array-of key row there test =
      ap array_at (ap (λ (m : FinMap snap_cmp Snapshot). get m key) snaps-now ∙ get-aged now (with_arrays rows array) key
      ∙ ap (aged_row now) (get-with rows array key ∙ ap (option_map (with_array (array key))) there)
      ∙ ap (λ (b : Bool). option_map (rested now) (cond b (Some (with_array (array key) row)) None)) test)

  pub entries-now : (arrays : Arrays) (points : List SnapPoint) → entries (aged_snaps now rows) ≡ map listed_row points → AllByRecursion (λ (p : SnapPoint). array-now p.key ≡ kept_array (row_array arrays p)) points
      → entries left ≡ map (λ p. (p.key, snapshot_of arrays p)) points
  entries-now arrays points is all =
      ap entries left-is ∙ entries-with (aged_snaps now rows) array-now ∙ ap (map {B = SnapKey × Snapshot} (λ (e : SnapKey × SnapRow). (e.0, with_array (array-now e.0) e.1))) is ∙ listed arrays array-now points all
