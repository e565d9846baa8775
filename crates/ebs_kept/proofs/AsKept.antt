-- The machine at a moment, of the fields that stand for it.
use Rattle.std.proofs.Common.{◌≡◌, ℕ, ◌≤◌, arith, cond, List, [], flat_map, Option, None, Some, refl, sym, ap, subst, ◌∙◌}
use Rattle.std.specs.Option.{option_map, unwrap_or}
use Rattle.std.specs.Ordering.{nat_cmp}
use Rattle.std.specs.Cmp.{nat_cmp_total}
use Rattle.std.specs.FinMap.{FinMap, get, empty, keys, get-empty, nat_cmp-IsAntisymmetric}
use Rattle.sha2.specs.Sha256.{sha256}
use Rattle.ebs_tables.specs.Full.{full}
use Rattle.ebs_tables.proofs.FullLaws.{full-empty}
use Rattle.ebs_model.specs.declared.keys.SnapKey.{SnapKey}
use Rattle.ebs_model.specs.declared.keys.Moment.{Moment}
use Rattle.ebs_model.specs.declared.array.Block.{Block}
use Rattle.ebs_model.specs.declared.rows.SnapRow.{SnapRow}
use Rattle.ebs_model.specs.declared.keys.VolKey.{VolKey}
use Rattle.ebs_model.specs.declared.rows.VolRow.{VolRow}
use Rattle.ebs_model.specs.Keys.{snap_cmp, vol_cmp}
use Rattle.ebs_lineage.specs.Owned.{Blocks}
use Rattle.ebs_model.specs.inner.Digests.{kept_digest}
use Rattle.ebs_model.specs.Arrays.{WholeArray, digest_of, linear}
use Rattle.ebs_model.specs.Kept.{same}
use Rattle.ebs_model.specs.inner.Time.{has_blocks}
use Rattle.ebs_model.specs.Rows.{Rows}
use Rattle.ebs_model.specs.inner.Rows.{aged}
use Rattle.ebs_model.specs.Machine.{Machine, advance, aged_rows, rows_of, array_of, disk_of, put_of, with_arrays}
use Rattle.ebs_model.proofs.RowLaws.{get-with, with_array, same_snaps}
use Rattle.ebs_catalog.specs.Held.{rows_in}
use Rattle.ebs_kept.specs.declared.kept.Kept.TheInside.{Inside}
use Rattle.ebs_kept.specs.inner.Shown.{kept_block, kept_array, put_by, snap_array, disk_array, with_disks, shown, IsReached}
use Rattle.ebs_kept.proofs.Disks.{get-disk}
use Rattle.ebs_kept.proofs.Arrays.{get-kept}
use Rattle.ebs_kept.proofs.Committed.{left_by}
use Rattle.ebs_kept.proofs.Now as now

pub le_self : (n : ℕ) → n ≤ n
le_self n = omega arith

module _ (k : Inside) (m : Machine) (is : shown k ≡ m) (at : Moment) (later : m.clock.second ≤ at.second) where
  abbrev pub rows : Rows
  rows = rows_in k.catalog

  abbrev pub arrays : SnapKey → WholeArray
  arrays = snap_array k.holdings

  pub earlier : k.clock.second ≤ at.second
  earlier = subst (λ (n : Machine). n.clock.second ≤ at.second) (sym is) later

  -- the catalogue has no later moment
  pub reached : IsReached k → k.catalog.latest ≤ at.second
  reached h = let e = earlier in omega (arith, h, e)

  snaps_are : aged_rows k.clock.second (with_arrays rows.snaps arrays) ≡ m.snaps
  snaps_are = ap (λ (n : Machine). n.snaps) is

  own_is : rows.own ≡ m.own
  own_is = ap (λ (n : Machine). n.own) is

  tokens_is : rows.tokens ≡ m.tokens
  tokens_is = ap (λ (n : Machine). n.tokens) is

  vols_is : rows.vols ≡ m.vols
  vols_is = ap (λ (n : Machine). n.vols) is

  books_is : rows.books ≡ m.books
  books_is = ap (λ (n : Machine). n.books) is

  policies_is : rows.policies ≡ m.policies
  policies_is = ap (λ (n : Machine). n.policies) is

  pub disks_are : with_disks rows.vols (disk_array k.holdings) ≡ m.disks
  disks_are = ap (λ (n : Machine). n.disks) is

  pub snaps-at : aged_rows at.second m.snaps ≡ aged_rows at.second (with_arrays rows.snaps arrays)
  snaps-at = now.snaps-now rows arrays k.clock.second m snaps_are own_is tokens_is vols_is books_is policies_is at earlier

  pub rows-at : rows_of (advance m at) ≡ aged at.second rows
  rows-at = now.rows-now rows arrays k.clock.second m snaps_are own_is tokens_is vols_is books_is policies_is at earlier

  pub array-at : (key : SnapKey) → array_of (advance m at) key ≡ left_by at.second rows arrays key
  array-at = now.array-now rows arrays k.clock.second m snaps_are own_is tokens_is vols_is books_is policies_is at earlier

  pub put-at : (key : SnapKey) → put_of (advance m at) key ≡ cond (has_blocks at.second (get rows.snaps key)) (unwrap_or (option_map (λ (row : SnapRow). keys row.put) (get rows.snaps key)) []) []
  put-at = now.put-now rows arrays k.clock.second m snaps_are own_is tokens_is vols_is books_is policies_is at earlier

  -- a volume that is there has the array that is kept
  pub disk-at : (key : VolKey) (row : VolRow) → get m.vols key ≡ Some row → disk_of m key ≡ disk_array k.holdings key
  disk-at key row found =
      let there : get rows.vols key ≡ Some row = ap (λ (v : FinMap vol_cmp VolRow). get v key) vols_is ∙ found in
      ap (λ (n : Machine). unwrap_or (get n.disks key) empty) (sym is) ∙ ap (λ o. unwrap_or o empty) (get-disk rows.vols (disk_array k.holdings) key)
      ∙ ap (λ o. unwrap_or (option_map (λ (row : VolRow). disk_array k.holdings key) o) empty) there

  -- only the clock moves
  pub ticked : record (shown k) { clock = at; snaps = aged_rows at.second (with_arrays rows.snaps arrays) } ≡ advance m at
  ticked = λ i. record (is i) { clock = at; snaps = sym snaps-at i }

-- no rows, no snapshots
pub with-none : (rows : FinMap snap_cmp SnapRow) (array : SnapKey → WholeArray) → rows ≡ empty → with_arrays rows array ≡ empty
with-none rows array e = same_snaps _ _ (λ q. get-with rows array q ∙ ap (λ r. option_map (with_array (array q)) (get r q)) e ∙ ap (option_map (with_array (array q))) (get-empty snap_cmp q) ∙ sym (get-empty snap_cmp q))

-- the indexes of a put set that was found
pub put-found : (found : Option (FinMap nat_cmp (Option (Unit {0})))) (row : Option SnapRow) → option_map full found ≡ option_map (λ (row : SnapRow). row.put) row → put_by found ≡ unwrap_or (option_map (λ (row : SnapRow). keys row.put) row) []
put-found found row e = one found ∙ ap (λ o. unwrap_or (option_map keys o) []) e ∙ two row
  where
    one : (o : Option (FinMap nat_cmp (Option (Unit {0})))) → put_by o ≡ unwrap_or (option_map keys (option_map full o)) []
    one None = refl
    one (Some p) = refl

    two : (o : Option SnapRow) → unwrap_or (option_map keys (option_map (λ (row : SnapRow). row.put) o)) [] ≡ unwrap_or (option_map (λ (row : SnapRow). keys row.put) o) []
    two None = refl
    two (Some row) = refl

-- the digests of kept blocks
digest-is : (o : Option Block) → kept_digest o ≡ digest_of same (option_map kept_block o)
digest-is None = refl
digest-is (Some b) = refl

joined : (f g : ℕ → List ℕ) → ((i : ℕ) → f i ≡ g i) → (is : List ℕ) → flat_map f is ≡ flat_map g is
joined f g e is = ap (λ (h : ℕ → List ℕ). flat_map h is) (λ j i. e i j)

pub linear-blocks : (blocks : Blocks) (indexes : List ℕ) → sha256 (flat_map (λ index. kept_digest (get blocks index)) indexes) ≡ linear same (kept_array blocks) indexes
linear-blocks blocks indexes = ap sha256 (joined _ _ (λ index. digest-is (get blocks index) ∙ ap (digest_of same) (sym (get-kept blocks index))) indexes)

pub no-indexes : (slots : FinMap nat_cmp (Option (Unit {0}))) → slots ≡ empty → keys (full slots) ≡ []
no-indexes slots e = ap (λ m. keys (full m)) e ∙ ap keys (full-empty {V = Unit {0}} nat_cmp_total nat_cmp-IsAntisymmetric) ∙ now.no-keys
