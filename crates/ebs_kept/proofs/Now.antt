-- The machine at a moment, of rows and arrays as they are kept.
use Rattle.std.proofs.Common.{◌≡◌, ℕ, ◌≤◌, ◌<◌, ◌^◌, Bool, true, false, cond, not, ◌&&◌, List, [], ◌∷◌, map, length, Option, None, Some, refl, sym, ap, subst, ◌∙◌}
use Rattle.std.specs.Option.{option_map, unwrap_or}
use Rattle.std.specs.Ordering.{nat_cmp}
use Rattle.std.specs.FinMap.{FinMap, get, empty, entries, keys, len-entries, len-empty}
use Rattle.std.specs.FinMap as fin
use Rattle.ebs_model.specs.declared.keys.SnapKey.{SnapKey}
use Rattle.ebs_model.specs.declared.keys.Moment.{Moment}
use Rattle.ebs_model.specs.declared.rows.SnapRow.{SnapRow}
use Rattle.ebs_model.specs.Keys.{snap_cmp}
use Rattle.ebs_model.specs.Arrays.{WholeBlock, WholeArray}
use Rattle.ebs_model.specs.Time.{Snapshot, stays, rested, rested_row, status_at, is_failed}
use Rattle.ebs_model.specs.inner.Time.{has_blocks}
use Rattle.ebs_model.specs.Rows.{Rows}
use Rattle.ebs_model.specs.inner.Rows.{aged, aged_snaps}
use Rattle.ebs_model.specs.Machine.{Machine, advance, aged_rows, snap_rows, rows_of, array_at, array_of, put_at, put_of, with_arrays}
use Rattle.ebs_model.proofs.Aged.{get-aged, aged_row, aged-aged}
use Rattle.ebs_model.proofs.RowLaws.{get-row, get-with, row_in, with_array, rows-with, rows-aged}
use Rattle.ebs_model.proofs.Commits.{array-left}
use Rattle.ebs_kept.specs.inner.Shown.{IsGoodRow, AreGoodRows}
use Rattle.ebs_kept.proofs.Committed.{left_by}

no_length : {A : Type 0} (xs : List A) → length xs ≡ 0 → xs ≡ []
no_length [] e = refl
no_length (x ∷ xs) e = cc

pub no-keys : keys {X = Unit {0}} {R = nat_cmp} empty ≡ []
no-keys = ap (map (λ e. e.0)) (no_length (entries {X = Unit {0}} {R = nat_cmp} empty) (sym (len-entries (empty {X = Unit {0}} {R = nat_cmp})) ∙ len-empty nat_cmp (Unit {0})))

rested-good : (now : ℕ) (row : SnapRow) → IsGoodRow row → IsGoodRow (rested_row now row)
rested-good now row g = record { size = g.size; timeout = g.timeout }

-- the put set of a kept row at the moment
put-left : (now : ℕ) (array : WholeArray) (o : Option SnapRow) → put_at (aged_row now (option_map (with_array array) o)) ≡ cond (has_blocks now o) (unwrap_or (option_map (λ (row : SnapRow). keys row.put) o) []) []
put-left now array None = refl
put-left now array (Some row) = by (stays now row)
  where
    turned : (c : Bool) → keys (cond c empty row.put) ≡ cond (not c) (keys row.put) []
    turned true = no-keys
    turned false = refl

    by : (b : Bool) → put_at (option_map (rested now) (cond b (Some (with_array array row)) None)) ≡ cond (b && not (is_failed (status_at row now))) (keys row.put) []
    by true = turned (is_failed (status_at row now))
    by false = refl

module _ (rows : Rows) (array : SnapKey → WholeArray) (clock : ℕ) (m : Machine) (snaps_are : aged_rows clock (with_arrays rows.snaps array) ≡ m.snaps) (own_is : rows.own ≡ m.own) (tokens_is : rows.tokens ≡ m.tokens) (vols_is : rows.vols ≡ m.vols) (books_is : rows.books ≡ m.books) (policies_is : rows.policies ≡ m.policies) (now : Moment) (later : clock ≤ now.second) where
  abbrev raw : FinMap snap_cmp Snapshot
  raw = with_arrays rows.snaps array

  pub snaps-now : aged_rows now.second m.snaps ≡ aged_rows now.second raw
  snaps-now = ap (aged_rows now.second) (sym snaps_are) ∙ aged-aged clock now.second later raw

  pub rows-now : rows_of (advance m now) ≡ aged now.second rows
  rows-now = λ i. record { snaps = snaps i; own = sym own_is i; tokens = sym tokens_is i; vols = sym vols_is i; books = sym books_is i; policies = sym policies_is i }
    where
      snaps : snap_rows (aged_rows now.second m.snaps) ≡ aged_snaps now.second rows.snaps
      snaps = ap snap_rows snaps-now ∙ rows-aged now.second raw ∙ ap (aged_snaps now.second) (rows-with rows.snaps array)

  found-now : (key : SnapKey) → get (aged_rows now.second m.snaps) key ≡ aged_row now.second (option_map (with_array (array key)) (get rows.snaps key))
  found-now key = ap (λ s. get s key) snaps-now ∙ get-aged now.second raw key ∙ ap (aged_row now.second) (get-with rows.snaps array key)

  pub array-now : (key : SnapKey) → array_of (advance m now) key ≡ left_by now.second rows array key
  array-now key = ap array_at (found-now key) ∙ array-left now.second (array key) (get rows.snaps key)

  pub put-now : (key : SnapKey) → put_of (advance m now) key ≡ cond (has_blocks now.second (get rows.snaps key)) (unwrap_or (option_map (λ (row : SnapRow). keys row.put) (get rows.snaps key)) []) []
  put-now key = ap put_at (found-now key) ∙ put-left now.second (array key) (get rows.snaps key)

  -- rows that are shown as good are good at the moment
  pub good-now : AreGoodRows m.snaps → (key : SnapKey) (row : SnapRow) → get (aged_snaps now.second rows.snaps) key ≡ Some row → IsGoodRow row
  good-now h key row e = of_row (get m.snaps key) refl (sym (at key) ∙ e)
    where
      at : (key : SnapKey) → get (aged_snaps now.second rows.snaps) key ≡ row_in (aged_row now.second (get m.snaps key))
      at key = ap (λ (r : Rows). get r.snaps key) (sym rows-now) ∙ get-row (aged_rows now.second m.snaps) key ∙ ap row_in (get-aged now.second m.snaps key)

      kept : (s : Snapshot) (b : Bool) → get m.snaps key ≡ Some s → row_in (option_map (rested now.second) (cond b (Some s) None)) ≡ Some row → IsGoodRow row
      kept s true is r =
          let same : rested_row now.second s.row ≡ row = cc in
          subst IsGoodRow same (rested-good now.second s.row (h key s is))
      kept s false is r = cc

      of_row : (o : Option Snapshot) → get m.snaps key ≡ o → row_in (aged_row now.second o) ≡ Some row → IsGoodRow row
      of_row None is r = cc
      of_row (Some s) is r = kept s (stays now.second s.row) is r

-- and so they are in the machine at the moment
pub good-later : (m : Machine) (now : Moment) → AreGoodRows m.snaps → AreGoodRows (advance m now).snaps
good-later m now h key s e = of_row (get m.snaps key) refl (sym (get-aged now.second m.snaps key) ∙ e)
  where
    kept : (t : Snapshot) (b : Bool) → get m.snaps key ≡ Some t → option_map (rested now.second) (cond b (Some t) None) ≡ Some s → IsGoodRow s.row
    kept t true is r =
        let same : rested now.second t ≡ s = cc in
        subst (λ (s : Snapshot). IsGoodRow s.row) same (rested-good now.second t.row (h key t is))
    kept t false is r = cc

    of_row : (o : Option Snapshot) → get m.snaps key ≡ o → aged_row now.second o ≡ Some s → IsGoodRow s.row
    of_row None is r = cc
    of_row (Some t) is r = kept t (stays now.second t.row) is r

-- small indexes stay small
module _ (m : Machine) (small : (key : SnapKey) (index : ℕ) (block : WholeBlock) → get (array_of m key) index ≡ Some block → index < 2 ^ 32) (now : Moment) where
  left-small : (key : SnapKey) (index : ℕ) (block : WholeBlock) (o : Option Snapshot) → get m.snaps key ≡ o → get (array_at (aged_row now.second o)) index ≡ Some block → index < 2 ^ 32
  left-small key index block None is e = let none = fin.get-empty {X = WholeBlock} nat_cmp index in cc
  left-small key index block (Some s) is e = by (stays now.second s.row) e
    where
      whole : (c : Bool) → get (cond c empty s.array) index ≡ Some block → index < 2 ^ 32
      whole true e = let none = fin.get-empty {X = WholeBlock} nat_cmp index in cc
      whole false e = small key index block (ap (λ o. get (array_at o) index) is ∙ e)

      by : (b : Bool) → get (array_at (option_map (rested now.second) (cond b (Some s) None))) index ≡ Some block → index < 2 ^ 32
      by true e = whole (is_failed (status_at s.row now.second)) e
      by false e = let none = fin.get-empty {X = WholeBlock} nat_cmp index in cc

  pub small-now : (key : SnapKey) (index : ℕ) (block : WholeBlock) → get (array_of (advance m now) key) index ≡ Some block → index < 2 ^ 32
  small-now key index block e = left-small key index block (get m.snaps key) refl (ap (λ o. get (array_at o) index) (sym (get-aged now.second m.snaps key)) ∙ e)
