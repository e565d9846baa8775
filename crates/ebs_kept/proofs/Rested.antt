-- Arrays that time doesn't take until a moment.
use Rattle.std.proofs.Common.{arith, ◌≡◌, ℕ, ◌≤◌, ◌⊎◌, inl, inr, Bool, true, false, cond, Option, Some, None, refl, sym, ap, subst, ◌∙◌}
use Rattle.std.specs.Option.{option_map}
use Rattle.std.specs.FinMap.{get, empty}
use Rattle.ebs_model.specs.declared.keys.Moment.{Moment}
use Rattle.ebs_model.specs.declared.keys.SnapKey.{SnapKey}
use Rattle.ebs_model.specs.Arrays.{WholeArray}
use Rattle.ebs_model.specs.Time.{Snapshot, rested}
use Rattle.ebs_model.specs.inner.Time.{has_blocks}
use Rattle.ebs_model.specs.Machine.{Machine, advance, array_at, array_of, with_arrays}
use Rattle.ebs_model.proofs.Aged.{aged-aged, aged_row, fails, get-aged, lasts}
use Rattle.ebs_holds.specs.declared.holder.Holder.{Holder}
use Rattle.ebs_holds.specs.Holders.{of_snap}
use Rattle.ebs_holds.specs.Holds.{held_in}
use Rattle.ebs_catalog.specs.Held.{rows_in}
use Rattle.ebs_kept.specs.declared.kept.Kept.TheInside.{Inside}
use Rattle.ebs_kept.specs.inner.Shown.{kept_array, shown, snap_array}
use Rattle.ebs_kept.specs.inner.Stamps.{is_shown}
use Rattle.ebs_kept.proofs.Arrays.{kept-empty}
use Rattle.ebs_kept.proofs.AsKept.{array-at}
use Rattle.ebs_kept.proofs.Ended.{none-blocks}
use Rattle.ebs_kept.proofs.Live.{seen-snapshot}

-- time leaves an array or takes it
left-or-none : (now : ℕ) (o : Option Snapshot) → (array_at (aged_row now o) ≡ array_at o) ⊎ (array_at (aged_row now o) ≡ empty)
left-or-none now None = inl refl
left-or-none now (Some s) = by (lasts now s) refl (fails s now) refl
  where
    row_is : (b : Bool) → lasts now s ≡ b → array_at (aged_row now (Some s)) ≡ array_at (option_map (rested now) (cond b (Some s) None))
    row_is b e = ap (λ (b : Bool). array_at (option_map (rested now) (cond b (Some s) None))) e

    by : (b : Bool) → lasts now s ≡ b → (f : Bool) → fails s now ≡ f → (array_at (aged_row now (Some s)) ≡ s.array) ⊎ (array_at (aged_row now (Some s)) ≡ empty)
    by false e f h = inr (row_is false e)
    by true e true h = inr (row_is true e ∙ ap (λ (b : Bool). cond b empty s.array) h)
    by true e false h = inl (row_is true e ∙ ap (λ (b : Bool). cond b empty s.array) h)

none-of : (b : Bool) (array : WholeArray) → array ≡ empty → cond b array empty ≡ empty
none-of true array e = e
none-of false array e = refl

module _ (k : Inside) (m : Machine) (is : shown k ≡ m) (at : Moment) (later : m.clock.second ≤ at.second)
    (none : (q : Holder) → is_shown at.second (rows_in k.catalog) q ≡ false → get (held_in k.holdings) q ≡ None) (key : SnapKey) where
  abbrev held : WholeArray
  held = snap_array k.holdings key

  was : held ≡ empty → array_of m key ≡ empty
  was e = ap (λ (n : Machine). array_of n key) (sym is) ∙ seen-snapshot k key ∙ none-of (is_shown k.clock.second (rows_in k.catalog) (of_snap key)) held e

  none-held : (b : Bool) → has_blocks at.second (get (rows_in k.catalog).snaps key) ≡ b → array_of (advance m at) key ≡ empty → held ≡ empty
  none-held true e gone = sym (array-at k m is at later key ∙ ap (λ (b : Bool). cond b held empty) e) ∙ gone
  none-held false e gone = ap kept_array (none-blocks k.holdings (of_snap key) (none (of_snap key) e)) ∙ kept-empty

  pub rests-until : array_of (advance m at) key ≡ array_of m key
  rests-until = by (left-or-none at.second (get m.snaps key))
    where
      aged : array_of (advance m at) key ≡ array_at (aged_row at.second (get m.snaps key))
      aged = ap array_at (get-aged at.second m.snaps key)

      by : (array_at (aged_row at.second (get m.snaps key)) ≡ array_of m key) ⊎ (array_at (aged_row at.second (get m.snaps key)) ≡ empty) → array_of (advance m at) key ≡ array_of m key
      by (inl stays) = aged ∙ stays
      by (inr gone) = aged ∙ gone ∙ sym (was (none-held (has_blocks at.second (get (rows_in k.catalog).snaps key)) refl (aged ∙ gone)))

-- what is shown is as time leaves it at the clock
pub shown-rests : (k : Inside) (m : Machine) → shown k ≡ m → advance m m.clock ≡ m
shown-rests k m is = subst (λ (n : Machine). advance n n.clock ≡ n) is
    (λ i. record (shown k) { snaps = aged-aged k.clock.second k.clock.second (omega arith) (with_arrays (rows_in k.catalog).snaps (snap_array k.holdings)) i })
