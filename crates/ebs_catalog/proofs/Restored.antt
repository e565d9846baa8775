-- Rows that are put back: what waits, whose accounts are there, and walks over all rows.
use Rattle.std.proofs.Common.{◌≡◌, ℕ, ◌+◌, ◌*◌, Bool, true, false, not, ◌||◌, cond, Option, Some, None, is_some, unwrap_or, refl, sym, ap, subst, ◌∙◌}
use Rattle.std.proofs.lemmas.Bool.{false≢true}
use Rattle.std.specs.Prelude.{nat_le}
use Rattle.std.specs.Option.{option_map}
use Rattle.std.specs.Ordering.{nat_cmp}
use Rattle.std.specs.Cmp.{nat_cmp_total}
use Rattle.std.specs.FinMap.{FinMap, nat_cmp-IsAntisymmetric, get, contains_key, insert}
use Rattle.ebs_tables.specs.Full.{full}
use Rattle.ebs_tables.proofs.MapEdits.{insert-known}
use Rattle.ebs_model.specs.declared.keys.SnapKey.{SnapKey}
use Rattle.ebs_model.specs.declared.rows.SnapRow.{SnapRow}
use Rattle.ebs_model.specs.declared.rows.Own.{Own}
use Rattle.ebs_model.specs.inner.Orders.{snaps_total, exact_snaps}
use Rattle.ebs_model.specs.inner.MapValues.{map_values}
use Rattle.ebs_model.specs.Rows.{no_own}
use Rattle.ebs_model.specs.Time.{status_at, status_by, is_pending}
use Rattle.ebs_model.proofs.Values.{get-map_values, map_values-insert}
use Rattle.ebs_catalog.specs.declared.rows.KeptRow.{KeptRow}
use Rattle.ebs_catalog.specs.declared.rows.AccountRow.{AccountRow}
use Rattle.ebs_catalog.specs.Held.{own_in}
use Rattle.ebs_catalog.specs.Restores.{can_end}
use Rattle.ebs_catalog.specs.Sound.{AreAwaited}
use Rattle.ebs_catalog.proofs.Awaited.{awaited-closed, awaited-known}
use Rattle.ebs_catalog.proofs.CountedRows.{Accounts}
use Rattle.ebs_catalog.proofs.RowsKept.{Kept, again, is-ready}
use Rattle.ebs_catalog.proofs.Stale.{Waits}

-- what time can't end is completed, so it's never open
completed : (row : SnapRow) → can_end row ≡ false → row.completed ≡ true
completed row h = by row.completed h
  where
    by : (b : Bool) → (not b || is_some row.bin_end) ≡ false → b ≡ true
    by true e = refl
    by false e = absurd (false≢true (sym e))

-- a row that is written and waits where time can end it
pub awaited-restored : (m : Kept) (w : Waits) (k : SnapKey) (v : KeptRow) (latest : ℕ) → (can_end v.row ≡ true → contains_key w k ≡ true) → AreAwaited m w latest → AreAwaited (insert m k v) w latest
awaited-restored m w k v latest waits h = by (can_end v.row) refl
  where
    by : (b : Bool) → can_end v.row ≡ b → AreAwaited (insert m k v) w latest
    by true e = subst (λ x. AreAwaited x w latest) (again snaps_total exact_snaps m k v) (awaited-known m w k v latest (waits e) h)
    by false e = awaited-closed m w k v latest (λ now. ap (λ b. is_pending (status_by b (nat_le (v.row.last.second + 60 * v.row.timeout) now))) (completed v.row e)) h

module _ (o : Accounts) (account : ℕ) (there : contains_key (map_values own_in o) account ≡ true) where
  -- an account that is there has what it has
  its-own : get (map_values own_in o) account ≡ Some (unwrap_or (get (map_values own_in o) account) no_own)
  its-own = by (get (map_values own_in o) account) there
    where
      by : (x : Option Own) → is_some x ≡ true → x ≡ Some (unwrap_or x no_own)
      by None e = absurd (false≢true e)
      by (Some own) e = refl

  -- and keeps it where its numbers are written
  pub own-stays : (row : AccountRow) → row.own ≡ unwrap_or (get (map_values own_in o) account) no_own → map_values own_in (insert o account row) ≡ map_values own_in o
  own-stays row is = map_values-insert nat_cmp_total own_in nat_cmp-IsAntisymmetric o account row ∙ insert-known nat_cmp_total nat_cmp-IsAntisymmetric (map_values own_in o) account row.own (its-own ∙ ap Some (sym is))

-- it is ready
pub owner-ready : (o : FinMap nat_cmp (Option AccountRow)) (account : ℕ) → contains_key (map_values own_in (full o)) account ≡ true → contains_key o account ≡ true
owner-ready o account there = is-ready nat_cmp_total nat_cmp-IsAntisymmetric o account (by (get (full o) account) (sym (ap is_some (get-map_values nat_cmp_total own_in (full o) account)) ∙ there))
  where
    by : (x : Option AccountRow) → is_some (option_map own_in x) ≡ true → is_some x ≡ true
    by None e = e
    by (Some a) e = e
