-- What holds of each snapshot's row, through a run of a policy.
use Rattle.std.proofs.Common.{◌≡◌, ℕ, ◌+◌, ◌<◌, ◌≤◌, arith, Bool, true, false, cond, ◌==◌, ◌&&◌, List, [], ◌∷◌, length, Option, None, Some, refl, sym, subst, ◌∙◌}
use Rattle.std.proofs.lemmas.Bool.Decides.{nat_tests}
use Rattle.std.specs.List.{AllByRecursion}
use Rattle.std.specs.Option.{option_map}
use Rattle.std.specs.Ordering.{eq_by_cmp}
use Rattle.std.specs.FinMap.{get, entries}
use Rattle.ebs_tables.proofs.MapEdits.{is_same}
use Rattle.ebs_model.specs.declared.keys.Moment.{Moment}
use Rattle.ebs_model.specs.declared.keys.SnapKey.{SnapKey}
use Rattle.ebs_model.specs.declared.keys.VolKey.{VolKey}
use Rattle.ebs_model.specs.declared.keys.PolicyKey.{PolicyKey}
use Rattle.ebs_model.specs.declared.policy.Policy.{Policy}
use Rattle.ebs_model.specs.declared.rows.SnapRow.{SnapRow}
use Rattle.ebs_model.specs.declared.rows.VolRow.{VolRow}
use Rattle.ebs_model.specs.Keys.{snap_cmp}
use Rattle.ebs_model.specs.inner.Orders.{vols_total, exact_snaps}
use Rattle.ebs_model.specs.Policies.{is_due, is_target, targets}
use Rattle.ebs_model.specs.Rows.{Rows}
use Rattle.ebs_model.specs.Calls.Start.{next_key}
use Rattle.ebs_model.specs.Calls.Delete.{days_in_bin}
use Rattle.ebs_model.specs.Calls.Run.{due_targets, following, run_row, run_ended, run_released, freed, run_rows}
use Rattle.ebs_model.proofs.RunLaws.{among, new_row, or_else, with_made, binned_by, left_of, get-run}
use Rattle.ebs_lawful.proofs.Maps.{Each, some_is, none_some, both_of, each-entry, filtered}
use Rattle.ebs_lawful.proofs.Effects.{IsAltered, was_binned, was_freed}

-- a volume of the account
pub record IsVolume (rows : Rows) (account : ℕ) (e : VolKey × VolRow) : Type 0 where
  pub there : get rows.vols e.0 ≡ Some e.1
  pub owner : e.0.account ≡ account

same : (a b : ℕ) → (a == b) ≡ true → b ≡ a
same a b t = grind (arith, nat_tests)

weaker : {X : Type 0} (P Q : X → Type 0) → ((x : X) → P x → Q x) → (xs : List X) → AllByRecursion P xs → AllByRecursion Q xs
weaker P Q h [] all = tt
weaker P Q h (x ∷ xs) all = (h x all.0, weaker P Q h xs all.1)

pub all-due : (rows : Rows) (key : PolicyKey) (p : Policy) (now : ℕ) → AllByRecursion (IsVolume rows key.account) (due_targets rows key p now)
all-due rows key p now = by (is_due p p.last.second now)
  where
    test : VolKey × VolRow → Bool
    test e = (key.account == e.0.account) && is_target p e.1

    by : (b : Bool) → AllByRecursion (IsVolume rows key.account) (cond b (targets rows key.account p) [])
    by true = weaker (λ (e : VolKey × VolRow). (get rows.vols e.0 ≡ Some e.1) × (((key.account == e.0.account) && is_target p e.1) ≡ true)) (IsVolume rows key.account)
        (λ e h. record { there = h.0; owner = same key.account e.0.account (both_of (key.account == e.0.account) (is_target p e.1) h.1).0 })
        (targets rows key.account p) (filtered (λ (e : VolKey × VolRow). get rows.vols e.0 ≡ Some e.1) (λ e. (key.account == e.0.account) && is_target p e.1) (entries rows.vols) (each-entry vols_total rows.vols (λ e. get rows.vols e.0 ≡ Some e.1) (λ e h. h)))
    by false = tt

-- a key that the run gives out
pub record IsNewKey (rows : Rows) (key : PolicyKey) (p : Policy) (now : ℕ) (new : SnapKey) : Type 0 where
  pub account : new.account ≡ key.account
  pub above : (next_key rows key.account).number ≤ new.number
  pub below : new.number < (next_key rows key.account).number + length (due_targets rows key p now)

module _ (Q : SnapKey → SnapRow → Type 0) (rows : Rows) (at : Moment) (key : PolicyKey) (p : Policy)
    (alters : (q : SnapKey) (row next : SnapRow) → IsAltered rows at q row next → Q q row → Q q next)
    (makes : (new : SnapKey) (e : VolKey × VolRow) → IsNewKey rows key p at.second new → IsVolume rows key.account e → Q new (run_row at new key p e))
    (each : Each Q rows.snaps) where
  abbrev IsFine : SnapKey → Option SnapRow → Type 0
  IsFine q o = (row : SnapRow) → o ≡ Some row → Q q row

  abbrev low : ℕ
  low = (next_key rows key.account).number

  abbrev high : ℕ
  high = low + length (due_targets rows key p at.second)

  made_fine : (first : SnapKey) (volumes : List (VolKey × VolRow)) → AllByRecursion (IsVolume rows key.account) volumes → first.account ≡ key.account → low ≤ first.number → first.number + length volumes ≤ high
      → (q : SnapKey) → IsFine q (or_else (new_row at key p first volumes q) (get rows.snaps q))
  made_fine first [] all own above below q = each q
  made_fine first (e ∷ volumes) all own above below q = by (eq_by_cmp snap_cmp q first) refl (made_fine (following first) volumes all.1 own (omega (arith, above)) (omega (arith, below)) q)
    where
      by : (b : Bool) → eq_by_cmp snap_cmp q first ≡ b → IsFine q (or_else (new_row at key p (following first) volumes q) (get rows.snaps q))
          → IsFine q (or_else (cond b (Some (run_row at first key p e)) (new_row at key p (following first) volumes q)) (get rows.snaps q))
      by true t again row is = subst (λ (k : SnapKey). Q k row) (sym (is_same exact_snaps q first t)) (subst (Q first) (some_is _ row is) (makes first e (record { account = own; above = above; below = omega (arith, below) }) all.0))
      by false t again row is = again row is

  freed_fine : (q : SnapKey) (o : Option SnapRow) → IsFine q o → IsFine q (option_map freed o)
  freed_fine q None h row e = none_some e
  freed_fine q (Some old) h row e = subst (Q q) (some_is (freed old) row e) (alters q old (freed old) (was_freed refl) (h old refl))

  taken_fine : (q : SnapKey) (o : Option SnapRow) → IsFine q o → IsFine q (left_of rows at q o)
  taken_fine q None h row e = none_some e
  taken_fine q (Some old) h row is = by (days_in_bin rows q old) refl row is
    where
      by : (d : Option ℕ) → days_in_bin rows q old ≡ d → IsFine q (binned_by at old d)
      by None stays row e = none_some e
      by (Some days) stays row e = subst (Q q) (some_is _ row e) (alters q old _ (was_binned days stays refl) (h old refl))

  left_fine : (q : SnapKey) (gone free : Bool) (o : Option SnapRow) → IsFine q o → IsFine q (cond gone (left_of rows at q (option_map freed o)) (cond free (option_map freed o) o))
  left_fine q true free o h = taken_fine q (option_map freed o) (freed_fine q o h)
  left_fine q false true o h = freed_fine q o h
  left_fine q false false o h = h

  pub ran_each : Each Q (run_rows rows at key p).snaps
  ran_each q row e =
      left_fine q (among q (run_ended rows at key p)) (among q (run_released rows at key p)) (with_made rows at key p q)
      (made_fine (next_key rows key.account) (due_targets rows key p at.second) (all-due rows key p at.second) refl (omega arith) (omega arith) q) row
      (sym (get-run rows at key p q) ∙ e)
