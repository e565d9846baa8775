-- A policy's hours, and a run's numbers.
use Rattle.std.proofs.Common.{◌≡◌, ℕ, suc, zero, ◌+◌, ◌≤◌, Bool, true, false, cond, List, [], ◌∷◌, map, length, Option, Some, None, Result, Ok, Err, IfOk, refl, sym, ap, arith}
use Rattle.std.proofs.lemmas.Bool.{false≢true}
use Rattle.std.proofs.lemmas.Bool.Decides.{nat_tests}
use Rattle.std.specs.Prelude.{nat_lt}
use Rattle.ebs_model.specs.declared.keys.SnapKey.{SnapKey}
use Rattle.ebs_model.specs.declared.keys.VolKey.{VolKey}
use Rattle.ebs_model.specs.declared.keys.AnyKey.TheVariants.{Snap}
use Rattle.ebs_model.specs.declared.rows.VolRow.{VolRow}
use Rattle.ebs_model.specs.declared.answer.Refusal.{Refusal}
use Rattle.ebs_model.specs.declared.answer.Refusal.TheVariants.{Quota}
use Rattle.ebs_model.specs.declared.answer.QuotaName.TheVariants.{Snapshots, Ids}
use Rattle.ebs_model.specs.declared.keys.PolicyKey.{PolicyKey}
use Rattle.ebs_model.specs.declared.keys.Moment.{Moment}
use Rattle.ebs_model.specs.declared.policy.Policy.{Policy}
use Rattle.ebs_model.specs.Policies.{is_due, latest_due, targets}
use Rattle.ebs_model.specs.inner.Due.{due_moment}
use Rattle.ebs_model.specs.Limits.{is_interval, is_time_of_day, is_schedule}
use Rattle.ebs_model.specs.Quotas.{most_ids, most_kept}
use Rattle.ebs_model.specs.Refuse.{◌>>◌, refuse_if}
use Rattle.ebs_model.specs.Rows.{Rows, kept_count}
use Rattle.ebs_model.specs.Calls.Start.{next_key}
use Rattle.ebs_model.specs.Calls.Run.{due_targets, new_keys, following}
use Rattle.ebs_catalog.specs.Runs.{check_quotas}
use Rattle.ebs_catalog.proofs.CountLaws.{and_left}

-- no interval has 0 hours
pub some-hours : (hours at : ℕ) → is_schedule hours at ≡ true → 1 ≤ hours
some-hours hours at e = by hours (and_left (is_interval hours) (is_time_of_day at) e)
  where
    by : (n : ℕ) → is_interval n ≡ true → 1 ≤ n
    by zero h = absurd (false≢true h)
    by (suc n) h = omega arith

pub keys-length : (first : SnapKey) (volumes : List (VolKey × VolRow)) → length (map Snap (new_keys first volumes)) ≡ length volumes
keys-length first [] = refl
keys-length first (e ∷ volumes) = ap suc (keys-length (following first) volumes)

-- the numbers of what is made within the quotas
pub fitting : (rows : Rows) (account more : ℕ) → check_quotas rows account more ≡ Ok tt → (next_key rows account).number + more ≤ most_ids
fitting rows account more e = by (nat_lt most_kept (kept_count rows account + more)) (nat_lt most_ids ((next_key rows account).number + more)) refl (Quota Snapshots most_kept) (Quota Ids most_ids) e
  where
    refused : (r : Refusal) → ◌≡◌ {A = Result (Unit {0}) Refusal} (Err r) (Ok tt) → ⊥
    refused r e = cc

    within : (n limit : ℕ) → nat_lt limit n ≡ false → n ≤ limit
    within n limit h = grind (arith, nat_tests)

    by : (a b : Bool) → nat_lt most_ids ((next_key rows account).number + more) ≡ b → (r q : Refusal) → (refuse_if a r >> refuse_if b q) ≡ Ok tt → (next_key rows account).number + more ≤ most_ids
    by true b t r q e = absurd (refused r e)
    by false true t r q e = absurd (refused q e)
    by false false t r q e = within _ _ t

abbrev latest : Policy → ℕ → Moment
latest p now = record { second = latest_due p now }

none_some : (a b : Moment) → ◌≡◌ {A = Option Moment} None (Some a) → ⊥
none_some a b e = cc

-- the targets, where a due moment has come, and none where none has
pub due-targets : (rows : Rows) (key : PolicyKey) (p : Policy) (now : ℕ) (m : Moment) → due_moment p p.last.second now ≡ Some m → targets rows key.account p ≡ due_targets rows key p now
due-targets rows key p now m e = by (is_due p p.last.second now) e
  where
    by : (b : Bool) → cond b (Some (latest p now)) None ≡ Some m → targets rows key.account p ≡ cond b (targets rows key.account p) []
    by true h = refl
    by false h = absurd (none_some m m h)

pub no-targets : (rows : Rows) (key : PolicyKey) (p : Policy) (now : ℕ) → due_moment p p.last.second now ≡ None → [] ≡ due_targets rows key p now
no-targets rows key p now e = by (is_due p p.last.second now) e
  where
    by : (b : Bool) → cond b (Some (latest p now)) None ≡ None → [] ≡ cond b (targets rows key.account p) []
    by true h = absurd (none_some (latest p now) (latest p now) (sym h))
    by false h = refl

-- what follows where there is a value
pub then_ok : {A F : Type 0} (r : Result A F) (P Q : A → Type 0) → ((x : A) → P x → Q x) → IfOk r P → IfOk r Q
then_ok (Ok a) P Q f p = f a p
then_ok (Err e) P Q f p = tt
