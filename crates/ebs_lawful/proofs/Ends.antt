-- The ends of locks, restores and stays in the bin aren't late.
use Rattle.std.proofs.Common.{◌≡◌, ℕ, ◌+◌, ◌*◌, ◌≤◌, arith, Bool, true, false, cond, ◌&&◌, ◌||◌, nat_le, nat_lt, Option, Some, None, Result, Ok, Err, unwrap_or, is_some, refl, subst}
use Rattle.std.proofs.lemmas.Bool.Decides.{nat_tests}
use Rattle.ebs_model.specs.declared.keys.Moment.{Moment}
use Rattle.ebs_model.specs.declared.rows.LockState.{LockState}
use Rattle.ebs_model.specs.declared.rows.LockState.TheVariants as state
use Rattle.ebs_model.specs.declared.rows.Tier.{Tier}
use Rattle.ebs_model.specs.declared.lock.LockMode.{LockMode}
use Rattle.ebs_model.specs.declared.lock.LockMode.TheVariants as mode
use Rattle.ebs_model.specs.declared.lock.Term.{Term}
use Rattle.ebs_model.specs.declared.lock.Term.TheVariants.{Days, Date}
use Rattle.ebs_model.specs.declared.lock.LockCommand.{LockCommand}
use Rattle.ebs_model.specs.declared.lock.LockCommand.TheVariants.{Lock, Unlock}
use Rattle.ebs_model.specs.declared.lock.LockRefusal.TheVariants as refusal
use Rattle.ebs_model.specs.declared.phases.LockPhase.{LockPhase}
use Rattle.ebs_model.specs.declared.phases.LockPhase.TheVariants as phase
use Rattle.ebs_model.specs.declared.phases.TierPhase.{TierPhase}
use Rattle.ebs_model.specs.declared.phases.TierPhase.TheVariants as tiers
use Rattle.ebs_model.specs.Quotas.{last_second}
use Rattle.ebs_model.specs.Limits.{is_term, is_cool_off, is_restore}
use Rattle.ebs_model.specs.Locks.{end_of, is_bad, new_lock, is_governance, replaced, prolonged, is_compliance, lock, unlock_by, lock_change}
use Rattle.ebs_model.specs.Tiers.{lock_state, tier_at, archive, archive_by, restored, restore, restore_by}
use Rattle.ebs_lawful.specs.Ends.{IsEnd}
use Rattle.ebs_lawful.specs.Snapshots.{EndsLock, EndsRestore}

-- ---- locks

abbrev pub IsCommand : LockCommand → Type 0
IsCommand (Lock mode term cool_hours) = (is_term term ≡ true) × (is_cool_off mode cool_hours ≡ true)
IsCommand Unlock = Unit {0}

ok_is : {A E : Type 0} (x y : A) → ◌≡◌ {A = Result A E} (Ok x) (Ok y) → x ≡ y
ok_is x y e = cc

few_days : (days most : ℕ) → (nat_le 1 days && nat_le days most) ≡ true → days ≤ most
few_days days most e = grind (arith, nat_tests)

last_false : (a b : Bool) → (a || b) ≡ false → b ≡ false
last_false true b e = cc
last_false false b e = e

no_later : (a b : ℕ) → nat_lt a b ≡ false → b ≤ a
no_later a b e = grind (arith, nat_tests)

module _ (now : ℕ) (early : now ≤ last_second) where
  term-end : (term : Term) → is_term term ≡ true → is_bad term now ≡ false → IsEnd (end_of term now)
  term-end (Days days) fits good = let few = few_days days 36500 fits in omega (arith, few, early)
  term-end (Date date) fits good = let bound : date.second ≤ now + 36500 * 86400 = no_later (now + 36500 * 86400) date.second (last_false (nat_lt date.second (now + 86400)) (nat_lt (now + 36500 * 86400) date.second) good) in omega (arith, bound, early)

  cool-end : (cool_hours : Option ℕ) → is_cool_off mode.Compliance cool_hours ≡ true → now + 3600 * unwrap_or cool_hours 0 ≤ 2 * last_second
  cool-end None fits = omega (arith, early)
  cool-end (Some hours) fits = let few = few_days hours 72 fits in omega (arith, few, early)

  new-ends : (mode : LockMode) (term : Term) (cool_hours : Option ℕ) → IsCommand (Lock mode term cool_hours) → is_bad term now ≡ false → EndsLock (new_lock mode (end_of term now) cool_hours now)
  new-ends mode.Governance term cool_hours fits good = term-end term fits.0 good
  new-ends mode.Compliance term cool_hours fits good = (term-end term fits.0 good, cool-end cool_hours fits.1)

  replaced-ends : (mode : LockMode) (term : Term) (cool_hours : Option ℕ) (new : LockState) → IsCommand (Lock mode term cool_hours) → replaced mode term cool_hours now ≡ Ok new → EndsLock new
  replaced-ends mode term cool_hours new fits e = by (is_bad term now) refl e
    where
      by : (b : Bool) → is_bad term now ≡ b → cond b (Err refusal.BadDate) (Ok (new_lock mode (end_of term now) cool_hours now)) ≡ Ok new → EndsLock new
      by true bad e = absurd (cc)
      by false good e = subst EndsLock (ok_is _ new e) (new-ends mode term cool_hours fits good)

  prolonged-ends : (until cool_end : Moment) (mode : LockMode) (term : Term) (cool_hours : Option ℕ) (new : LockState) → is_term term ≡ true → IsEnd cool_end → prolonged until cool_end mode term cool_hours now ≡ Ok new → EndsLock new
  prolonged-ends until cool_end mode term cool_hours new fits cool e = by (is_governance mode || (is_some cool_hours || nat_le (end_of term now).second until.second)) (is_bad term now) refl e
    where
      by : (a b : Bool) → is_bad term now ≡ b → cond a (Err (refusal.Locked until)) (cond b (Err refusal.BadDate) (Ok (state.Compliance (end_of term now) cool_end))) ≡ Ok new → EndsLock new
      by true b bad e = absurd (cc)
      by false true bad e = absurd (cc)
      by false false good e = subst EndsLock (ok_is _ new e) (term-end term fits good, cool)

  lock-ends : (old : LockState) (mode : LockMode) (term : Term) (cool_hours : Option ℕ) (new : LockState) → IsCommand (Lock mode term cool_hours) → lock old mode term cool_hours now ≡ Ok new → EndsLock old → EndsLock new
  lock-ends state.None mode term cool_hours new fits e old = replaced-ends mode term cool_hours new fits e
  lock-ends (state.Governance until) mode term cool_hours new fits e old = replaced-ends mode term cool_hours new fits e
  lock-ends (state.Compliance until cool_end) mode term cool_hours new fits e old = by (is_compliance (lock_state (state.Compliance until cool_end) now)) e
    where
      by : (b : Bool) → cond b (prolonged until cool_end mode term cool_hours now) (replaced mode term cool_hours now) ≡ Ok new → EndsLock new
      by true e = prolonged-ends until cool_end mode term cool_hours new fits.0 old.1 e
      by false e = replaced-ends mode term cool_hours new fits e

  unlocked-ends : (p : LockPhase) (until : Moment) (new : LockState) → unlock_by p until ≡ Ok new → EndsLock new
  unlocked-ends phase.Unlocked until new e = absurd (cc)
  unlocked-ends phase.Expired until new e = absurd (cc)
  unlocked-ends phase.Governance until new e = subst EndsLock (ok_is _ new e) tt
  unlocked-ends phase.CoolOff until new e = subst EndsLock (ok_is _ new e) tt
  unlocked-ends phase.Compliance until new e = absurd (cc)

  -- a command leaves a lock that ends in time
  pub change-ends : (old : LockState) (command : LockCommand) (new : LockState) → IsCommand command → lock_change old command now ≡ Ok new → EndsLock old → EndsLock new
  change-ends old (Lock mode term cool_hours) new fits e h = lock-ends old mode term cool_hours new fits e h
  change-ends state.None Unlock new fits e h = absurd (cc)
  change-ends (state.Governance until) Unlock new fits e h = unlocked-ends (lock_state (state.Governance until) now) until new e
  change-ends (state.Compliance until cool_end) Unlock new fits e h = unlocked-ends (lock_state (state.Compliance until cool_end) now) until new e

  -- ---- tiers

  restored-ends : (days : Option ℕ) → is_restore days ≡ true → EndsRestore (restored days now)
  restored-ends None fits = tt
  restored-ends (Some days) fits = let few = few_days days 180 fits in omega (arith, few, early)

  pub restore-ends : (old : Tier) (days : Option ℕ) (new : Tier) → is_restore days ≡ true → restore old days now ≡ Ok new → EndsRestore new
  restore-ends old days new fits e = by (tier_at old now) e
    where
      by : (p : TierPhase) → restore_by p days now ≡ Ok new → EndsRestore new
      by tiers.Standard e = absurd (cc)
      by tiers.Archived e = subst EndsRestore (ok_is _ new e) (restored-ends days fits)
      by tiers.Temporary e = subst EndsRestore (ok_is _ new e) (restored-ends days fits)

  pub archive-ends : (old new : Tier) → archive old now ≡ Ok new → EndsRestore new
  archive-ends old new e = by (tier_at old now) e
    where
      by : (p : TierPhase) → archive_by p ≡ Ok new → EndsRestore new
      by tiers.Standard e = subst EndsRestore (ok_is _ new e) tt
      by tiers.Archived e = absurd (cc)
      by tiers.Temporary e = absurd (cc)
