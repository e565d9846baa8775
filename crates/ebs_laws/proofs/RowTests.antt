-- What a lock and a tier are refused by.
use Rattle.std.proofs.Common.{◌≡◌, ℕ, ◌+◌, ◌*◌, Bool, true, false, not, ◌&&◌, ◌||◌, cond, nat_le, nat_lt, is_some, [], ◌∷◌, ◌++◌, codes, Option, Some, None, Result, Ok, Err, ap, ◌∙◌, refl, arith}
use Rattle.std.proofs.lemmas.Bool.Decides.{nat_tests}
use Rattle.std.specs.Prelude.{if◌then◌else◌}
use Rattle.ebs_model.specs.declared.keys.Moment.{Moment}
use Rattle.ebs_model.specs.declared.rows.LockState.{LockState}
use Rattle.ebs_model.specs.declared.rows.LockState.TheVariants as held
use Rattle.ebs_model.specs.declared.rows.Tier.{Tier}
use Rattle.ebs_model.specs.declared.rows.Tier.TheVariants.{Standard, Archived, Temporary}
use Rattle.ebs_model.specs.declared.lock.LockMode.{LockMode}
use Rattle.ebs_model.specs.declared.lock.LockMode.TheVariants.{Governance, Compliance}
use Rattle.ebs_model.specs.declared.lock.Term.{Term}
use Rattle.ebs_model.specs.declared.lock.Term.TheVariants.{Days, Date}
use Rattle.ebs_model.specs.declared.lock.LockCommand.TheVariants.{Lock, Unlock}
use Rattle.ebs_model.specs.declared.lock.LockRefusal.{LockRefusal}
use Rattle.ebs_model.specs.declared.lock.LockRefusal.TheVariants as refusal
use Rattle.ebs_model.specs.declared.phases.LockPhase.TheVariants as phase
use Rattle.ebs_model.specs.declared.phases.TierPhase.TheVariants as stage
use Rattle.ebs_model.specs.declared.answer.StateName.TheVariants as state
use Rattle.ebs_model.specs.declared.answer.Refusal.{Refusal}
use Rattle.ebs_model.specs.declared.answer.Refusal.TheVariants.{BadParameter, WrongState, Locked}
use Rattle.ebs_model.specs.Refuse.{◌>>=◌, refuse_if}
use Rattle.ebs_model.specs.Limits.{is_term, is_cool_off, is_restore}
use Rattle.ebs_model.specs.Time.{status_by, is_pending}
use Rattle.ebs_model.specs.Views.{lock_until}
use Rattle.ebs_model.specs.Locks.{is_bad, end_of, is_governance, is_compliance, replaced, unlock_by, lock_change}
use Rattle.ebs_model.specs.Tiers as tiers
use Rattle.ebs_model.specs.Calls.Delete.{refuse_locked}
use Rattle.ebs_model.specs.Calls.Lock.{changed_lock}
use Rattle.ebs_model.specs.Calls.Archive.{changed_tier}
use Rattle.ebs_laws.specs.OrderLaws.{Tests, first_of}
use Rattle.ebs_laws.specs.RowOrders.{lasting_tests, is_duration, is_cool_off_of, asks_governance, asked_end, compliance_tests, date_tests, held_tests, archived_tests, is_restore_of, is_standard}
use Rattle.ebs_laws.proofs.Ordered.{refusal_in, more}

-- what is ahead isn't reached
not-ahead : (a b : ℕ) → not (nat_lt b a) ≡ nat_le a b
not-ahead a b = by (nat_lt b a) (nat_le a b) refl refl
  where
    by : (x y : Bool) → nat_lt b a ≡ x → nat_le a b ≡ y → not x ≡ y
    by true false e f = refl
    by false true e f = refl
    by true true e f = absurd (grind (arith, nat_tests))
    by false false e f = absurd (grind (arith, nat_tests))

not-reached : (a b : ℕ) → not (nat_le a b) ≡ nat_lt b a
not-reached a b = by (nat_le a b) (nat_lt b a) refl refl
  where
    by : (x y : Bool) → nat_le a b ≡ x → nat_lt b a ≡ y → not x ≡ y
    by true false e f = refl
    by false true e f = refl
    by true true e f = absurd (grind (arith, nat_tests))
    by false false e f = absurd (grind (arith, nat_tests))

alone : (b : Bool) (r : Refusal) → refusal_in (refuse_if b r) ≡ first_of ((b, r) ∷ [])
alone true r = refl
alone false r = refl

-- a value that is refused by some tests, with those that follow
refused-first : (r : Refusal) (xs ys : Tests) → Some r ≡ first_of xs → Some r ≡ first_of (xs ++ ys)
refused-first r [] ys h = cc
refused-first r (t ∷ xs) ys h = by t.0 h (λ h. refused-first r xs ys h)
  where
    by : (b : Bool) → Some r ≡ cond b (Some t.1) (first_of xs) → (Some r ≡ first_of xs → Some r ≡ first_of (xs ++ ys)) → Some r ≡ cond b (Some t.1) (first_of (xs ++ ys))
    by true h again = h
    by false h again = again h

pub valued : {A B : Type 0} (x : Result A Refusal) (f : A → Result B Refusal) (xs ys : Tests) → refusal_in x ≡ first_of xs → ((v : A) → refusal_in (f v) ≡ first_of ys) → refusal_in (x >>= f) ≡ first_of (xs ++ ys)
valued (Ok v) f xs ys h k = more (Ok tt) (f v) xs ys h (k v)
valued (Err r) f xs ys h k = refused-first r xs ys h

pub pending-same : (c late : Bool) → is_pending (status_by c late) ≡ (not c && not late)
pending-same true late = refl
pending-same false true = refl
pending-same false false = refl

pub lasting-order : (lock : LockState) (now : ℕ) → refusal_in (refuse_locked (lock_until lock) now) ≡ first_of (lasting_tests lock now)
lasting-order held.None now = refl
lasting-order (held.Governance until) now = alone (nat_lt now until.second) (Locked until)
lasting-order (held.Compliance until cool_end) now = alone (nat_lt now until.second) (Locked until)

-- what a lock and a tier are refused by
dated : (bad : Bool) (new : LockState) → refusal_in (changed_lock (if bad then Err refusal.BadDate else Ok new)) ≡ first_of ((bad, BadParameter (codes "ExpirationDate")) ∷ [])
dated true new = refl
dated false new = refl

term-order : (term : Term) (new : LockState) (now : ℕ) → refusal_in (changed_lock (if is_bad term now then Err refusal.BadDate else Ok new)) ≡ first_of (date_tests term now)
term-order (Days days) new now = refl
term-order (Date date) new now = dated (nat_lt date.second (now + 86400) || nat_lt (now + 36500 * 86400) date.second) new

end-same : (term : Term) (now : ℕ) → (end_of term now).second ≡ asked_end term now
end-same (Days days) now = refl
end-same (Date date) now = refl

mode-same : (mode : LockMode) → is_governance mode ≡ asks_governance mode
mode-same Governance = refl
mode-same Compliance = refl

barred : (until : Moment) (ended cools bars : Bool) (longer fresh : Result LockState LockRefusal) (tests : Tests) → refusal_in (changed_lock longer) ≡ first_of tests → refusal_in (changed_lock fresh) ≡ first_of tests
    → refusal_in (changed_lock (if is_compliance (if ended then phase.Expired else (if cools then phase.CoolOff else phase.Compliance)) then (if bars then Err (refusal.Locked until) else longer) else fresh))
    ≡ first_of ((not ended && (not cools && bars), Locked until) ∷ tests)
barred until true cools bars longer fresh tests h k = k
barred until false true bars longer fresh tests h k = k
barred until false false true longer fresh tests h k = refl
barred until false false false longer fresh tests h k = h

pub lock-order-of : (lock : LockState) (mode : LockMode) (term : Term) (cool_hours : Option ℕ) (now : ℕ)
    → refusal_in (changed_lock (lock_change lock (Lock mode term cool_hours) now)) ≡ first_of (compliance_tests lock mode term cool_hours now ++ date_tests term now)
lock-order-of held.None mode term cool_hours now = term-order term _ now
lock-order-of (held.Governance until) mode term cool_hours now = term-order term _ now
lock-order-of (held.Compliance until cool_end) mode term cool_hours now =
    barred until (nat_le until.second now) (nat_lt now cool_end.second) (is_governance mode || (is_some cool_hours || nat_le (end_of term now).second until.second)) _ (replaced mode term cool_hours now) (date_tests term now) (term-order term _ now) (term-order term _ now)
    ∙ (λ i. first_of ((not-reached until.second now i && (not-ahead cool_end.second now i && (mode-same mode i || (is_some cool_hours || nat_le (end-same term now i) until.second))), Locked until) ∷ date_tests term now))

pub held-order : (lock : LockState) (now : ℕ) → refusal_in (changed_lock (lock_change lock Unlock now)) ≡ first_of (held_tests lock now)
held-order held.None now = refl
held-order (held.Governance until) now = by (nat_le until.second now)
  where
    by : (ended : Bool) → refusal_in (changed_lock (unlock_by (if ended then phase.Expired else phase.Governance) until)) ≡ first_of ((ended, WrongState state.Unlocked) ∷ [])
    by true = refl
    by false = refl
held-order (held.Compliance until cool_end) now =
    by (nat_le until.second now) (nat_lt now cool_end.second)
    ∙ (λ i. first_of ((nat_le until.second now, WrongState state.Unlocked) ∷ (not-reached until.second now i && not-ahead cool_end.second now i, Locked until) ∷ []))
  where
    by : (ended cools : Bool) → refusal_in (changed_lock (unlock_by (if ended then phase.Expired else (if cools then phase.CoolOff else phase.Compliance)) until))
        ≡ first_of ((ended, WrongState state.Unlocked) ∷ (not ended && not cools, Locked until) ∷ [])
    by true cools = refl
    by false true = refl
    by false false = refl

pub archived-order : (tier : Tier) (now : ℕ) → refusal_in (changed_tier (tiers.archive tier now)) ≡ first_of (archived_tests tier now)
archived-order Standard now = refl
archived-order Archived now = refl
archived-order (Temporary until) now = by (nat_lt now until.second) ∙ ap (λ b. first_of ((b, WrongState state.Archived) ∷ (nat_lt now until.second, WrongState state.Temporary) ∷ [])) (not-ahead until.second now)
  where
    by : (ahead : Bool) → refusal_in (changed_tier (tiers.archive_by (if ahead then stage.Temporary else stage.Archived))) ≡ first_of ((not ahead, WrongState state.Archived) ∷ (ahead, WrongState state.Temporary) ∷ [])
    by true = refl
    by false = refl

pub restored-order : (tier : Tier) (days : Option ℕ) (now : ℕ) → refusal_in (changed_tier (tiers.restore tier days now)) ≡ first_of ((is_standard tier, WrongState state.Standard) ∷ [])
restored-order Standard days now = refl
restored-order Archived days now = refl
restored-order (Temporary until) days now = by (nat_lt now until.second)
  where
    by : (ahead : Bool) → refusal_in (changed_tier (tiers.restore_by (if ahead then stage.Temporary else stage.Archived) days now)) ≡ None
    by true = refl
    by false = refl

pub term-same : (term : Term) → is_term term ≡ is_duration term
term-same (Days days) = refl
term-same (Date date) = refl

pub cool-same : (mode : LockMode) (hours : Option ℕ) → is_cool_off mode hours ≡ is_cool_off_of mode hours
cool-same Governance None = refl
cool-same Compliance None = refl
cool-same Governance (Some hours) = refl
cool-same Compliance (Some hours) = refl

pub restore-same : (days : Option ℕ) → is_restore days ≡ is_restore_of days
restore-same None = refl
restore-same (Some days) = refl
