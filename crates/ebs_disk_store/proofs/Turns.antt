-- What a change of a row tells, by its exits.
use Rattle.std.proofs.Common.{◌≡◌, refl, inl, inr, ⊎_elim, ℕ, ◌≤◌, [], None, Result, Ok, Err, sym, ap, subst, ◌∙◌}
use Rattle.ebs_world.specs.View.{View, Leaves, IsTrueToItself}
use Rattle.ebs_world.specs.inner.Runs.{ran_not}
use Rattle.ebs_model.specs.declared.keys.Moment.{Moment}
use Rattle.ebs_model.specs.declared.request.Request.{Request}
use Rattle.ebs_model.specs.declared.answer.Answer.{Answer}
use Rattle.ebs_model.specs.declared.answer.Refusal.{Refusal}
use Rattle.ebs_model.specs.declared.change.Change.{Change}
use Rattle.ebs_model.specs.Refuse.{◌>>◌, refuse_bad}
use Rattle.ebs_model.specs.Limits.{bad_member}
use Rattle.ebs_model.specs.Kept.{same}
use Rattle.ebs_model.specs.inner.Kept.{ActsAlike, AgesAlike}
use Rattle.ebs_model.specs.Machine.{Machine, advance}
use Rattle.ebs_model.specs.inner.Rules.{KeepsDays}
use Rattle.ebs_model.specs.Step.{act, changed}
use Rattle.ebs_recovery.specs.Made.{Made, called}
use Rattle.ebs_recovery.specs.inner.Made.{Leads}
use Rattle.ebs_recovery.specs.inner.Fits.{Seen, Fit, StandsForOne, IsHeld, recorded, running}
use Rattle.ebs_recovery.specs.inner.FitLaws.{ImagesStay}
use Rattle.ebs_recovery.specs.inner.Changes.{IsRowChange}
use Rattle.ebs_disk_store.specs.inner.Calls.{IsRuled, Rules}
use Rattle.ebs_disk_store.specs.inner.Told.{called_at, at_clock, at_reading, taken}
use Rattle.ebs_disk_store.specs.inner.Turned.{Told, made_change, answered, refused, unavailable, memory, kept_call, Fails, IsLeft, IsSpared, WouldChange, MayLeave, TurnAt, Turn}
use Rattle.ebs_disk_store.proofs.Left.{left_before}
use Rattle.ebs_disk_store.proofs.RowCalls.{plain}
use Rattle.ebs_disk_store.proofs.Steps.{made_is, repeated_is, refused_is, bad_is, step_at}
use Rattle.ebs_disk_store.proofs.Held.{fit_clock}
use Rattle.ebs_model.specs.inner.Follows.{Agrees}
use Rattle.ebs_model.specs.declared.answer.Failure.{Failure}
use Rattle.ebs_model.specs.declared.answer.Failure.TheVariants as failure

pub left_clock : (s t : Seen) (account : ℕ) (now : Moment) (request : Request) → IsLeft s t account now request → t.clock ≡ s.clock
left_clock s t account now request left = ⊎_elim (λ is. ap (λ (u : Seen). u.clock) is) (λ rest. ⊎_elim (λ is. ap (λ (u : Seen). u.clock) is) (λ is. ap (λ (u : Seen). u.clock) is) rest) left

spared_slots : (s t : Seen) → IsSpared s t → t.slots ≡ s.slots
spared_slots s t left = ⊎_elim (λ is. ap (λ (u : Seen). u.slots) is) (λ is. ap (λ (u : Seen). u.slots) is) left

left_slots : (s t : Seen) (account : ℕ) (now : Moment) (request : Request) → IsLeft s t account now request → t.slots ≡ s.slots
left_slots s t account now request left = ⊎_elim (λ is. ap (λ (u : Seen). u.slots) is) (λ rest. ⊎_elim (λ is. ap (λ (u : Seen). u.slots) is) (λ is. ap (λ (u : Seen). u.slots) is) rest) left

-- a change brings no block, so each slot stays
pub told_slots : (Still Rose : Type 0) (s t : Seen) (account : ℕ) (now : Moment) (request : Request) (answer : Answer) → Told Still Rose s t account now request answer → t.slots ≡ s.slots
told_slots Still Rose s t account now request answer (made_change a e counted clock at slots pending) = slots
told_slots Still Rose s t account now request answer (answered a e is still) = ap (λ (u : Seen). u.slots) is
told_slots Still Rose s t account now request answer (refused r e is still) = ap (λ (u : Seen). u.slots) is
told_slots Still Rose s t account now request answer (unavailable rose would left) = left_slots s t account now request left
told_slots Still Rose s t account now request answer (memory left) = spared_slots s t left

-- a call that moves the clock alone
pub fit_failed : (v : View) (s t : Seen) (now : Moment) (f : Failure) (answer : Answer) → s.clock.second ≤ now.second → Fails s t now f answer → Fit v s → Fit v t
fit_failed v s t now (failure.Refused refusal) answer later how fit = subst (Fit v) (sym how.0) (fit_clock v s now later fit)
fit_failed v s t now failure.Memory answer later how fit = subst (Fit v) (sym how.0) fit

pub fails_slots : (s t : Seen) (now : Moment) (f : Failure) (answer : Answer) → Fails s t now f answer → t.slots ≡ s.slots
fails_slots s t now (failure.Refused refusal) answer how = ap (λ (u : Seen). u.slots) how.0
fails_slots s t now failure.Memory answer how = ap (λ (u : Seen). u.slots) how.0

-- a member out of its limits
pub told_bad : (Still Rose : Type 0) (s t : Seen) (account : ℕ) (now : Moment) (request : Request) (f : Failure) (answer : Answer) → Agrees (Err f) (refuse_bad (bad_member request)) → Fails s t now f answer → Still → Told Still Rose s t account now request answer
told_bad Still Rose s t account now request (failure.Refused refusal) answer e how still = subst (Told Still Rose s t account now request) (sym how.1)
    (refused refusal (ap (λ (x : Result (Unit {0}) Refusal). x >> act same (advance s.recorded now) account request) (sym e)) how.0 still)
told_bad Still Rose s t account now request failure.Memory answer e how still = subst (Told Still Rose s t account now request) (sym how.1) (memory (inl how.0))

pub turn_bad : (v : View) (s t : Seen) (account : ℕ) (now : Moment) (request : Request) (f : Failure) (answer : Answer) → Agrees (Err f) (refuse_bad (bad_member request)) → Fails s t now f answer → TurnAt v v s t account now request answer
turn_bad v s t account now request (failure.Refused refusal) answer e how = inl (bad_is (advance (recorded v s) now) account request refusal e ∙ (λ i. (running v (sym how.0 i), sym how.1 i)))
turn_bad v s t account now request failure.Memory answer e how = inr (inr how.1, ap (running v) how.0, ap (recorded v) how.0)

-- where nothing was called
pub still : (v : View) → IsTrueToItself v → ImagesStay v v → (s : Seen) → Fit v s → Leaves v v (StandsForOne v s)
still v law stays s fit = stays s (ran_not (IsHeld s.slots.top) v law) fit

pub idle : (Failed : Type 0) (v : View) → IsTrueToItself v → ImagesStay v v → (s t : Seen) → Fit v s → (e : Made) → Leaves v v (MayLeave Failed v v s t e)
idle Failed v law stays s t fit e = left_before Failed v v s t e (still v law stays s fit)

module _ (s : Seen) (account : ℕ) (now : Moment) (request : Request) (within : bad_member request ≡ None) where
  kept_is : kept_call (advance s.recorded now) account request ≡ act same (advance s.recorded now) account request
  kept_is = ap (λ o. refuse_bad o >> act same (advance s.recorded now) account request) within

  pub would_change : (change : Change) (answer : Answer) → IsRuled (advance s.recorded now) account request change answer → WouldChange s account now request
  would_change change answer ruled = record { next = changed (advance s.recorded now) [] change; answer = answer; accepts = kept_is ∙ ruled.acts; more = refl }

  module _ (Still Rose : Type 0) (t : Seen) where
    pub told_made : (change : Change) (answer : Answer) → IsRuled (advance s.recorded now) account request change answer → t ≡ taken s now (changed (advance s.recorded now) [] change) t.journal t.waiting
        → Told Still Rose s t account now request answer
    told_made change answer ruled is =
        let next : t.recorded ≡ changed (advance s.recorded now) [] change = ap (λ (u : Seen). u.recorded) is in
        made_change answer (kept_is ∙ ruled.acts ∙ ap (λ (m : Machine). Ok (m, answer)) (sym next)) (ap (λ (m : Machine). m.changes) next)
        (ap (λ (u : Seen). u.clock) is) (ap (λ (m : Machine). m.clock) next) (ap (λ (u : Seen). u.slots) is) (ap (λ (u : Seen). u.pending) is)

    pub told_answered : (answer : Answer) → act same (advance s.recorded now) account request ≡ Ok (advance s.recorded now, answer) → t ≡ at_clock s now → Still → Told Still Rose s t account now request answer
    told_answered answer e is still = answered answer (kept_is ∙ e) is still

    pub told_failed : (f : Failure) (answer : Answer) → Rules (advance s.recorded now) account request (Err f) → Fails s t now f answer → Still → Told Still Rose s t account now request answer
    told_failed (failure.Refused refusal) answer e how still = subst (Told Still Rose s t account now request) (sym how.1) (refused refusal (kept_is ∙ e) how.0 still)
    told_failed failure.Memory answer e how still = subst (Told Still Rose s t account now request) (sym how.1) (memory (inl how.0))

module _ (old : View) (law : IsTrueToItself old) (acts : ActsAlike) (ages : AgesAlike) (s : Seen) (fit : Fit old s) (now : Moment)
    (account : ℕ) (request : Request) (row : IsRowChange request) (within : bad_member request ≡ None) where
  abbrev pair : Machine → Answer → Machine × Answer
  pair m a = (m, a)

  pub turn_made : KeepsDays s.recorded.books → (new : View) (t : Seen) (change : Change) (answer : Answer) → IsRuled (advance s.recorded now) account request change answer → t ≡ taken s now (changed (advance s.recorded now) [] change) t.journal t.waiting
      → Leads (recorded old s) (called (called_at account now request)) (recorded new t) → TurnAt old new s t account now request answer
  turn_made lasts new t change answer ruled is leads =
      inl (made_is old law acts ages s fit now account request row within lasts (changed (advance s.recorded now) [] change) (recorded new t) answer ruled.acts refl leads
      ∙ ap (λ (c : Moment). pair (advance (recorded new t) c) answer) (sym (ap (λ (u : Seen). u.clock) is)))

  -- a repeat is answered, and the clock moves
  pub turn_answered : KeepsDays s.recorded.books → (t : Seen) (answer : Answer) → act same (advance s.recorded now) account request ≡ Ok (advance s.recorded now, answer) → t ≡ at_clock s now → TurnAt old old s t account now request answer
  turn_answered lasts t answer e is = inl (repeated_is old law acts ages s fit now account request row within lasts answer e ∙ ap (λ (u : Seen). pair (running old u) answer) (sym is))

  pub turn_failed : (t : Seen) (f : Failure) (answer : Answer) → Rules (advance s.recorded now) account request (Err f) → Fails s t now f answer → TurnAt old old s t account now request answer
  turn_failed t (failure.Refused refusal) answer e how = inl (refused_is old law acts ages s fit now account request request (plain request row).kept within refusal e ∙ (λ i. (running old (sym how.0 i), sym how.1 i)))
  turn_failed t failure.Memory answer e how = inr (inr how.1, ap (running old) how.0, ap (recorded old) how.0)

-- what a call does at its moment, it does at its reading
pub turn_reading : (old new : View) (s t : Seen) (account : ℕ) (reading : Moment) (request : Request) (answer : Answer) → TurnAt old new s t account (at_reading s reading) request answer → Turn old new s t account reading request answer
turn_reading old new s t account reading request answer (inl e) = inl (step_at old s account reading request ∙ e)
turn_reading old new s t account reading request answer (inr h) = inr h
