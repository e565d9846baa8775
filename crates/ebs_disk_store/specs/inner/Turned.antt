-- What a change of a row tells.
use Rattle.std.specs.Prelude.{ℕ, Result, ◌≡◌, ◌⊎◌, ◌+◌, Ok, None, Err}
use Rattle.ebs_world.specs.Image.{Images}
use Rattle.ebs_world.specs.View.{View}
use Rattle.ebs_model.specs.declared.keys.Moment.{Moment}
use Rattle.ebs_model.specs.declared.request.Request.{Request}
use Rattle.ebs_model.specs.declared.answer.Answer.{Answer}
use Rattle.ebs_model.specs.declared.answer.Answer.TheVariants as answers
use Rattle.ebs_model.specs.declared.answer.Refusal.{Refusal}
use Rattle.ebs_model.specs.declared.answer.Refusal.TheVariants as refusals
use Rattle.ebs_model.specs.declared.answer.Failure.{Failure}
use Rattle.ebs_model.specs.declared.answer.Failure.TheVariants as failure
use Rattle.ebs_model.specs.Refuse.{◌>>◌, refuse_bad}
use Rattle.ebs_model.specs.Limits.{bad_member}
use Rattle.ebs_model.specs.Kept.{same}
use Rattle.ebs_model.specs.Machine.{Machine, advance}
use Rattle.ebs_model.specs.Step.{act, call, settled, step}
use Rattle.ebs_records.specs.declared.record.Record.TheVariants.{Accepted}
use Rattle.ebs_recovery.specs.Made.{Made}
use Rattle.ebs_recovery.specs.Stands.{Stands}
use Rattle.ebs_disk_store.specs.inner.Calls.{recorded_request}
use Rattle.ebs_disk_store.specs.inner.Told.{called_at, mended, unsure, at_clock}
use Rattle.ebs_recovery.specs.inner.Fits.{Seen, recorded, running, StandsAfter, StandsForOne}

-- what a call that brings no block does to the kept form
abbrev pub kept_call : Machine → ℕ → Request → Result (Machine × Answer) Refusal
kept_call m account request = refuse_bad (bad_member request) >> act same m account request

-- nothing that is recorded has changed: what is pending is as it was, nothing, or this call
abbrev pub IsLeft : Seen → Seen → ℕ → Moment → Request → Type 0
IsLeft s t account now request = (t ≡ s) ⊎ ((t ≡ mended s) ⊎ (t ≡ unsure (mended s) (Accepted (called_at account now (recorded_request (advance s.recorded now) account request)))))

-- nothing is recorded or pending that wasn't: the store as it was, or with the gate of an old record closed
abbrev pub IsSpared : Seen → Seen → Type 0
IsSpared s t = (t ≡ s) ⊎ (t ≡ mended s)

-- the kept form makes the call, as one change more
pub record WouldChange (s : Seen) (account : ℕ) (now : Moment) (request : Request) : Type 0 where
  pub next : Machine
  pub answer : Answer
  pub accepts : kept_call (advance s.recorded now) account request ≡ Ok (next, answer)
  pub more : next.changes ≡ s.recorded.changes + 1

-- what a call tells at its moment, whatever its disk. It is a change, which is durable; or it is refused, or answered without a
-- change, and moves the clock alone, with no call of the disk; or it would be a change, and is E17, where the disk's count of faults rose; or
-- it is want of memory, which leaves nothing of the call
pub data Told (Still Rose : Type 0) (s t : Seen) (account : ℕ) (now : Moment) (request : Request) : Answer → Type 0 where
  made_change : (answer : Answer) → kept_call (advance s.recorded now) account request ≡ Ok (t.recorded, answer) → t.recorded.changes ≡ s.recorded.changes + 1
      → t.clock ≡ now → t.recorded.clock ≡ now → t.slots ≡ s.slots → t.pending ≡ None → Told Still Rose s t account now request answer
  answered : (answer : Answer) → kept_call (advance s.recorded now) account request ≡ Ok (advance s.recorded now, answer) → t ≡ at_clock s now → Still → Told Still Rose s t account now request answer
  refused : (refusal : Refusal) → kept_call (advance s.recorded now) account request ≡ Err refusal → t ≡ at_clock s now → Still → Told Still Rose s t account now request (answers.Refused refusal)
  unavailable : Rose → WouldChange s account now request → IsLeft s t account now request → Told Still Rose s t account now request (answers.Refused refusals.Unavailable)
  memory : IsSpared s t → Told Still Rose s t account now request answers.Memory

-- E17, or want of memory
abbrev pub IsStop : Answer → Type 0
IsStop answer = (answer ≡ answers.Refused refusals.Unavailable) ⊎ (answer ≡ answers.Memory)

abbrev pub TurnAt : View → View → Seen → Seen → ℕ → Moment → Request → Answer → Type 0
TurnAt old new s t account now request answer =
    (let at = advance (recorded old s) now in settled at (call at account request) ≡ (running new t, answer)) ⊎ (IsStop answer × (running new t ≡ running old s) × (recorded new t ≡ recorded old s))

-- the machine's own step; or it stopped, and the machines stay
abbrev pub Turn : View → View → Seen → Seen → ℕ → Moment → Request → Answer → Type 0
Turn old new s t account reading request answer = (step (running old s) account reading request ≡ (running new t, answer)) ⊎ (IsStop answer × (running new t ≡ running old s) × (recorded new t ≡ recorded old s))

-- one change more is recorded, nothing is pending, and the recorded machine is the one that answers calls
abbrev pub IsOneMore : View → View → Seen → Seen → Type 0
IsOneMore old new s t = ((recorded new t).changes ≡ (recorded old s).changes + 1) × (recorded new t ≡ running new t) × (t.pending ≡ None)

-- what is recorded stays, and so does the number of changes of what answers calls
abbrev pub IsNoneMore : View → View → Seen → Seen → Type 0
IsNoneMore old new s t = (recorded new t ≡ recorded old s) × ((running new t).changes ≡ (running old s).changes)

abbrev pub OneMoreOrNone : View → View → Seen → Seen → Type 0
OneMoreOrNone old new s t = IsOneMore old new s t ⊎ IsNoneMore old new s t

-- an image of one of a call's moments stands for one of the machines before the call, or for what is recorded behind it; or, where the call `Failed`, for what
-- was recorded, after the call's change
abbrev pub MayLeave : Type 0 → View → View → Seen → Seen → Made → Images
MayLeave Failed old new s t change c = StandsForOne old s c ⊎ (Stands c (recorded new t) ⊎ (Failed × StandsAfter (recorded old s) change c))

-- a refusal moves the clock, and want of memory nothing
abbrev pub Fails : Seen → Seen → Moment → Failure → Answer → Type 0
Fails s t now (failure.Refused refusal) answer = (t ≡ at_clock s now) × (answer ≡ answers.Refused refusal)
Fails s t now failure.Memory answer = (t ≡ s) × (answer ≡ answers.Memory)
