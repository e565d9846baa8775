-- What a step says of calls that are accepted.
use Rattle.std.specs.Prelude.{◌≡◌, ◌≢◌, ◌⊎◌, ◌↔◌, false}
use Rattle.std.specs.declared.result.Result.TheVariants.{Ok}
use Rattle.ebs_model.specs.declared.keys.Moment.{Moment}
use Rattle.ebs_model.specs.declared.change.Change.{Change}
use Rattle.ebs_model.specs.declared.change.Decision.TheVariants as decision
use Rattle.ebs_model.specs.declared.request.Call.{Call}
use Rattle.ebs_model.specs.declared.answer.Answer.{Answer}
use Rattle.ebs_model.specs.declared.answer.Answer.TheVariants.{Refused}
use Rattle.ebs_model.specs.declared.answer.Refusal.{Refusal}
use Rattle.ebs_model.specs.inner.Rows.{aged}
use Rattle.ebs_model.specs.Decide.{decide}
use Rattle.ebs_model.specs.Machine.{Machine, advance, moment_of, rows_of}
use Rattle.ebs_model.specs.Step.{bytes_of, changed, step}
use Rattle.ebs_model.specs.inner.Turns.{Accepts, Changes}
use Rattle.ebs_laws.specs.Words.{is_repeat}
use Rattle.ebs_laws.specs.Puts.{changes_by}
use Rattle.ebs_laws.specs.RowLaws.{AsksChange}

-- a step accepts the call, or refuses it and leaves the machine as time alone makes it
abbrev pub StepAcceptsOrRefuses : Type 0
StepAcceptsOrRefuses =
    (m : Machine) (call : Call) (reading : Moment) → let s = step m call.account reading call.request in
    Accepts m call reading s.0 s.1 ⊎ ((refusal : Refusal) × (s ≡ (advance m (moment_of m reading), Refused refusal)))

-- what is accepted is the step
abbrev pub AcceptedIsStep : Type 0
AcceptedIsStep = (m : Machine) (call : Call) (reading : Moment) (next : Machine) (answer : Answer) → Accepts m call reading next answer → step m call.account reading call.request ≡ (next, answer)

-- and its answer is no refusal
abbrev pub AcceptedIsAnswered : Type 0
AcceptedIsAnswered =
    (m : Machine) (call : Call) (reading : Moment) (next : Machine) (answer : Answer) (refusal : Refusal) → Accepts m call reading next answer → answer ≢ Refused refusal

-- an accepted change that repeats no start and no creation is what the rows at the call's moment decided, and the machine after it is changed by that
abbrev pub AcceptedIsDecided : Type 0
AcceptedIsDecided =
    (m : Machine) (call : Call) (reading : Moment) (next : Machine) (answer : Answer)
    → let at = moment_of m reading in AsksChange call.request → is_repeat m call.account call.request ≡ false → Accepts m call reading next answer
    → (change : Change) × (decide (aged at.second (rows_of m)) at call.account call.request ≡ Ok (decision.Change change answer)) × (next ≡ changed (advance m at) (bytes_of call.request) change)

-- an accepted call is a change where its answer says so and it repeats no start and no creation, and then counts one more
abbrev pub AcceptedIsCounted : Type 0
AcceptedIsCounted =
    (m : Machine) (call : Call) (reading : Moment) (next : Machine) (answer : Answer) → Accepts m call reading next answer → Changes m call reading next answer ↔ (changes_by m call.account call.request answer ≡ 1)
