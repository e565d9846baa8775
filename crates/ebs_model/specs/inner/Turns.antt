-- Calls one after another, each at its reading of the clock.
use Rattle.std.specs.Prelude.{◌≡◌, Ok, ◌+◌, ◌⊎◌}
use Rattle.ebs_model.specs.declared.keys.Moment.{Moment}
use Rattle.ebs_model.specs.declared.request.Call.{Call}
use Rattle.ebs_model.specs.declared.answer.Answer.{Answer}
use Rattle.ebs_model.specs.declared.answer.Answer.TheVariants.{Memory}
use Rattle.ebs_model.specs.Machine.{Machine, advance, moment_of}
use Rattle.ebs_model.specs.Step.{call, step}

-- the call is accepted at its moment, answers this, and leaves the machine so
abbrev pub Accepts : Machine → Call → Moment → Machine → Answer → Type 0
Accepts m c reading next answer = call (advance m (moment_of m reading)) c.account c.request ≡ Ok (next, answer)

-- and it is one change more
abbrev pub Changes : Machine → Call → Moment → Machine → Answer → Type 0
Changes m c reading next answer = Accepts m c reading next answer × (next.changes ≡ m.changes + 1)

-- the machine's own step, or want of memory, after which it is as before
abbrev pub Turn : Machine → Call → Moment → Answer → Machine → Type 0
Turn old call reading answer new = ((new, answer) ≡ step old call.account reading call.request) ⊎ ((answer ≡ Memory) × (new ≡ old))
