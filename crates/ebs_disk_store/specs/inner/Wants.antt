-- When a call is answered by want of memory.
use Rattle.std.specs.Prelude.{◌≡◌, ℕ}
use Rattle.ebs_model.specs.declared.request.Request.{Request}
use Rattle.ebs_model.specs.declared.answer.Answer.{Answer}
use Rattle.ebs_model.specs.declared.answer.Answer.TheVariants.{Memory}
use Rattle.ebs_model.specs.Machine.{Machine}
use Rattle.ebs_model.specs.Step.{call}
use Rattle.ebs_kept.specs.inner.Requests.{BringsNoBlock}
use Rattle.ebs_kept.specs.inner.Wants.{MayRunOut}

-- never where the machine that stands at the call's moment refuses the call; a block that is brought is staged before all tests on rows
abbrev pub OnWant : Machine → ℕ → Request → Answer → Type 0
OnWant at account request answer = answer ≡ Memory → BringsNoBlock request → MayRunOut (call at account request)
