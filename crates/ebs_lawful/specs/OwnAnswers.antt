-- The answers that a machine gives.
use Rattle.std.specs.Prelude.{ℕ, Result, Ok, Err}
use Rattle.ebs_model.specs.declared.keys.Moment.{Moment}
use Rattle.ebs_model.specs.declared.request.Request.{Request}
use Rattle.ebs_model.specs.declared.answer.Answer.{Answer}
use Rattle.ebs_model.specs.declared.answer.Answer.TheVariants.{Refused, Memory}
use Rattle.ebs_model.specs.declared.answer.Refusal.{Refusal}
use Rattle.ebs_model.specs.declared.answer.Refusal.TheVariants.{Exhausted, Unavailable, Damaged, NoSuchCall}
use Rattle.ebs_model.specs.declared.answer.Spent.TheVariants.{Turns}
use Rattle.ebs_model.specs.Arrays.{Hash}
use Rattle.ebs_model.specs.Machine.{Machine}
use Rattle.ebs_model.specs.Step.{act, step}

-- it isn't told of a disk, of turns or of a message
abbrev pub IsOwnRefusal : Refusal → Type 0
IsOwnRefusal (Exhausted Turns) = ⊥
IsOwnRefusal Unavailable = ⊥
IsOwnRefusal (Damaged stored found) = ⊥
IsOwnRefusal NoSuchCall = ⊥
IsOwnRefusal refusal = Unit {0}

-- nor of memory
abbrev pub IsOwn : Answer → Type 0
IsOwn (Refused refusal) = IsOwnRefusal refusal
IsOwn Memory = ⊥
IsOwn answer = Unit {0}

-- what a call within its limits comes to
abbrev pub IsOwnOutcome : Result (Machine × Answer) Refusal → Type 0
IsOwnOutcome (Ok done) = IsOwn done.1
IsOwnOutcome (Err refusal) = IsOwnRefusal refusal

abbrev pub CallsAnswerOwn : Type 0
CallsAnswerOwn = (hash : Hash) (m : Machine) (account : ℕ) (request : Request) → IsOwnOutcome (act hash m account request)

abbrev pub StepsAnswerOwn : Type 0
StepsAnswerOwn = (m : Machine) (account : ℕ) (reading : Moment) (request : Request) → IsOwn (step m account reading request).1
