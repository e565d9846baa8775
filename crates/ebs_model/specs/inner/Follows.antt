-- What a call of the store says, by the machine's call.
use Rattle.std.specs.Prelude.{◌≡◌, Result, Ok, Err}
use Rattle.ebs_model.specs.declared.answer.Refusal.{Refusal}
use Rattle.ebs_model.specs.declared.answer.Answer.{Answer}
use Rattle.ebs_model.specs.declared.answer.Failure.{Failure}
use Rattle.ebs_model.specs.declared.answer.Failure.TheVariants.{Refused, Memory}
use Rattle.ebs_model.specs.Machine.{Machine}

-- an answer comes with the machine's change; after the machine's refusal, and after want of memory, nothing has changed
abbrev pub Follows : Machine → Machine → Result Answer Failure → Result (Machine × Answer) Refusal → Type 0
Follows old new (Ok answer) wanted = Ok (new, answer) ≡ wanted
Follows old new (Err (Refused r)) wanted = (Err r ≡ wanted) × (new ≡ old)
Follows old new (Err Memory) wanted = new ≡ old

-- the same of a part that changes nothing
abbrev pub Agrees : {A : Type 0} → Result A Failure → Result A Refusal → Type 0
Agrees (Ok value) wanted = Ok value ≡ wanted
Agrees (Err (Refused r)) wanted = Err r ≡ wanted
Agrees (Err Memory) wanted = Unit {0}
