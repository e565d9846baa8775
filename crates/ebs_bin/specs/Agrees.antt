-- What a decision on a command says, by the definition's.
use Rattle.std.specs.Prelude.{◌≡◌}
use Rattle.std.specs.declared.result.Result.{Result}
use Rattle.std.specs.declared.result.Result.TheVariants.{Ok, Err}
use Rattle.ebs_model.specs.declared.rules.RuleChange.{RuleChange}
use Rattle.ebs_model.specs.RuleCommands.{Decided}
use Rattle.ebs_bin.specs.declared.failure.RuleFailure.{RuleFailure}
use Rattle.ebs_bin.specs.declared.failure.RuleFailure.TheVariants as failure

-- the command changes something
abbrev pub IsTaken : Decided → Type 0
IsTaken (Ok change) = Unit {0}
IsTaken (Err refusal) = ⊥

-- want of memory is free where the command isn't refused
abbrev pub Agrees : Result RuleChange RuleFailure → Decided → Type 0
Agrees (Ok change) wanted = Ok change ≡ wanted
Agrees (Err (failure.Refused r)) wanted = Err r ≡ wanted
Agrees (Err failure.Memory) wanted = IsTaken wanted
