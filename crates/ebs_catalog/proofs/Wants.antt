-- Want of memory.
use Rattle.std.proofs.Common.{Result, Ok, Err}
use Rattle.ebs_model.specs.declared.answer.Failure.{Failure}
use Rattle.ebs_model.specs.declared.answer.Failure.TheVariants.{Refused, Memory}
use Rattle.ebs_catalog.specs.Wants.{OnMemory}

-- what holds in any case holds where there is want of memory
pub always : {A : Type 0} (result : Result A Failure) (P : Type 0) → P → OnMemory result P
always (Ok value) P h = tt
always (Err (Refused r)) P h = tt
always (Err Memory) P h = h
