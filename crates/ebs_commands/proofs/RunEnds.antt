-- How a run that has no line ends.
use Rattle.std.proofs.Common.{◌≡◌, ◌⊎◌, Err, inl, inr, refl}
use Rattle.ebs_world.specs.Ends.{Outlet}
use Rattle.ebs_model.specs.declared.keys.PolicyKey.{PolicyKey}
use Rattle.ebs_model.specs.declared.answer.Answer.{Answer}
use Rattle.ebs_model.specs.declared.answer.Answer.TheVariants.{Refused}
use Rattle.ebs_model.specs.declared.answer.Refusal.TheVariants.{Unavailable}
use Rattle.ebs_commands.specs.inner.Ticks.{RunEnds}
use Rattle.ebs_commands.specs.declared.ending.CommandEnd.{CommandEnd}
use Rattle.ebs_commands.specs.declared.ending.CommandEnd.TheVariants.{DiskFailed, Memory}

pub unwritten : (Rose : Type 0) (key : PolicyKey) (answer : Answer) (end : CommandEnd) (out : Outlet) → (answer ≡ Refused Unavailable → Rose) → (end ≡ Memory) ⊎ ((end ≡ DiskFailed) × (answer ≡ Refused Unavailable))
    → RunEnds (Err end) Rose key answer out out
unwritten Rose key answer end out cause (inl is) = rw is refl
unwritten Rose key answer end out cause (inr (is, why)) = rw is (cause why, why, refl)
