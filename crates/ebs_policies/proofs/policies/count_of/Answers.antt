use Rattle.std.proofs.Common.{zero-add}
use Rattle.ebs_policies.proofs.Counts.{few}
use Rattle.ebs_policies.proofs.policies.count_of.Goals as goal

pub loop-key-init : goal.loop-key-init
loop-key-init c = (zero-add _, few _ _ _ c.into_iter-key-iterator.ensures.into_iter_gives c.requires)
