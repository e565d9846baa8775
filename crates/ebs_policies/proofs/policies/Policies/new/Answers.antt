use Rattle.std.proofs.Common.{sym, subst}
use Rattle.ebs_policies.specs.Table.{AreSound}
use Rattle.ebs_policies.proofs.Places.{sound-empty}
use Rattle.ebs_policies.proofs.policies.Policies.new.Goals as goal

pub invariant_of-result : goal.invariant_of-result
invariant_of-result c = subst AreSound (sym c.new.ensures.held) sound-empty
