use Rattle.ebs_point_rules.proofs.Copies.{nothing-moved}
use Rattle.ebs_point_rules.proofs.groups.nothing_is_moved.Goals as goal

pub returns : goal.returns
returns c = nothing-moved
