use Rattle.ebs_laws.proofs.AtMostLeft.{at-most-left}
use Rattle.ebs_laws.proofs.policies.at_most_are_left.Goals as goal

pub returns : goal.returns
returns c = at-most-left
