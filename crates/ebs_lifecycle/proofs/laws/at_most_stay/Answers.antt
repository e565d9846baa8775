use Rattle.ebs_lifecycle.proofs.AtMost.{at_most}
use Rattle.ebs_lifecycle.proofs.laws.at_most_stay.Goals as goal

pub returns : goal.returns
returns c = at_most
