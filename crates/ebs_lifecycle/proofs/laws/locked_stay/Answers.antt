use Rattle.ebs_lifecycle.proofs.Kept.{locked}
use Rattle.ebs_lifecycle.proofs.laws.locked_stay.Goals as goal

pub returns : goal.returns
returns c = locked
