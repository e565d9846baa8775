use Rattle.ebs_point_rules.proofs.Blocks.{stamps-stored}
use Rattle.ebs_point_rules.proofs.groups.stamps_are_stored.Goals as goal

pub returns : goal.returns
returns c = stamps-stored
