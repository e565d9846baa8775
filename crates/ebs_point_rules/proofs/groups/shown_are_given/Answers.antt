use Rattle.ebs_point_rules.proofs.Blocks.{shown-given}
use Rattle.ebs_point_rules.proofs.groups.shown_are_given.Goals as goal

pub returns : goal.returns
returns c = shown-given
