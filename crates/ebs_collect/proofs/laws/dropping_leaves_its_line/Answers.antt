use Rattle.ebs_collect.proofs.Covering.{dropping}
use Rattle.ebs_collect.proofs.laws.dropping_leaves_its_line.Goals as goal

pub returns : goal.returns
returns c = dropping
