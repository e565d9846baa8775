use Rattle.ebs_checkpoint_rules.proofs.Told.{back}
use Rattle.ebs_checkpoint_rules.proofs.laws.written_is_read.Goals as goal

pub returns : goal.returns
returns c = back
