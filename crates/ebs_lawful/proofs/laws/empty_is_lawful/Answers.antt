use Rattle.ebs_lawful.proofs.Lawful.{empty-lawful}
use Rattle.ebs_lawful.proofs.laws.empty_is_lawful.Goals as goal

pub returns : goal.returns
returns c = empty-lawful
