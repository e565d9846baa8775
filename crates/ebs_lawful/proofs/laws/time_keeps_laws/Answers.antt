use Rattle.ebs_lawful.proofs.Lawful.{time-lawful}
use Rattle.ebs_lawful.proofs.laws.time_keeps_laws.Goals as goal

pub returns : goal.returns
returns c = time-lawful
