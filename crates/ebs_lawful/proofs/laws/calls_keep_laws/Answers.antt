use Rattle.ebs_lawful.proofs.Lawful.{calls-lawful}
use Rattle.ebs_lawful.proofs.laws.calls_keep_laws.Goals as goal

pub returns : goal.returns
returns c = calls-lawful
