use Rattle.ebs_laws.proofs.RunMade.{keeps-newest}
use Rattle.ebs_laws.proofs.runs.run_keeps_newest.Goals as goal

pub returns : goal.returns
returns c = keeps-newest
