use Rattle.ebs_laws.proofs.RunMade.{given-differ}
use Rattle.ebs_laws.proofs.runs.given_ids_differ.Goals as goal

pub returns : goal.returns
returns c = given-differ
