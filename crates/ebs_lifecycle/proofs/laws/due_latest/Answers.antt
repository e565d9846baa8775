use Rattle.ebs_lifecycle.proofs.Multiples.{latest_law}
use Rattle.ebs_lifecycle.proofs.laws.due_latest.Goals as goal

pub returns : goal.returns
returns c = latest_law
