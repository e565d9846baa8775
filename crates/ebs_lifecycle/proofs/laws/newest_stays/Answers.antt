use Rattle.ebs_lifecycle.proofs.Kept.{newest}
use Rattle.ebs_lifecycle.proofs.laws.newest_stays.Goals as goal

pub returns : goal.returns
returns c = newest
