use Rattle.ebs_laws.proofs.Stays.{whole-run}
use Rattle.ebs_laws.proofs.uploads.completed_blocks_stay.Goals as goal

pub returns : goal.returns
returns c = whole-run
