use Rattle.ebs_laws.proofs.Deleted.{deleted-by-rules}
use Rattle.ebs_laws.proofs.deletions.deleted_goes_by_rules.Goals as goal

pub returns : goal.returns
returns c = deleted-by-rules
