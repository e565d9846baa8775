use Rattle.ebs_laws.proofs.Changed.{makes-second}
use Rattle.ebs_laws.proofs.lists.changes_make_second.Goals as goal

pub returns : goal.returns
returns c = makes-second
