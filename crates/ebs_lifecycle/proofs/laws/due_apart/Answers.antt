use Rattle.ebs_lifecycle.proofs.Multiples.{whole_apart}
use Rattle.ebs_lifecycle.proofs.laws.due_apart.Goals as goal

pub returns : goal.returns
returns c = whole_apart
