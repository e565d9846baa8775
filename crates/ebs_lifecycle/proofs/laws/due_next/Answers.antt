use Rattle.ebs_lifecycle.proofs.Multiples.{next_after}
use Rattle.ebs_lifecycle.proofs.laws.due_next.Goals as goal

pub returns : goal.returns
returns c = next_after
