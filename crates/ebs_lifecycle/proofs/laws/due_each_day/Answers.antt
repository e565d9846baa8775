use Rattle.ebs_lifecycle.proofs.Multiples.{each_day}
use Rattle.ebs_lifecycle.proofs.laws.due_each_day.Goals as goal

pub returns : goal.returns
returns c = each_day
