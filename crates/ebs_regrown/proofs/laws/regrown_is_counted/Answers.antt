use Rattle.ebs_regrown.proofs.Stamped.{regrown_counted}
use Rattle.ebs_regrown.proofs.laws.regrown_is_counted.Goals as goal

pub returns : goal.returns
returns c = regrown_counted
