use Rattle.ebs_point_rules.proofs.Settled.{points-settled, time-settles}
use Rattle.ebs_point_rules.proofs.wholes.machines_are_settled.Goals as goal

pub returns-clause-time : goal.returns-clause-time
returns-clause-time c = time-settles

pub returns-clause-points : goal.returns-clause-points
returns-clause-points c = points-settled
