use Rattle.ebs_laws.proofs.Ages.{time-failed, time-gone, time-left, time-none}
use Rattle.ebs_laws.proofs.time.time_takes_and_leaves.Goals as goal

pub returns-clause-failed : goal.returns-clause-failed
returns-clause-failed c = time-failed

pub returns-clause-gone : goal.returns-clause-gone
returns-clause-gone c = time-gone

pub returns-clause-left : goal.returns-clause-left
returns-clause-left c = time-left

pub returns-clause-none : goal.returns-clause-none
returns-clause-none c = time-none
