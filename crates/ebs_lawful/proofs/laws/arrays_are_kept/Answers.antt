use Rattle.ebs_lawful.proofs.ArrayKept.{empty-arrays, calls-arrays, time-arrays}
use Rattle.ebs_lawful.proofs.laws.arrays_are_kept.Goals as goal

pub returns-clause-empty : goal.returns-clause-empty
returns-clause-empty c = empty-arrays

pub returns-clause-call : goal.returns-clause-call
returns-clause-call c = calls-arrays

pub returns-clause-time : goal.returns-clause-time
returns-clause-time c = time-arrays
