use Rattle.ebs_lawful_points.proofs.Stamped.{empty-stamps, calls-stamps, time-stamps}
use Rattle.ebs_lawful_points.proofs.blocks.stamps_are_kept.Goals as goal

pub returns-clause-empty : goal.returns-clause-empty
returns-clause-empty c = empty-stamps

pub returns-clause-call : goal.returns-clause-call
returns-clause-call c = calls-stamps

pub returns-clause-time : goal.returns-clause-time
returns-clause-time c = time-stamps
