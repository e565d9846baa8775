use Rattle.ebs_lawful_points.proofs.StampPoints.{points-stamps}
use Rattle.ebs_lawful_points.proofs.ArrayPoints.{points-arrays}
use Rattle.ebs_lawful_points.proofs.blocks.points_have_stamps.Goals as goal

pub returns-clause-stamps : goal.returns-clause-stamps
returns-clause-stamps c = points-stamps

pub returns-clause-arrays : goal.returns-clause-arrays
returns-clause-arrays c = points-arrays
