use Rattle.ebs_lawful_points.proofs.PointLaws.{points-lawful}
use Rattle.ebs_lawful_points.proofs.points.points_are_lawful.Goals as goal

pub returns : goal.returns
returns c = points-lawful
