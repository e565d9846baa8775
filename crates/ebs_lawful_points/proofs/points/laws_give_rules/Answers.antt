use Rattle.ebs_lawful_points.proofs.PointRules.{laws-give-rules}
use Rattle.ebs_lawful_points.proofs.points.laws_give_rules.Goals as goal

pub returns : goal.returns
returns c = laws-give-rules
