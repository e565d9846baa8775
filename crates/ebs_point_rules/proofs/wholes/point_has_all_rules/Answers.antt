use Rattle.ebs_point_rules.proofs.Whole.{point-rules, shown-rules}
use Rattle.ebs_point_rules.proofs.wholes.point_has_all_rules.Goals as goal

pub returns-clause-given : goal.returns-clause-given
returns-clause-given c = point-rules

pub returns-clause-shown : goal.returns-clause-shown
returns-clause-shown c = shown-rules
