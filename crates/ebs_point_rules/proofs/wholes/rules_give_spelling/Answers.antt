use Rattle.ebs_point_rules.proofs.Spelled.{rules-spell}
use Rattle.ebs_point_rules.proofs.wholes.rules_give_spelling.Goals as goal

pub returns : goal.returns
returns c = rules-spell
