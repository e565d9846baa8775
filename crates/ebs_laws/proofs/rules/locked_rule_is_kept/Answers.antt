use Rattle.ebs_laws.proofs.RulesLast.{locked-kept}
use Rattle.ebs_laws.proofs.rules.locked_rule_is_kept.Goals as goal

pub returns : goal.returns
returns c = locked-kept
