use Rattle.ebs_laws.proofs.RuleShows.{shown-rule, own-rule}
use Rattle.ebs_laws.proofs.RuleLists.{rules-listed}
use Rattle.ebs_laws.proofs.rules.shown_rule_is_the_rule.Goals as goal

pub returns-clause-shows : goal.returns-clause-shows
returns-clause-shows c = shown-rule

pub returns-clause-own : goal.returns-clause-own
returns-clause-own c = own-rule

pub returns-clause-list : goal.returns-clause-list
returns-clause-list c = rules-listed
