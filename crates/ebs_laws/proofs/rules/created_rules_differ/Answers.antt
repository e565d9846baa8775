use Rattle.ebs_laws.proofs.RulesLast.{never-fall, rules-differ}
use Rattle.ebs_laws.proofs.rules.created_rules_differ.Goals as goal

pub returns-clause-numbers : goal.returns-clause-numbers
returns-clause-numbers c = never-fall

pub returns-clause-ids : goal.returns-clause-ids
returns-clause-ids c = rules-differ
