use Rattle.ebs_laws.proofs.Binned.{gone-without-rule, longest-rule-decides}
use Rattle.ebs_laws.proofs.bin.longest_rule_decides.Goals as goal

pub returns-clause-none : goal.returns-clause-none
returns-clause-none c = gone-without-rule

pub returns-clause-longest : goal.returns-clause-longest
returns-clause-longest c = longest-rule-decides
