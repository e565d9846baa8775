use Rattle.ebs_laws.proofs.RulesFit.{fit-step, fit-run}
use Rattle.ebs_laws.proofs.rules.rules_fit.Goals as goal

pub returns-clause-each_call : goal.returns-clause-each_call
returns-clause-each_call c = fit-step

pub returns-clause-run : goal.returns-clause-run
returns-clause-run c = fit-run
