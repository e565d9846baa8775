use Rattle.ebs_laws.proofs.PassedStarts.{passed-step, passed-run, fit-step, fit-run}
use Rattle.ebs_laws.proofs.runs.starts_are_passed.Goals as goal

pub returns-clause-each_call : goal.returns-clause-each_call
returns-clause-each_call c = passed-step

pub returns-clause-run : goal.returns-clause-run
returns-clause-run c = passed-run

pub returns-clause-policies : goal.returns-clause-policies
returns-clause-policies c = fit-step

pub returns-clause-policies_run : goal.returns-clause-policies_run
returns-clause-policies_run c = fit-run
