use Rattle.ebs_lawful.proofs.Lawful.{step-lawful, runs-lawful}
use Rattle.ebs_lawful.proofs.laws.runs_are_lawful.Goals as goal

pub returns-clause-step : goal.returns-clause-step
returns-clause-step c = step-lawful

pub returns-clause-run : goal.returns-clause-run
returns-clause-run c = runs-lawful
