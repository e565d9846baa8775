use Rattle.ebs_laws.proofs.Keys.{counters-empty, counters-step, counters-run}
use Rattle.ebs_laws.proofs.uploads.numbers_fit.Goals as goal

pub returns-clause-start : goal.returns-clause-start
returns-clause-start c = counters-empty

pub returns-clause-each_call : goal.returns-clause-each_call
returns-clause-each_call c = counters-step

pub returns-clause-run : goal.returns-clause-run
returns-clause-run c = counters-run
