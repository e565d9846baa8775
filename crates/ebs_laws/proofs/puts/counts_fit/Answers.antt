use Rattle.ebs_laws.proofs.Decided.{counts-empty, counts-step, counts-run}
use Rattle.ebs_laws.proofs.puts.counts_fit.Goals as goal

pub returns-clause-start : goal.returns-clause-start
returns-clause-start c = counts-empty

pub returns-clause-each_call : goal.returns-clause-each_call
returns-clause-each_call c = counts-step

pub returns-clause-run : goal.returns-clause-run
returns-clause-run c = counts-run
