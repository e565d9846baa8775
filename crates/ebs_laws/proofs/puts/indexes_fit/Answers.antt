use Rattle.ebs_laws.proofs.Fits.{fits-empty, fits-step, fits-run, small-index}
use Rattle.ebs_laws.proofs.puts.indexes_fit.Goals as goal

pub returns-clause-start : goal.returns-clause-start
returns-clause-start c = fits-empty

pub returns-clause-each_call : goal.returns-clause-each_call
returns-clause-each_call c = fits-step

pub returns-clause-run : goal.returns-clause-run
returns-clause-run c = fits-run

pub returns-clause-small : goal.returns-clause-small
returns-clause-small c = small-index
