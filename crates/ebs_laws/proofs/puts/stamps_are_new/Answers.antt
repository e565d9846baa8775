use Rattle.ebs_laws.proofs.Stamps.{stamps-empty, stamps-step, stamps-run}
use Rattle.ebs_laws.proofs.puts.stamps_are_new.Goals as goal

pub returns-clause-start : goal.returns-clause-start
returns-clause-start c = stamps-empty

pub returns-clause-each_call : goal.returns-clause-each_call
returns-clause-each_call c = stamps-step

pub returns-clause-run : goal.returns-clause-run
returns-clause-run c = stamps-run
