use Rattle.ebs_laws.proofs.ListReads.{token-reads, token-runs}
use Rattle.ebs_laws.proofs.ChangeReads.{change-runs}
use Rattle.ebs_laws.proofs.lists.listed_token_reads.Goals as goal

pub returns-clause-alone : goal.returns-clause-alone
returns-clause-alone c = token-reads

pub returns-clause-run : goal.returns-clause-run
returns-clause-run c = token-runs

pub returns-clause-changed : goal.returns-clause-changed
returns-clause-changed c = change-runs
