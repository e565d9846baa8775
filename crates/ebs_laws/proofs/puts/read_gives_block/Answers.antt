use Rattle.ebs_laws.proofs.Writes.{ready-step, read-step}
use Rattle.ebs_laws.proofs.puts.read_gives_block.Goals as goal

pub returns-clause-answers : goal.returns-clause-answers
returns-clause-answers c = ready-step

pub returns-clause-alone : goal.returns-clause-alone
returns-clause-alone c = read-step
