use Rattle.ebs_laws.proofs.Holds.{reads-run}
use Rattle.ebs_laws.proofs.puts.run_reads_last_put.Goals as goal

pub returns : goal.returns
returns c = λ m turns account reader reading later key index digest bytes stated token found read. reads-run key index bytes m turns account reader reading later digest stated token found read
