use Rattle.ebs_laws.proofs.Stamps.{tells-step, tells-run}
use Rattle.ebs_laws.proofs.puts.stamps_tell_bytes.Goals as goal

pub returns-clause-each_call : goal.returns-clause-each_call
returns-clause-each_call c = tells-step

pub returns-clause-run : goal.returns-clause-run
returns-clause-run c = tells-run
