use Rattle.ebs_laws.proofs.Writes.{put-step, put-digests}
use Rattle.ebs_laws.proofs.Accepts.{puts-step}
use Rattle.ebs_laws.proofs.puts.put_writes_one_block.Goals as goal

pub returns-clause-accepted : goal.returns-clause-accepted
returns-clause-accepted c = puts-step

pub returns-clause-digests : goal.returns-clause-digests
returns-clause-digests c = put-digests

pub returns-clause-writes : goal.returns-clause-writes
returns-clause-writes c = put-step
