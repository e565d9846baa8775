use Rattle.ebs_laws.proofs.Alone.{reads-leave}
use Rattle.ebs_laws.proofs.rows.reads_leave_machine.Goals as goal

pub returns : goal.returns
returns c = reads-leave
