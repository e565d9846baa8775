use Rattle.ebs_laws.proofs.DiskRows.{leave-snapshots}
use Rattle.ebs_laws.proofs.disks.nothing_else_moves_a_snapshot.Goals as goal

pub returns : goal.returns
returns c = leave-snapshots
