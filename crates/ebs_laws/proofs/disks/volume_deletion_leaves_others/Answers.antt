use Rattle.ebs_laws.proofs.DiskRows.{deletion-leaves, deletion-leaves-volumes}
use Rattle.ebs_laws.proofs.disks.volume_deletion_leaves_others.Goals as goal

pub returns-clause-volume : goal.returns-clause-volume
returns-clause-volume c = deletion-leaves

pub returns-clause-snapshot : goal.returns-clause-snapshot
returns-clause-snapshot c = deletion-leaves-volumes
