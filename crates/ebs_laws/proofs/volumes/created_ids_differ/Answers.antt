use Rattle.ebs_laws.proofs.VolumeRows.{volumes-never-fall, created-differ}
use Rattle.ebs_laws.proofs.volumes.created_ids_differ.Goals as goal

pub returns-clause-numbers : goal.returns-clause-numbers
returns-clause-numbers c = volumes-never-fall

pub returns-clause-ids : goal.returns-clause-ids
returns-clause-ids c = created-differ
