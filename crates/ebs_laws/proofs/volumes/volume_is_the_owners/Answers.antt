use Rattle.ebs_laws.proofs.VolumeTold.{owner-shown, owner-takes, volume-unknown, shown-volume, deleted-own}
use Rattle.ebs_laws.proofs.volumes.volume_is_the_owners.Goals as goal

pub returns-clause-shown : goal.returns-clause-shown
returns-clause-shown c = owner-shown

pub returns-clause-deleted : goal.returns-clause-deleted
returns-clause-deleted c = owner-takes

pub returns-clause-unknown : goal.returns-clause-unknown
returns-clause-unknown c = volume-unknown

pub returns-clause-row : goal.returns-clause-row
returns-clause-row c = shown-volume

pub returns-clause-own : goal.returns-clause-own
returns-clause-own c = deleted-own
