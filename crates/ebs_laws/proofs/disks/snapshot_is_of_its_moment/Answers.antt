use Rattle.ebs_laws.proofs.DiskMade.{snapshot-asked, owner-snapshots, snapshot-keeps}
use Rattle.ebs_laws.proofs.disks.snapshot_is_of_its_moment.Goals as goal

pub returns-clause-taken : goal.returns-clause-taken
returns-clause-taken c = snapshot-asked

pub returns-clause-accepted : goal.returns-clause-accepted
returns-clause-accepted c = owner-snapshots

pub returns-clause-stays : goal.returns-clause-stays
returns-clause-stays c = snapshot-keeps
