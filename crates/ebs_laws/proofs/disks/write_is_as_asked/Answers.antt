use Rattle.ebs_laws.proofs.DiskMade.{write-asked, owner-writes, owner-reads, read-in-range}
use Rattle.ebs_laws.proofs.disks.write_is_as_asked.Goals as goal

pub returns-clause-writes : goal.returns-clause-writes
returns-clause-writes c = write-asked

pub returns-clause-accepted : goal.returns-clause-accepted
returns-clause-accepted c = owner-writes

pub returns-clause-reads : goal.returns-clause-reads
returns-clause-reads c = owner-reads

pub returns-clause-in_range : goal.returns-clause-in_range
returns-clause-in_range c = read-in-range
