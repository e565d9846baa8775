use Rattle.ebs_laws.proofs.DiskBytes.{write-leaves, other-keeps, other-keeps-blank, read-answers, blank-reads, volume-has, new-blank, snapshot-has}
use Rattle.ebs_laws.proofs.disks.written_is_read.Goals as goal

pub returns-clause-write : goal.returns-clause-write
returns-clause-write c = write-leaves

pub returns-clause-keeps : goal.returns-clause-keeps
returns-clause-keeps c = other-keeps

pub returns-clause-keeps_blank : goal.returns-clause-keeps_blank
returns-clause-keeps_blank c = other-keeps-blank

pub returns-clause-read : goal.returns-clause-read
returns-clause-read c = read-answers

pub returns-clause-zeros : goal.returns-clause-zeros
returns-clause-zeros c = blank-reads

pub returns-clause-origin : goal.returns-clause-origin
returns-clause-origin c = volume-has

pub returns-clause-nothing : goal.returns-clause-nothing
returns-clause-nothing c = new-blank

pub returns-clause-snapshot : goal.returns-clause-snapshot
returns-clause-snapshot c = snapshot-has
