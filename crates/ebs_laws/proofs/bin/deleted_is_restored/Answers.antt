use Rattle.ebs_laws.proofs.Binned.{deletion-bins, binned-restored, deleted-restored}
use Rattle.ebs_laws.proofs.bin.deleted_is_restored.Goals as goal

pub returns-clause-binned : goal.returns-clause-binned
returns-clause-binned c = deletion-bins

pub returns-clause-whole : goal.returns-clause-whole
returns-clause-whole c = binned-restored

pub returns-clause-run : goal.returns-clause-run
returns-clause-run c = deleted-restored
