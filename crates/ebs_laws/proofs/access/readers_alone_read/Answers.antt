use Rattle.ebs_laws.proofs.Seen.{block-readers, list-readers, comparison-readers, parent-readers}
use Rattle.ebs_laws.proofs.VolumeMade.{origin-readers}
use Rattle.ebs_laws.proofs.access.readers_alone_read.Goals as goal

pub returns-clause-block : goal.returns-clause-block
returns-clause-block c = block-readers

pub returns-clause-list : goal.returns-clause-list
returns-clause-list c = list-readers

pub returns-clause-comparison : goal.returns-clause-comparison
returns-clause-comparison c = comparison-readers

pub returns-clause-parent : goal.returns-clause-parent
returns-clause-parent c = parent-readers

pub returns-clause-origin : goal.returns-clause-origin
returns-clause-origin c = origin-readers
