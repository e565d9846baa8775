use Rattle.ebs_laws.proofs.Answered.{reader-block, reader-list, reader-compares}
use Rattle.ebs_laws.proofs.access.readers_are_answered.Goals as goal

pub returns-clause-block : goal.returns-clause-block
returns-clause-block c = reader-block

pub returns-clause-list : goal.returns-clause-list
returns-clause-list c = reader-list

pub returns-clause-comparison : goal.returns-clause-comparison
returns-clause-comparison c = reader-compares
