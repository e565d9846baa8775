use Rattle.ebs_laws.proofs.Tiered.{later-block, later-reader, later-list}
use Rattle.ebs_laws.proofs.tiers.archived_reads_again.Goals as goal

pub returns-clause-block : goal.returns-clause-block
returns-clause-block c = later-block

pub returns-clause-reader : goal.returns-clause-reader
returns-clause-reader c = later-reader

pub returns-clause-list : goal.returns-clause-list
returns-clause-list c = later-list
