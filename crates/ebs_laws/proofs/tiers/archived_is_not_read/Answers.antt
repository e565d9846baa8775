use Rattle.ebs_laws.proofs.Tiered.{archived-block, archived-list, archived-first, archived-second, archived-hidden}
use Rattle.ebs_laws.proofs.tiers.archived_is_not_read.Goals as goal

pub returns-clause-block : goal.returns-clause-block
returns-clause-block c = archived-block

pub returns-clause-list : goal.returns-clause-list
returns-clause-list c = archived-list

pub returns-clause-first : goal.returns-clause-first
returns-clause-first c = archived-first

pub returns-clause-second : goal.returns-clause-second
returns-clause-second c = archived-second

pub returns-clause-others : goal.returns-clause-others
returns-clause-others c = archived-hidden
