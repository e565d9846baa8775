use Rattle.ebs_laws.proofs.Fields.{list-each}
use Rattle.ebs_laws.proofs.lists.list_has_each_block.Goals as goal

pub returns : goal.returns
returns c = list-each
