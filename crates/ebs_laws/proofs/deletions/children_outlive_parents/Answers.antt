use Rattle.ebs_laws.proofs.Deleted.{deletion-others, child-whole, child-bytes}
use Rattle.ebs_laws.proofs.BinChildren.{restore-others, child-outlives, child-throughout}
use Rattle.ebs_laws.proofs.deletions.children_outlive_parents.Goals as goal

pub returns-clause-others : goal.returns-clause-others
returns-clause-others c = deletion-others

pub returns-clause-children : goal.returns-clause-children
returns-clause-children c = child-whole

pub returns-clause-bytes : goal.returns-clause-bytes
returns-clause-bytes c = child-bytes

pub returns-clause-restored : goal.returns-clause-restored
returns-clause-restored c = restore-others

pub returns-clause-end : goal.returns-clause-end
returns-clause-end c = child-outlives

pub returns-clause-throughout : goal.returns-clause-throughout
returns-clause-throughout c = child-throughout
