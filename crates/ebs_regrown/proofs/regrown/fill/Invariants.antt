use Rattle.std.proofs.Common.{drop}
use Rattle.ebs_regrown.proofs.Filling.{IsFilling}
use Rattle.ebs_regrown.proofs.regrown.fill.Given as goal

abbrev pub invariant-loop-entry : goal.invariant-loop-entry
invariant-loop-entry l = IsFilling l.initial.lineage l.node.number l.entries (drop l.entry-index l.entries) l.lineage
