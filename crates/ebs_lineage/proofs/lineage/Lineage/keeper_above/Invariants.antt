use Rattle.std.proofs.Common.{◌≡◌}
use Rattle.ebs_lineage.specs.Lines.{parent_of}
use Rattle.ebs_lineage.specs.Live.{owner, owner_above}
use Rattle.ebs_lineage.proofs.Arrays.{steps}
use Rattle.ebs_lineage.proofs.lineage.Lineage.keeper_above.Given as goal

abbrev pub invariant-loop-at : goal.invariant-loop-at
invariant-loop-at l = owner_above l.at (owner l.self.table.nodes l.index) ≡ owner_above (parent_of l.self.table.nodes l.fn.node.number) (owner l.self.table.nodes l.index)

abbrev pub decreases-loop-at : goal.decreases-loop-at
decreases-loop-at l = steps l.at
