use Rattle.std.proofs.Common.{◌≤◌, ◌-◌, ◌^◌}
use Rattle.ebs_lineage.specs.Lines.{own}
use Rattle.ebs_node_rows.proofs.Entered.{IsEntered}
use Rattle.ebs_node_rows.proofs.entries.entries_of.Given as goal

abbrev pub invariant-loop-from : goal.invariant-loop-from
invariant-loop-from l = IsEntered (own l.lineage.table.nodes l.node.number) l.from l.entries × (l.from ≤ 2 ^ 32)

abbrev pub decreases-loop-from : goal.decreases-loop-from
decreases-loop-from l = 2 ^ 32 - l.from
