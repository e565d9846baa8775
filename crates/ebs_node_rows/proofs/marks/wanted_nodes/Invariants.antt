use Rattle.ebs_node_rows.proofs.Marking.{IsMarking}
use Rattle.ebs_node_rows.proofs.marks.wanted_nodes.Given as goal

abbrev pub invariant-loop-number : goal.invariant-loop-number
invariant-loop-number l = IsMarking l.lineage.table.nodes l.named l.number l.wanted

abbrev pub decreases-loop-number : goal.decreases-loop-number
decreases-loop-number l = l.number
