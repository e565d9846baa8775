use Rattle.ebs_node_rows.specs.Rows.{AreWritten}
use Rattle.ebs_node_rows.proofs.rows.rows_where.Given as goal

abbrev pub invariant-loop-number : goal.invariant-loop-number
invariant-loop-number l = AreWritten l.lineage.table.nodes l.wanted l.number l.rows
