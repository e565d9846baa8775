use Rattle.ebs_node_rows.specs.Marks.{AreThere}
use Rattle.node_row_tests.proofs.tests.held_below.Given as goal

abbrev pub invariant-loop-number : goal.invariant-loop-number
invariant-loop-number l = AreThere l.lineage.table.nodes l.held
