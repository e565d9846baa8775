use Rattle.node_row_tests.proofs.tests.leave.Goals as goal

pub drop_node-requires : goal.drop_node-requires
drop_node-requires c = c.is_held.ensures.held c.if-is_held.true
