use Rattle.node_row_tests.proofs.tests.put.Goals as goal

pub put-requires : goal.put-requires
put-requires c = c.is_open.ensures.is_open c.if-is_open.true
