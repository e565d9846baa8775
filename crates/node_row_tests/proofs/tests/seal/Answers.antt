use Rattle.node_row_tests.proofs.tests.seal.Goals as goal

pub seal-requires : goal.seal-requires
seal-requires c = c.is_open.ensures.is_open c.if-is_open.true
