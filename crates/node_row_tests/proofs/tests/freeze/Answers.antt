use Rattle.node_row_tests.proofs.tests.freeze.Goals as goal

pub freeze-requires-clause-is_open : goal.freeze-requires-clause-is_open
freeze-requires-clause-is_open c = c.is_open.ensures.is_open c.if-not-is_open.false
