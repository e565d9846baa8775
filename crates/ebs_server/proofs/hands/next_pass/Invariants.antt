use Rattle.ebs_server.specs.Hands.{IsReady}
use Rattle.ebs_server.proofs.hands.next_pass.Given as goal

abbrev pub invariant-split : goal.invariant-split
invariant-split g l = IsReady l.desk.turns.board.shared l.desk.turns.passes l.first.inner.seat
