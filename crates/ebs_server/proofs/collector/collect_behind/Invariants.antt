use Rattle.ebs_turns.specs.Known.{IsAt, IsSame}
use Rattle.ebs_server.proofs.collector.collect_behind.Given as goal

abbrev pub invariant-round : goal.invariant-round
invariant-round g l = record { at : IsAt l.desk.turns.board.shared l.desk.turns.passes l.pass.inner.seat; same : IsSame l.fn.pass.inner.seat.me.0 l.pass.inner.seat.me.0 }
