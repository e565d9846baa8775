use Rattle.std.proofs.Common.{◌≡◌}
use Rattle.ebs_turns.specs.Known.{IsAt, IsSame}
use Rattle.ebs_server.proofs.post.serve_post.Given as goal

abbrev pub invariant-connection : goal.invariant-connection
invariant-connection g l = record {
  at : IsAt l.desk.turns.board.shared l.desk.turns.passes l.pass.inner.seat;
  same : IsSame l.fn.pass.inner.seat.me.0 l.pass.inner.seat.me.0;
  door : g.L.Listener.door l.post.listener ≡ g.L.Listener.door l.fn.post.listener;
}
