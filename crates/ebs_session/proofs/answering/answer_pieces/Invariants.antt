use Rattle.std.proofs.Common.{◌≡◌, ◌<◌, length}
use Rattle.ebs_session.specs.inner.Progress.{IsServed}
use Rattle.ebs_session.proofs.Endings.{Progress}
use Rattle.ebs_session.proofs.answering.answer_pieces.Given as goal

abbrev pub invariant-piece : goal.invariant-piece
invariant-piece g l = record {
  ready : g.R.Responder.ready l.responder l.world;
  progress : Progress g.R.Responder.replies l.initial.limit (g.I.Source.inlet l.initial.input).left (g.I.Source.inlet l.input).left (g.O.Sink.outlet l.initial.output).written (g.O.Sink.outlet l.output).written
      (g.K.Clock.ticks l.initial.clock).readings (g.K.Clock.ticks l.clock).readings l.initial.responder l.initial.world l.responder l.world l.framer.bytes l.left;
  served : IsServed l.framer.bytes;
  room : 0 < length l.room.items;
  input : (g.I.Source.inlet l.input).faults ≡ (g.I.Source.inlet l.initial.input).faults;
  output : (g.O.Sink.outlet l.output).faults ≡ (g.O.Sink.outlet l.initial.output).faults;
}

abbrev pub decreases-piece : goal.decreases-piece
decreases-piece g l = l.left
