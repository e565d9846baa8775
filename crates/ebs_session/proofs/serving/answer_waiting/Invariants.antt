use Rattle.std.proofs.Common.{◌≡◌, ◌≤◌, length}
use Rattle.ebs_session.specs.inner.Progress.{Served}
use Rattle.ebs_session.specs.declared.end.End.TheVariants.{Done}
use Rattle.ebs_session.proofs.serving.answer_waiting.Given as goal

abbrev pub invariant-message : goal.invariant-message
invariant-message g l = record {
  ready : g.R.Responder.ready l.responder l.world;
  served : Served g.R.Responder.replies Done l.initial.framer.bytes l.framer.bytes l.initial.responder l.initial.world l.responder l.world
      (g.O.Sink.outlet l.initial.output).written (g.O.Sink.outlet l.output).written (g.K.Clock.ticks l.initial.clock).readings (g.K.Clock.ticks l.clock).readings;
  waits : length l.framer.bytes ≤ l.taken;
  quiet : (g.O.Sink.outlet l.output).faults ≡ (g.O.Sink.outlet l.initial.output).faults;
}

abbrev pub decreases-message : goal.decreases-message
decreases-message g l = length l.framer.bytes
