use Rattle.std.proofs.Common.{◌≡◌, subst}
use Rattle.ebs_desk.specs.Calls.{Closed}
use Rattle.ebs_server.proofs.working.serve_store.Goals as goal

pub returns-in-Ok-clause-left : goal.returns-in-Ok-clause-left
returns-in-Ok-clause-left g c = record {
  line = c.serve_at-kept.result.0.inner.seat.me.0.seen;
  last = c.disk_of.ensures.0;
  closed = subst (λ first. Closed g.S.Promise.sound g.D.Disk.view first c.serve_at-kept.result.0.inner.seat.me.0.seen c.disk_of.ensures.0 c.disk_of.result) c.in-Ok.ensures.ok.1.first c.disk_of.ensures.1;
}
