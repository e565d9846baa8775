use Rattle.std.proofs.Common.{take}
use Rattle.ebs_recovery.specs.inner.Fits.{Fits}
use Rattle.ebs_commands.proofs.SoFar.{SoFar}
use Rattle.ebs_commands.specs.Ticks.{policy_keys}
use Rattle.ebs_commands.proofs.ticking.run_each.Given as goal

-- the policies before this place were run, and their lines were written
abbrev pub invariant-loop-id : goal.invariant-loop-id
invariant-loop-id g l = record {
  fits : Fits g.S.Promise.sound (g.D.Disk.view l.disk) l.store;
  ran : SoFar g.D.Disk.view g.S.Promise.sound l.reading (take l.id-index (policy_keys l.initial.store.recorded)) l.initial.disk l.initial.store l.disk l.store (g.O.Sink.outlet l.initial.output) (g.O.Sink.outlet l.output);
}
