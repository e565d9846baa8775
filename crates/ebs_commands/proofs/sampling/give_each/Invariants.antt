use Rattle.std.proofs.Common.{◌≤◌, Ok, take}
use Rattle.ebs_recovery.specs.inner.Fits.{Fits}
use Rattle.ebs_commands.specs.inner.Samples.{GivesAll}
use Rattle.ebs_commands.proofs.sampling.give_each.Given as goal

-- the calls before this place were given
abbrev pub invariant-loop-asked : goal.invariant-loop-asked
invariant-loop-asked g l = record {
  fits : Fits g.S.Promise.sound (g.D.Disk.view l.disk) l.store;
  few : l.accepted ≤ l.asked-index;
  given : GivesAll g.D.Disk.view g.S.Promise.sound (Ok l.accepted) (take l.asked-index l.calls) l.initial.disk l.initial.store l.disk l.store;
}
