use Rattle.std.proofs.Common.{subst}
use Rattle.ebs_recovery.specs.inner.Fits.{Fits, Seen}
use Rattle.ebs_commands.proofs.making.make_alone.Goals as goal

pub returns-in-Ok-clause-made : goal.returns-in-Ok-clause-made
returns-in-Ok-clause-made g c = record {
  unmarked = c.in-Ok.ensures.unmarked;
  journal = c.in-Ok.store.journal;
  fits = subst (λ (s : Seen). Fits g.S.Promise.sound (g.D.Disk.view c.make.new.disk) s) c.in-Ok.ensures.store c.in-Ok.ensures.fits;
}
