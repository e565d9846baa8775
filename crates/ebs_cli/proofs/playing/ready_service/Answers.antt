use Rattle.std.proofs.Common.{sym, subst}
use Rattle.ebs_recovery.specs.inner.Fits.{Seen, Fits}
use Rattle.ebs_opening.specs.inner.Opens.{Has, IsReadOrNew}
use Rattle.ebs_cli.proofs.playing.ready_service.Goals as goal

pub returns-in-Ok-new-clause-fits : goal.returns-in-Ok-new-clause-fits
returns-in-Ok-new-clause-fits g c = subst (Fits g.S.Promise.sound (g.D.Disk.view c.open_or_make.new.disk)) (sym c.in-Ok-new.ensures) c.in-Ok.ensures.fits

pub returns-in-Ok-new-clause-machine : goal.returns-in-Ok-new-clause-machine
returns-in-Ok-new-clause-machine g c = λ told honest m stands.
    subst (λ (s : Seen). Has (g.D.Disk.view c.open_or_make.new.disk) s m) (sym c.in-Ok-new.ensures) (c.in-Ok.ensures.machine told honest m stands)

pub returns-in-Ok-new-clause-read : goal.returns-in-Ok-new-clause-read
returns-in-Ok-new-clause-read g c = λ told. subst (IsReadOrNew (g.D.Disk.view c.args.disk.now)) (sym c.in-Ok-new.ensures) (c.in-Ok.ensures.read told)
