use Rattle.std.proofs.Common.{sym, subst}
use Rattle.ebs_recovery.specs.inner.Fits.{Fit}
use Rattle.ebs_disk_store.proofs.Staged.{fit_abandoned}
use Rattle.ebs_disk_store.proofs.store.Store.abandon_put.Goals as goal

pub returns-clause-fits : goal.returns-clause-fits
returns-clause-fits g c sound told honest =
    let v = g.D.Disk.view c.args.disk.now in
    let fit = subst (Fit v) (sym c.self.view_is) (c.requires.fits sound told honest) in
    fit_abandoned v _ c.abandon.new.self c.args.lease.slot c.abandon.ensures (c.slots_fit.ensures.abandoned c.args.disk.now _ c.args.lease.slot fit)
