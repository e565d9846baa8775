use Rattle.std.proofs.Common.{◌∙◌, sym, subst, ap, not}
use Rattle.ebs_world.specs.View.{Leaves}
use Rattle.ebs_world.specs.inner.Runs.{ran_not}
use Rattle.ebs_recovery.specs.inner.Fits.{Seen, Fit, IsHeld, StandsForOne}
use Rattle.ebs_disk_store.proofs.Gates.{fit_mended, fit_unmended, while_mended}
use Rattle.ebs_disk_store.proofs.store.Store.mend.Goals as goal

pub returns-in_default-clause-fits : goal.returns-in_default-clause-fits
returns-in_default-clause-fits g c sound told honest =
    let old = g.D.Disk.view c.args.disk.now in
    let ran = c.mend.ensures.ran in
    let fit = subst (Fit old) (sym c.self.view_is) (c.requires.fits sound (sym ran.told ∙ told) (sym ran.kept_honest ∙ honest)) in
    fit_unmended old _ ran _ (c.is_none.ensures ∙ ap not c.if-is_none.false) fit _ c.in_default.ensures.err c.in_default.ensures.still c.in_default.ensures.still_turning

pub returns-in_default-clause-same : goal.returns-in_default-clause-same
returns-in_default-clause-same g c sound told honest =
    c.fit_stays.ensures.machine c.args.disk.now c.mend.new.disk c.args.self.now (record c.args.self.now { recorded = c.self.inside.kept.machine; slots = c.self.inside.slots }) (c.requires.fits sound told honest)
    (c.held_is_kept.ensures.journal c.args.disk.now c.mend.new.disk c.args.self.now.slots.top c.mend.ensures.ran)
    (ap (λ (s : Seen). s.recorded) c.self.view_is) (ap (λ (s : Seen). s.slots.keys) c.self.view_is)

pub returns-in_default-clause-moments : goal.returns-in_default-clause-moments
returns-in_default-clause-moments g c sound told honest =
    let old = g.D.Disk.view c.args.disk.now in
    let fit = subst (Fit old) (sym c.self.view_is) (c.requires.fits sound told honest) in
    subst (λ (s : Seen). Leaves old (g.D.Disk.view c.mend.new.disk) (StandsForOne old s)) c.self.view_is
    (while_mended old _ c.mend.ensures.ran _ (c.is_none.ensures ∙ ap not c.if-is_none.false) fit (c.moments_stand.ensures.mended c.args.disk.now c.mend.new.disk) (c.doubt_is_told.ensures c.args.disk.now c.mend.new.disk) c.mend.ensures.any_moment c.mend.ensures.turning_moments)

pub returns-clause-fits : goal.returns-clause-fits
returns-clause-fits g c sound told honest =
    let old = g.D.Disk.view c.args.disk.now in
    let ran = c.mend.ensures.ran in
    let fit = subst (Fit old) (sym c.self.view_is) (c.requires.fits sound (sym ran.told ∙ told) (sym ran.kept_honest ∙ honest)) in
    fit_mended old _ ran _ (c.is_none.ensures ∙ ap not c.if-is_none.false) fit (c.outcomes_fit.ensures.closed c.args.disk.now c.mend.new.disk) _ c.in-Ok.ensures.ok c.in-Ok.ensures.mended c.in-Ok.ensures.turned_back

pub returns-clause-same : goal.returns-clause-same
returns-clause-same g c sound told honest =
    c.fit_stays.ensures.machine c.args.disk.now c.mend.new.disk c.args.self.now (record c.args.self.now { recorded = c.self.inside.kept.machine; slots = c.self.inside.slots }) (c.requires.fits sound told honest)
    (c.held_is_kept.ensures.journal c.args.disk.now c.mend.new.disk c.args.self.now.slots.top c.mend.ensures.ran)
    (ap (λ (s : Seen). s.recorded) c.self.view_is) (ap (λ (s : Seen). s.slots.keys) c.self.view_is)

pub returns-clause-moments : goal.returns-clause-moments
returns-clause-moments g c sound told honest =
    let old = g.D.Disk.view c.args.disk.now in
    let fit = subst (Fit old) (sym c.self.view_is) (c.requires.fits sound told honest) in
    subst (λ (s : Seen). Leaves old (g.D.Disk.view c.mend.new.disk) (StandsForOne old s)) c.self.view_is
    (while_mended old _ c.mend.ensures.ran _ (c.is_none.ensures ∙ ap not c.if-is_none.false) fit (c.moments_stand.ensures.mended c.args.disk.now c.mend.new.disk) (c.doubt_is_told.ensures c.args.disk.now c.mend.new.disk) c.mend.ensures.any_moment c.mend.ensures.turning_moments)

pub returns-then-is_none-clause-moments : goal.returns-then-is_none-clause-moments
returns-then-is_none-clause-moments g c sound told honest =
    c.fit_stays.ensures.moments c.args.disk.now c.args.disk.now c.args.self.now
    (ran_not (IsHeld c.args.self.now.slots.top) (g.D.Disk.view c.args.disk.now) (g.met.D.Disk.true_to_itself c.args.disk.now)) (c.requires.fits sound told honest)
