use Rattle.std.proofs.Common.{◌≡◌, None, refl, ◌∙◌, sym, subst, ap}
use Rattle.ebs_world.specs.declared.area.Area.TheVariants.{Blocks}
use Rattle.ebs_world.specs.View.{Leaves}
use Rattle.ebs_world.specs.inner.Runs.{leaves_weaker, ran_weaker}
use Rattle.ebs_slots.specs.Slots.{OffSlot}
use Rattle.ebs_slots.specs.inner.Standing.{RanOffOne}
use Rattle.ebs_recovery.specs.inner.Fits.{Seen, Fit, StandsForOne, for_recorded, recorded}
use Rattle.ebs_recovery.specs.inner.FitLaws.{IsOtherSlot}
use Rattle.ebs_disk_store.specs.inner.Shown.{shown}
use Rattle.ebs_disk_store.proofs.Staged.{area_is, wrote, one_ran, fit_staged, kept_table, keys_staged, sound_with}
use Rattle.ebs_disk_store.proofs.store.Store.stage.Goals as goal

pub returns-clause-fits : goal.returns-clause-fits
returns-clause-fits g c sound told honest =
    let old = g.D.Disk.view c.args.disk.now in
    let new = g.D.Disk.view c.stage.new.disk in
    let e = c.stage.ensures in
    let s = shown c.self.inside in
    let settled = subst (λ (s : Seen). s.pending ≡ None) (sym c.self.view_is) c.requires.settled in
    let area = area_is c.self.inside.slots.area c.self.invariant.area in
    let ran = one_ran old new s c.stage.new.self c.args.block.now settled area c.stage.result e.next e.ran e.err_ran in
    let fit = subst (Fit old) (sym c.self.view_is) (c.requires.fits sound (sym ran.ran.told ∙ told) (sym ran.ran.kept_honest ∙ honest)) in
    fit_staged old new s c.stage.new.self c.args.block.now settled area c.stage.result (c.slots_fit.ensures.staged c.args.disk.now c.stage.new.disk) (c.writing_fits.ensures.fit c.args.disk.now c.stage.new.disk)
    fit e.next e.digest e.ok e.block e.ran e.err e.err_ran

pub returns-clause-same : goal.returns-clause-same
returns-clause-same g c sound told honest =
    let old = g.D.Disk.view c.args.disk.now in
    let new = g.D.Disk.view c.stage.new.disk in
    let e = c.stage.ensures in
    let s = shown c.self.inside in
    let settled = subst (λ (s : Seen). s.pending ≡ None) (sym c.self.view_is) c.requires.settled in
    let area = area_is c.self.inside.slots.area c.self.invariant.area in
    let fit = subst (Fit old) (sym c.self.view_is) (c.requires.fits sound told honest) in
    let writes = wrote old new s c.stage.new.self c.args.block.now settled area c.stage.result e.next e.ran e.err_ran in
    let off = ran_weaker (OffSlot Blocks writes.0) (IsOtherSlot writes.0) old new (λ a i here. here.1) writes.1.ran in
    c.writing_fits.ensures.machine c.args.disk.now c.stage.new.disk s (record c.args.self.now { recorded = c.self.inside.kept.machine; slots = c.stage.new.self }) writes.0 writes.1.free off fit
    refl (keys_staged old new s c.stage.new.self c.args.block.now settled area c.stage.result e.ok e.err)
    ∙ ap (recorded old) c.self.view_is

pub returns-clause-moments : goal.returns-clause-moments
returns-clause-moments g c sound told honest =
    let old = g.D.Disk.view c.args.disk.now in
    let new = g.D.Disk.view c.stage.new.disk in
    let e = c.stage.ensures in
    let s = shown c.self.inside in
    let settled = subst (λ (s : Seen). s.pending ≡ None) (sym c.self.view_is) c.requires.settled in
    let area = area_is c.self.inside.slots.area c.self.invariant.area in
    let fit = subst (Fit old) (sym c.self.view_is) (c.requires.fits sound told honest) in
    let writes = wrote old new s c.stage.new.self c.args.block.now settled area c.stage.result e.next e.ran e.err_ran in
    subst (λ (s : Seen). Leaves old new (StandsForOne old s)) c.self.view_is
    (leaves_weaker old new _ _ (λ i stands. for_recorded stands) (c.writing_fits.ensures.moments c.args.disk.now c.stage.new.disk s writes.0 writes.1 fit))

pub returns-clause-ran : goal.returns-clause-ran
returns-clause-ran g c =
    let old = g.D.Disk.view c.args.disk.now in
    let new = g.D.Disk.view c.stage.new.disk in
    let e = c.stage.ensures in
    let s = shown c.self.inside in
    let settled = subst (λ (s : Seen). s.pending ≡ None) (sym c.self.view_is) c.requires.settled in
    let area = area_is c.self.inside.slots.area c.self.invariant.area in
    subst (λ (s : Seen). RanOffOne s.slots old new) c.self.view_is (one_ran old new s c.stage.new.self c.args.block.now settled area c.stage.result e.next e.ran e.err_ran)

pub invariant_of-self : goal.invariant_of-self
invariant_of-self g c =
    let kept = kept_table c.self.inside.slots c.stage.new.self c.stage.result c.stage.ensures.ok c.stage.ensures.err in
    sound_with (shown c.self.inside) _ c.stage.new.self c.self.invariant kept.0 kept.1 kept.2
