use Rattle.std.proofs.Common.{◌≡◌, inl, inr, Ok, Err, Some, refl, sym, ap, subst, ◌∙◌}
use Rattle.ebs_world.specs.Image.{Everywhere}
use Rattle.ebs_world.specs.inner.Runs.{ran_weaker}
use Rattle.ebs_world.specs.View.{View, Ran}
use Rattle.ebs_slots.specs.declared.refusal.StageRefusal.{StageRefusal}
use Rattle.ebs_model.specs.Machine.{Machine, advance}
use Rattle.ebs_recovery.specs.inner.Fits.{Seen, Fit, IsHeld, IsHeldSlot, recorded}
use Rattle.ebs_disk_store.specs.inner.Fetched.{Finds}
use Rattle.ebs_disk_store.specs.inner.Fetched as told_as
use Rattle.ebs_disk_store.proofs.Held.{fit_clock}
use Rattle.ebs_disk_store.proofs.Fetches.{LoadsAt}
use Rattle.ebs_disk_store.proofs.Fetches as lemma
use Rattle.ebs_disk_store.proofs.store.Store.load_block.Goals as goal

held : (old new : View) (s : Seen) → Ran Everywhere old new → Ran (IsHeld s.slots.top) old new
held old new s = ran_weaker Everywhere (IsHeld s.slots.top) old new (λ a i here. tt)

held_slots : (old new : View) (s : Seen) → Ran Everywhere old new → Ran (IsHeldSlot s.slots.top) old new
held_slots old new s = ran_weaker Everywhere (IsHeldSlot s.slots.top) old new (λ a i here. tt)

pub load-requires : goal.load-requires
load-requires g c = lemma.has_slot c.self.inside.slots.keys c.self.inside.kept.machine c.args.now c.args.account c.args.request.now c.args.block c.requires.fetch c.self.invariant.slotted
    (subst (λ (s : Seen). Finds (advance s.recorded c.args.now) c.args.account c.args.request.now (Ok (Some c.args.block))) (sym c.self.view_is) c.requires.finds)

pub returns-in-Ok-clause-fits : goal.returns-in-Ok-clause-fits
returns-in-Ok-clause-fits g c sound told honest =
    let old = g.D.Disk.view c.args.disk.now in
    let new = g.D.Disk.view c.load.new.disk in
    let ran = c.load.ensures.ran in
    let fit = c.fit_stays.ensures.fit c.args.disk.now c.load.new.disk c.args.self.now (held old new c.args.self.now ran) (c.requires.fits sound (sym ran.told ∙ told) (sym ran.kept_honest ∙ honest)) in
    subst (Fit new) (sym c.tick.ensures) (fit_clock new c.args.self.now c.args.now c.requires.later fit)

pub returns-in-Ok-clause-told : goal.returns-in-Ok-clause-told
returns-in-Ok-clause-told g c = lemma.told_loaded _ _ (g.D.Disk.view c.args.disk.now) c.args.self.now c.tick.new.self c.args.account c.args.now c.args.request.now c.args.block c.in-Ok.bytes c.requires.finds
    c.self.inside.slots (ap (λ (u : Seen). u.slots) c.self.view_is) c.in-Ok.ensures.read c.tick.ensures

pub returns-in-Ok-clause-step : goal.returns-in-Ok-clause-step
returns-in-Ok-clause-step g c sound told honest =
    let old = g.D.Disk.view c.args.disk.now in
    let new = g.D.Disk.view c.load.new.disk in
    let s = c.args.self.now in
    let t = c.tick.new.self in
    let fit = c.requires.fits sound told honest in
    let machine : recorded new t ≡ recorded old s = c.fit_stays.ensures.machine c.args.disk.now c.load.new.disk s t fit (held_slots old new s c.load.ensures.ran) (ap (λ (u : Seen). u.recorded) c.tick.ensures) (ap (λ (u : Seen). u.slots.keys) c.tick.ensures) in
    lemma.turn_loaded old (g.met.D.Disk.true_to_itself c.args.disk.now) c.kept_form.ensures.acts c.kept_form.ensures.ages s fit c.args.now c.args.account c.args.request.now c.requires.fetch
    new t machine (ap (λ (u : Seen). u.clock) c.tick.ensures) c.args.block c.in-Ok.bytes c.requires.finds
    (subst (λ (s : Seen). LoadsAt old s.slots c.args.block (Ok c.in-Ok.bytes)) c.self.view_is (subst (LoadsAt old c.self.inside.slots c.args.block) c.in-Ok.is c.load.ensures.exact))

pub returns-in-Ok-clause-moments : goal.returns-in-Ok-clause-moments
returns-in-Ok-clause-moments g c sound told honest =
    let old = g.D.Disk.view c.args.disk.now in
    let new = g.D.Disk.view c.load.new.disk in
    c.fit_stays.ensures.moments c.args.disk.now c.load.new.disk c.args.self.now (held old new c.args.self.now c.load.ensures.ran) (c.requires.fits sound told honest)

pub returns-in-Err-DiskFailed-clause-fits : goal.returns-in-Err-DiskFailed-clause-fits
returns-in-Err-DiskFailed-clause-fits g c sound told honest =
    let ran = c.load.ensures.ran in
    c.fit_stays.ensures.fit c.args.disk.now c.load.new.disk c.args.self.now (held (g.D.Disk.view c.args.disk.now) (g.D.Disk.view c.load.new.disk) c.args.self.now ran) (c.requires.fits sound (sym ran.told ∙ told) (sym ran.kept_honest ∙ honest))

pub returns-in-Err-DiskFailed-clause-told : goal.returns-in-Err-DiskFailed-clause-told
returns-in-Err-DiskFailed-clause-told g c = told_as.unavailable c.args.block.digest (c.load.ensures.cause (c.in-Err-DiskFailed.is ∙ ap (λ (r : StageRefusal). Err r) c.in-Err-DiskFailed.field-0-is)) c.requires.finds.0 refl

pub returns-in-Err-DiskFailed-clause-step : goal.returns-in-Err-DiskFailed-clause-step
returns-in-Err-DiskFailed-clause-step g c sound told honest =
    let old = g.D.Disk.view c.args.disk.now in
    let new = g.D.Disk.view c.load.new.disk in
    let s = c.args.self.now in
    let machine : recorded new s ≡ recorded old s = c.fit_stays.ensures.machine c.args.disk.now c.load.new.disk s s (c.requires.fits sound told honest) (held_slots old new s c.load.ensures.ran) refl refl in
    inr (inl refl, ap (λ (m : Machine). advance m s.clock) machine, machine)

pub returns-in-Err-DiskFailed-clause-moments : goal.returns-in-Err-DiskFailed-clause-moments
returns-in-Err-DiskFailed-clause-moments g c sound told honest =
    c.fit_stays.ensures.moments c.args.disk.now c.load.new.disk c.args.self.now (held (g.D.Disk.view c.args.disk.now) (g.D.Disk.view c.load.new.disk) c.args.self.now c.load.ensures.ran) (c.requires.fits sound told honest)

pub returns-in-Err-Memory-clause-fits : goal.returns-in-Err-Memory-clause-fits
returns-in-Err-Memory-clause-fits g c sound told honest =
    let ran = c.load.ensures.ran in
    c.fit_stays.ensures.fit c.args.disk.now c.load.new.disk c.args.self.now (held (g.D.Disk.view c.args.disk.now) (g.D.Disk.view c.load.new.disk) c.args.self.now ran) (c.requires.fits sound (sym ran.told ∙ told) (sym ran.kept_honest ∙ honest))

pub returns-in-Err-Memory-clause-told : goal.returns-in-Err-Memory-clause-told
returns-in-Err-Memory-clause-told g c = told_as.memory (c.load.ensures.still (c.in-Err-Memory.is ∙ ap (λ (r : StageRefusal). Err r) c.in-Err-Memory.field-0-is)) refl

pub returns-in-Err-Memory-clause-step : goal.returns-in-Err-Memory-clause-step
returns-in-Err-Memory-clause-step g c sound told honest =
    let old = g.D.Disk.view c.args.disk.now in
    let new = g.D.Disk.view c.load.new.disk in
    let s = c.args.self.now in
    let machine : recorded new s ≡ recorded old s = c.fit_stays.ensures.machine c.args.disk.now c.load.new.disk s s (c.requires.fits sound told honest) (held_slots old new s c.load.ensures.ran) refl refl in
    inr (inr refl, ap (λ (m : Machine). advance m s.clock) machine, machine)

pub returns-in-Err-Memory-clause-moments : goal.returns-in-Err-Memory-clause-moments
returns-in-Err-Memory-clause-moments g c sound told honest =
    c.fit_stays.ensures.moments c.args.disk.now c.load.new.disk c.args.self.now (held (g.D.Disk.view c.args.disk.now) (g.D.Disk.view c.load.new.disk) c.args.self.now c.load.ensures.ran) (c.requires.fits sound told honest)
