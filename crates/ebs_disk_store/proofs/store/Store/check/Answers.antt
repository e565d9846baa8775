use Rattle.std.proofs.Common.{◌≡◌, true, sym, subst, ◌∙◌}
use Rattle.std.specs.Prelude.{IfOk}
use Rattle.std.specs.List.{count_by}
use Rattle.std.specs.FinMap.{entries}
use Rattle.ebs_world.specs.Image.{Everywhere}
use Rattle.ebs_world.specs.View.{View, Ran}
use Rattle.ebs_world.specs.inner.Runs.{ran_not, ran_weaker}
use Rattle.ebs_kept.specs.Stamps.{AreDigests}
use Rattle.ebs_recovery.specs.inner.Fits.{Seen, IsHeld, kept_state}
use Rattle.ebs_disk_store.specs.Checked.{IsChecked, is_damaged}
use Rattle.ebs_disk_store.proofs.Undamaged.{is_checked, nothing}
use Rattle.ebs_disk_store.proofs.store.Store.check.Goals as goal

held : (old new : View) (s : Seen) → Ran Everywhere old new → Ran (IsHeld s.slots.top) old new
held old new s = ran_weaker Everywhere (IsHeld s.slots.top) old new (λ a i here. tt)

pub returns-in_default-clause-moments : goal.returns-in_default-clause-moments
returns-in_default-clause-moments g c sound told honest =
    let v = g.D.Disk.view c.args.disk.now in
    c.fit_stays.ensures.moments c.args.disk.now c.args.disk.now c.args.self.now (ran_not (IsHeld c.args.self.now.slots.top) v (g.met.D.Disk.true_to_itself c.args.disk.now)) (c.requires.fits sound told honest)

pub returns-clause-fits : goal.returns-clause-fits
returns-clause-fits g c sound told honest =
    let ran = c.check_slots.ensures.ran in
    c.fit_stays.ensures.fit c.args.disk.now c.check_slots.new.disk c.args.self.now (held (g.D.Disk.view c.args.disk.now) (g.D.Disk.view c.check_slots.new.disk) c.args.self.now ran) (c.requires.fits sound (sym ran.told ∙ told) (sym ran.kept_honest ∙ honest))

pub returns-clause-checked : goal.returns-clause-checked
returns-clause-checked g c =
    subst (λ (s : Seen). IfOk c.check_slots.result (IsChecked (g.D.Disk.view c.args.disk.now) (kept_state s))) c.self.view_is
    (is_checked (g.D.Disk.view c.args.disk.now) _ c.in-Ok.digests c.in-Ok.ensures c.check_slots.result c.check_slots.ensures.blocks c.check_slots.ensures.few c.check_slots.ensures.damaged)

pub returns-clause-sound : goal.returns-clause-sound
returns-clause-sound g c sound told honest =
    let v = g.D.Disk.view c.args.disk.now in
    let fit = c.requires.fits sound told honest in
    nothing v c.args.self.now c.in-Ok.digests (subst (λ (s : Seen). AreDigests s.recorded c.in-Ok.digests) c.self.view_is c.in-Ok.ensures)
    (λ key index kept found. c.fit_tells.ensures.blocks c.args.disk.now c.args.self.now key index kept fit found) told c.check_slots.result
    (subst (λ (s : Seen). IfOk c.check_slots.result (λ checked. v.tells ≡ true → checked.damaged ≡ count_by (is_damaged v.reads c.in-Ok.digests) (entries s.slots.keys))) c.self.view_is c.check_slots.ensures.damaged)

pub returns-clause-moments : goal.returns-clause-moments
returns-clause-moments g c sound told honest =
    c.fit_stays.ensures.moments c.args.disk.now c.check_slots.new.disk c.args.self.now (held (g.D.Disk.view c.args.disk.now) (g.D.Disk.view c.check_slots.new.disk) c.args.self.now c.check_slots.ensures.ran) (c.requires.fits sound told honest)
