use Rattle.std.proofs.Common.{◌≡◌, ◌∙◌, ⊎_elim, inl, inr, refl, subst}
use Rattle.ebs_world.specs.View.{Leaves}
use Rattle.ebs_model.specs.declared.keys.Moment.{Moment}
use Rattle.ebs_model.specs.Machine.{advance}
use Rattle.ebs_recovery.specs.Made.{advanced}
use Rattle.ebs_recovery.specs.inner.Fits.{recorded, running}
use Rattle.ebs_disk_store.specs.inner.Collected.{Collects, IsAged, IsUnpassed}
use Rattle.std.specs.Prelude.{IsErr}
use Rattle.ebs_disk_store.specs.inner.Told.{at_reading}
use Rattle.ebs_disk_store.specs.inner.Turned.{MayLeave}
use Rattle.ebs_disk_store.proofs.Collects.{aged_on, collects, same_machines, not_err}
use Rattle.ebs_disk_store.proofs.Timed.{aged_running, left_on}
use Rattle.ebs_disk_store.proofs.store.Store.collect.Goals as goal

pub returns-in_default-clause-told : goal.returns-in_default-clause-told
returns-in_default-clause-told g c = subst (IsUnpassed c.args.self.now c.pass.new.self) c.moment-now.ensures.moment c.in_default.ensures.err

pub returns-in_default-clause-same : goal.returns-in_default-clause-same
returns-in_default-clause-same g c sound told honest =
    same_machines (g.D.Disk.view c.args.disk.now) (g.D.Disk.view c.pass.new.disk) c.args.self.now c.pass.new.self c.moment-now.result c.in_default.ensures.err (c.in_default.ensures.same sound told honest)

pub returns-in_default-clause-moments : goal.returns-in_default-clause-moments
returns-in_default-clause-moments g c sound told honest =
    let old = g.D.Disk.view c.args.disk.now in
    let new = g.D.Disk.view c.pass.new.disk in
    let leaves = subst (λ (now : Moment). Leaves old new (MayLeave (IsErr c.pass.result) old new c.args.self.now c.pass.new.self (advanced now))) c.moment-now.ensures.moment (c.pass.ensures.moments sound told honest) in
    left_on (IsErr c.pass.result) _ (λ err. refl) old new c.args.self.now c.pass.new.self c.pass.new.self (at_reading c.args.self.now c.args.reading) refl leaves

pub returns-clause-told : goal.returns-clause-told
returns-clause-told g c = (
  subst (Collects c.args.self.now c.look_at_all.new.self) c.moment-now.ensures.moment
      (collects c.args.self.now c.pass.new.self c.look_at_all.new.self c.moment-now.result c.in-Ok.ensures.passes c.in-Ok.ensures.slots c.in-Ok.ensures.stays c.look_at_all.ensures.sweeps),
  c.look_at_all.ensures.none,
)

pub returns-clause-aged : goal.returns-clause-aged
returns-clause-aged g c sound told honest =
    let old = g.D.Disk.view c.args.disk.now in
    let new = g.D.Disk.view c.pass.new.disk in
    let ran = c.pass.ensures.ran in
    subst (λ (now : Moment). IsAged (recorded old c.args.self.now) now (recorded new c.look_at_all.new.self)) c.moment-now.ensures.moment
    (aged_on old new c.args.self.now c.pass.new.self c.look_at_all.new.self c.moment-now.result (c.look_at_all.ensures.same sound (ran.told ∙ told) (ran.kept_honest ∙ honest)) (c.in-Ok.ensures.aged sound told honest))

pub returns-clause-machine : goal.returns-clause-machine
returns-clause-machine g c sound told honest =
    let old = g.D.Disk.view c.args.disk.now in
    let new = g.D.Disk.view c.pass.new.disk in
    let ran = c.pass.ensures.ran in
    subst (λ (now : Moment). running new c.look_at_all.new.self ≡ advance (running old c.args.self.now) now) c.moment-now.ensures.moment
    (aged_running old new c.args.self.now c.look_at_all.new.self c.moment-now.result c.moment-now.ensures.later (c.look_at_all.ensures.sweeps.clock ∙ c.in-Ok.ensures.passes.clock)
    (aged_on old new c.args.self.now c.pass.new.self c.look_at_all.new.self c.moment-now.result (c.look_at_all.ensures.same sound (ran.told ∙ told) (ran.kept_honest ∙ honest)) (c.in-Ok.ensures.aged sound told honest)))

pub returns-clause-moments : goal.returns-clause-moments
returns-clause-moments g c sound told honest =
    let old = g.D.Disk.view c.args.disk.now in
    let new = g.D.Disk.view c.pass.new.disk in
    let ran = c.pass.ensures.ran in
    let leaves = subst (λ (now : Moment). Leaves old new (MayLeave (IsErr c.pass.result) old new c.args.self.now c.pass.new.self (advanced now))) c.moment-now.ensures.moment (c.pass.ensures.moments sound told honest) in
    left_on (IsErr c.pass.result) _ (λ err. not_err c.pass.result tt c.in-Ok.is err) old new c.args.self.now c.pass.new.self c.look_at_all.new.self (at_reading c.args.self.now c.args.reading) (c.look_at_all.ensures.same sound (ran.told ∙ told) (ran.kept_honest ∙ honest)) leaves

pub returns-clause-settled : goal.returns-clause-settled
returns-clause-settled g c sound told honest =
    let ran = c.pass.ensures.ran in
    ⊎_elim (λ none. inl (c.look_at_all.ensures.sweeps.pending ∙ none)) (λ is. inr (c.look_at_all.ensures.same sound (ran.told ∙ told) (ran.kept_honest ∙ honest) ∙ is)) (c.in-Ok.ensures.settled sound told honest)
