use Rattle.std.proofs.Common.{◌≡◌, Ok, refl, sym, ap, subst, ◌∙◌}
use Rattle.std.specs.declared.option.Option.{Option}
use Rattle.ebs_model.specs.Quotas.{Rose}
use Rattle.ebs_world.specs.inner.Runs.{ran_not}
use Rattle.ebs_model.specs.declared.keys.Moment.{Moment}
use Rattle.ebs_model.specs.declared.array.Block.{Block}
use Rattle.ebs_model.specs.declared.answer.Answer.TheVariants.{ZeroBlockRead}
use Rattle.ebs_model.specs.Machine.{advance}
use Rattle.ebs_recovery.specs.inner.Fits.{Seen, Fit, IsHeld, recorded}
use Rattle.ebs_disk_store.specs.inner.Turned.{TurnAt, kept_call}
use Rattle.ebs_disk_store.specs.inner.Fetched.{Finds, Fetched, answer_of, zeros}
use Rattle.ebs_disk_store.proofs.Held.{fit_clock}
use Rattle.ebs_disk_store.proofs.Turns.{fit_failed, turn_reading}
use Rattle.ebs_disk_store.proofs.Fetches as lemma
use Rattle.ebs_kept.specs.inner.Wants.{MayRunOut}
use Rattle.ebs_disk_store.proofs.Wants.{answered, failed_wants, finds_wants}
use Rattle.ebs_disk_store.proofs.store.Store.load.Goals as goal

pub returns-in-Ok-Some-clause-step : goal.returns-in-Ok-Some-clause-step
returns-in-Ok-Some-clause-step g c sound told honest =
    let old = g.D.Disk.view c.args.disk.now in
    let new = g.D.Disk.view c.load_block.new.disk in
    turn_reading old new c.args.self.now c.load_block.new.self c.args.account c.args.reading c.args.request.now (answer_of c.load_block.result)
    (subst (λ (now : Moment). TurnAt old new c.args.self.now c.load_block.new.self c.args.account now c.args.request.now (answer_of c.load_block.result)) c.moment-now.ensures.moment (c.load_block.ensures.step sound told honest))

pub returns-in-Ok-Some-clause-told : goal.returns-in-Ok-Some-clause-told
returns-in-Ok-Some-clause-told g c =
    let old = g.D.Disk.view c.args.disk.now in
    let new = g.D.Disk.view c.load_block.new.disk in
    subst (λ (now : Moment). Fetched (c.load_block.new.disk ≡ c.args.disk.now) (Rose old.faults new.faults) old c.args.self.now c.load_block.new.self c.args.account now c.args.request.now (answer_of c.load_block.result))
    c.moment-now.ensures.moment c.load_block.ensures.told

pub returns-in-Ok-None-clause-fits : goal.returns-in-Ok-None-clause-fits
returns-in-Ok-None-clause-fits g c sound told honest = subst (Fit (g.D.Disk.view c.args.disk.now)) (sym c.tick.ensures)
    (fit_clock (g.D.Disk.view c.args.disk.now) c.args.self.now c.moment-now.result c.moment-now.ensures.later (c.requires.fits sound told honest))

pub returns-in-Ok-None-clause-told : goal.returns-in-Ok-None-clause-told
returns-in-Ok-None-clause-told g c =
    let v = g.D.Disk.view c.args.disk.now in
    let finds = subst (Finds (advance c.args.self.now.recorded c.moment-now.result) c.args.account c.args.request.now) (c.in-Ok-None.is ∙ ap (λ (o : Option Block). Ok o) c.in-Ok-None.field-0-is) c.find.ensures in
    subst (λ (now : Moment). Fetched (c.args.disk.now ≡ c.args.disk.now) (Rose v.faults v.faults) v c.args.self.now c.tick.new.self c.args.account now c.args.request.now ZeroBlockRead) c.moment-now.ensures.moment
    (zeros finds c.tick.ensures refl)

pub returns-in-Ok-None-clause-step : goal.returns-in-Ok-None-clause-step
returns-in-Ok-None-clause-step g c sound told honest =
    let v = g.D.Disk.view c.args.disk.now in
    let finds = subst (Finds (advance c.args.self.now.recorded c.moment-now.result) c.args.account c.args.request.now) (c.in-Ok-None.is ∙ ap (λ (o : Option Block). Ok o) c.in-Ok-None.field-0-is) c.find.ensures in
    turn_reading v v c.args.self.now c.tick.new.self c.args.account c.args.reading c.args.request.now ZeroBlockRead
    (subst (λ (now : Moment). TurnAt v v c.args.self.now c.tick.new.self c.args.account now c.args.request.now ZeroBlockRead) c.moment-now.ensures.moment
    (lemma.turn_zeros v (g.met.D.Disk.true_to_itself c.args.disk.now) c.kept_form.ensures.acts c.kept_form.ensures.ages c.args.self.now (c.requires.fits sound told honest) c.moment-now.result c.args.account
    c.args.request.now c.requires.fetch v c.tick.new.self (ap (recorded v) c.tick.ensures) (ap (λ (u : Seen). u.clock) c.tick.ensures) finds))

pub returns-in-Ok-None-clause-moments : goal.returns-in-Ok-None-clause-moments
returns-in-Ok-None-clause-moments g c sound told honest =
    let v = g.D.Disk.view c.args.disk.now in
    c.fit_stays.ensures.moments c.args.disk.now c.args.disk.now c.args.self.now (ran_not (IsHeld c.args.self.now.slots.top) v (g.met.D.Disk.true_to_itself c.args.disk.now)) (c.requires.fits sound told honest)

pub returns-in-Err-clause-fits : goal.returns-in-Err-clause-fits
returns-in-Err-clause-fits g c sound told honest = fit_failed _ c.args.self.now _ c.moment-now.result c.in-Err.failure c.fail.result c.moment-now.ensures.later c.fail.ensures (c.requires.fits sound told honest)

pub returns-in-Err-clause-told : goal.returns-in-Err-clause-told
returns-in-Err-clause-told g c =
    let v = g.D.Disk.view c.args.disk.now in
    let finds = subst (Finds (advance c.args.self.now.recorded c.moment-now.result) c.args.account c.args.request.now) c.in-Err.is c.find.ensures in
    subst (λ (now : Moment). Fetched (c.args.disk.now ≡ c.args.disk.now) (Rose v.faults v.faults) v c.args.self.now c.fail.new.self c.args.account now c.args.request.now c.fail.result) c.moment-now.ensures.moment
    (lemma.told_failed _ _ v c.args.self.now c.fail.new.self c.args.account c.moment-now.result c.args.request.now c.in-Err.failure c.fail.result finds c.fail.ensures refl)

pub returns-in-Err-clause-step : goal.returns-in-Err-clause-step
returns-in-Err-clause-step g c sound told honest =
    let v = g.D.Disk.view c.args.disk.now in
    let finds = subst (Finds (advance c.args.self.now.recorded c.moment-now.result) c.args.account c.args.request.now) c.in-Err.is c.find.ensures in
    turn_reading v v c.args.self.now c.fail.new.self c.args.account c.args.reading c.args.request.now c.fail.result
    (subst (λ (now : Moment). TurnAt v v c.args.self.now c.fail.new.self c.args.account now c.args.request.now c.fail.result) c.moment-now.ensures.moment
    (lemma.turn_failed v (g.met.D.Disk.true_to_itself c.args.disk.now) c.kept_form.ensures.acts c.kept_form.ensures.ages c.args.self.now (c.requires.fits sound told honest) c.moment-now.result c.args.account
    c.args.request.now c.requires.fetch c.fail.new.self c.in-Err.failure c.fail.result finds c.fail.ensures))

pub returns-in-Err-clause-moments : goal.returns-in-Err-clause-moments
returns-in-Err-clause-moments g c sound told honest =
    let v = g.D.Disk.view c.args.disk.now in
    c.fit_stays.ensures.moments c.args.disk.now c.args.disk.now c.args.self.now (ran_not (IsHeld c.args.self.now.slots.top) v (g.met.D.Disk.true_to_itself c.args.disk.now)) (c.requires.fits sound told honest)

pub returns-in-Ok-Some-clause-memory : goal.returns-in-Ok-Some-clause-memory
returns-in-Ok-Some-clause-memory g c =
    let finds = subst (Finds (advance c.args.self.now.recorded c.moment-now.result) c.args.account c.args.request.now) (c.in-Ok-Some.is ∙ ap (λ (o : Option Block). Ok o) c.in-Ok-Some.field-0-is) c.find.ensures in
    λ _. subst (λ (now : Moment). MayRunOut (kept_call (advance c.args.self.now.recorded now) c.args.account c.args.request.now)) c.moment-now.ensures.moment (answered (kept_call (advance c.args.self.now.recorded c.moment-now.result) c.args.account c.args.request.now) _ finds.0)

pub returns-in-Ok-None-clause-memory : goal.returns-in-Ok-None-clause-memory
returns-in-Ok-None-clause-memory g c =
    let finds = subst (Finds (advance c.args.self.now.recorded c.moment-now.result) c.args.account c.args.request.now) (c.in-Ok-None.is ∙ ap (λ (o : Option Block). Ok o) c.in-Ok-None.field-0-is) c.find.ensures in
    λ _. subst (λ (now : Moment). MayRunOut (kept_call (advance c.args.self.now.recorded now) c.args.account c.args.request.now)) c.moment-now.ensures.moment (answered (kept_call (advance c.args.self.now.recorded c.moment-now.result) c.args.account c.args.request.now) ((advance c.args.self.now.recorded c.moment-now.result), ZeroBlockRead) finds)

pub returns-in-Err-clause-memory : goal.returns-in-Err-clause-memory
returns-in-Err-clause-memory g c =
    let finds = subst (Finds (advance c.args.self.now.recorded c.moment-now.result) c.args.account c.args.request.now) c.in-Err.is c.find.ensures in
    λ is. subst (λ (now : Moment). MayRunOut (kept_call (advance c.args.self.now.recorded now) c.args.account c.args.request.now)) c.moment-now.ensures.moment
    (failed_wants c.args.self.now c.fail.new.self c.moment-now.result (kept_call (advance c.args.self.now.recorded c.moment-now.result) c.args.account c.args.request.now) c.in-Err.failure c.fail.result c.fail.ensures
    (finds_wants (advance c.args.self.now.recorded c.moment-now.result) c.args.account c.args.request.now c.in-Err.failure finds) is)
