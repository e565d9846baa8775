use Rattle.std.proofs.Common.{◌≡◌, ◌≤◌, ℕ, List, refl, sym, subst}
use Rattle.ebs_model.specs.Quotas.{Rose}
use Rattle.ebs_world.specs.View.{Leaves}
use Rattle.ebs_model.specs.declared.keys.Moment.{Moment}
use Rattle.ebs_model.specs.declared.answer.Answer.TheVariants as answers
use Rattle.ebs_model.specs.declared.answer.Refusal.TheVariants as refusals
use Rattle.ebs_model.specs.Machine.{advance}
use Rattle.ebs_recovery.specs.Made.{called}
use Rattle.ebs_recovery.specs.inner.Fits.{Seen}
use Rattle.ebs_disk_store.specs.inner.Told.{at_reading, without_lease}
use Rattle.ebs_disk_store.proofs.PutRecorded.{hash_is}
use Rattle.ebs_disk_store.specs.inner.Turned.{Fails, MayLeave, TurnAt}
use Rattle.ebs_disk_store.specs.inner.Puts.{PutRules, PutTold, put_at, with_bytes}
use Rattle.ebs_disk_store.proofs.Turns as turns
use Rattle.ebs_disk_store.proofs.PutSteps as lemma
use Rattle.ebs_disk_store.proofs.store.Store.commit_put.Goals as goal

-- along two paths
subst2 : {A B : Type 0} (P : A → B → Type 0) {x y : A} {v w : B} → x ≡ y → v ≡ w → P x v → P y w
subst2 P {x} {y} {v} {w} e f p = subst (λ b. P y b) f (subst (λ a. P a v) e p)

pub returns-in-Ok-clause-told : goal.returns-in-Ok-clause-told
returns-in-Ok-clause-told g c = subst (λ (now : Moment). PutTold (c.make_put.new.disk ≡ c.args.disk.now) (Rose (g.D.Disk.view c.args.disk.now).faults (g.D.Disk.view c.make_put.new.disk).faults) c.args.self.now c.make_put.new.self
    c.args.account now c.args.head c.args.lease.slot c.args.lease.digest c.make_put.result) c.moment-now.ensures.moment c.make_put.ensures.told

pub returns-in-Ok-clause-step : goal.returns-in-Ok-clause-step
returns-in-Ok-clause-step g c sound told honest bytes lies =
    let old = g.D.Disk.view c.args.disk.now in
    let new = g.D.Disk.view c.make_put.new.disk in
    turns.turn_reading old new c.args.self.now c.make_put.new.self c.args.account c.args.reading (with_bytes c.args.head bytes) c.make_put.result
    (subst (λ (now : Moment). TurnAt old new c.args.self.now c.make_put.new.self c.args.account now (with_bytes c.args.head bytes) c.make_put.result) c.moment-now.ensures.moment (c.make_put.ensures.step sound told honest bytes lies))

pub returns-in-Ok-clause-moments : goal.returns-in-Ok-clause-moments
returns-in-Ok-clause-moments g c sound told honest bytes lies =
    let old = g.D.Disk.view c.args.disk.now in
    let new = g.D.Disk.view c.make_put.new.disk in
    subst (λ (now : Moment). Leaves old new (MayLeave (c.make_put.result ≡ answers.Refused refusals.Unavailable) old new c.args.self.now c.make_put.new.self (called (put_at c.args.account now c.args.head c.args.lease.slot bytes)))) c.moment-now.ensures.moment (c.make_put.ensures.moments sound told honest bytes lies)

pub returns-in-Err-clause-fits : goal.returns-in-Err-clause-fits
returns-in-Err-clause-fits g c sound told honest =
    turns.fit_failed (g.D.Disk.view c.args.disk.now) c.abandon_put.new.self _ c.moment-now.result c.in-Err.failure c.fail.result
    (subst (λ (u : Seen). u.clock.second ≤ c.moment-now.result.second) (sym c.abandon_put.ensures.spent) c.moment-now.ensures.later) c.fail.ensures (c.abandon_put.ensures.fits sound told honest)

pub returns-in-Err-clause-told : goal.returns-in-Err-clause-told
returns-in-Err-clause-told g c =
    let how = subst (λ (u : Seen). Fails u c.fail.new.self c.moment-now.result c.in-Err.failure c.fail.result) c.abandon_put.ensures.spent c.fail.ensures in
    let rules = subst2 (λ (d : List ℕ) r. PutRules (advance c.args.self.now.recorded c.moment-now.result) c.args.account c.args.head d r) c.digest.ensures c.in-Err.is c.rule_put.ensures in
    subst (λ (now : Moment). PutTold (c.args.disk.now ≡ c.args.disk.now) (Rose (g.D.Disk.view c.args.disk.now).faults (g.D.Disk.view c.args.disk.now).faults) c.args.self.now c.fail.new.self c.args.account now c.args.head c.args.lease.slot c.args.lease.digest c.fail.result)
    c.moment-now.ensures.moment (lemma.put_told_failed _ _ c.args.self.now c.fail.new.self c.args.account c.moment-now.result c.args.head c.args.lease.slot c.args.lease.digest c.in-Err.failure c.fail.result rules how refl)

pub returns-in-Err-clause-step : goal.returns-in-Err-clause-step
returns-in-Err-clause-step g c sound told honest bytes lies =
    let old = g.D.Disk.view c.args.disk.now in
    let s = c.args.self.now in
    let fit = c.requires.fits sound told honest in
    let how = subst (λ (u : Seen). Fails u c.fail.new.self c.moment-now.result c.in-Err.failure c.fail.result) c.abandon_put.ensures.spent c.fail.ensures in
    let rules = subst2 (λ (d : List ℕ) r. PutRules (advance s.recorded c.moment-now.result) c.args.account c.args.head d r) c.digest.ensures c.in-Err.is c.rule_put.ensures in
    turns.turn_reading old old s c.fail.new.self c.args.account c.args.reading (with_bytes c.args.head bytes) c.fail.result
    (subst (λ (now : Moment). TurnAt old old s c.fail.new.self c.args.account now (with_bytes c.args.head bytes) c.fail.result) c.moment-now.ensures.moment
    (lemma.put_turn_failed old (g.met.D.Disk.true_to_itself c.args.disk.now) c.kept_form.ensures.acts c.kept_form.ensures.ages s fit c.moment-now.result c.args.account c.args.head c.args.lease.digest bytes
    (lemma.lies_whole old s fit c.args.lease.slot bytes lies) (hash_is old s fit c.args.lease.slot c.args.lease.digest bytes c.requires.leased lies) (without_lease s c.args.lease.slot) c.fail.new.self c.in-Err.failure c.fail.result refl refl rules how))

pub returns-in-Err-clause-moments : goal.returns-in-Err-clause-moments
returns-in-Err-clause-moments g c sound told honest bytes lies =
    turns.idle _ (g.D.Disk.view c.args.disk.now) (g.met.D.Disk.true_to_itself c.args.disk.now) (c.fit_stays.ensures.moments c.args.disk.now c.args.disk.now) c.args.self.now c.fail.new.self (c.requires.fits sound told honest)
    (called (put_at c.args.account (at_reading c.args.self.now c.args.reading) c.args.head c.args.lease.slot bytes))
