use Rattle.std.proofs.Common.{◌≡◌, ℕ, List, Option, None, Some, Ok, refl, subst}
use Rattle.ebs_model.specs.Quotas.{Rose}
use Rattle.ebs_world.specs.View.{Leaves}
use Rattle.ebs_model.specs.declared.keys.Moment.{Moment}
use Rattle.ebs_model.specs.Limits.{bad_member}
use Rattle.ebs_model.specs.Refuse.{refuse_bad}
use Rattle.ebs_model.specs.inner.Follows.{Agrees}
use Rattle.ebs_model.specs.declared.answer.Answer.TheVariants as answers
use Rattle.ebs_model.specs.declared.answer.Refusal.TheVariants as refusals
use Rattle.ebs_recovery.specs.Made.{called}
use Rattle.ebs_disk_store.specs.inner.Told.{called_at, at_reading}
use Rattle.ebs_disk_store.specs.inner.Turned.{MayLeave, Told, TurnAt, kept_call}
use Rattle.ebs_disk_store.proofs.Turns as lemma
use Rattle.ebs_model.specs.Machine.{advance}
use Rattle.ebs_catalog.specs.Wants.{OnMemory, NamesMember}
use Rattle.ebs_kept.specs.inner.Wants.{MayRunOut}
use Rattle.ebs_disk_store.proofs.Wants.{failed_wants, named_failure, within_wants}
use Rattle.ebs_disk_store.proofs.store.Store.change.Goals as goal

passed_bad : (o : Option (List ℕ)) → Ok tt ≡ refuse_bad o → o ≡ None
passed_bad None e = refl
passed_bad (Some name) e = absurd (cc)

pub returns-in-Ok-clause-told : goal.returns-in-Ok-clause-told
returns-in-Ok-clause-told g c = subst (λ (now : Moment). Told (c.turn.new.disk ≡ c.args.disk.now) (Rose (g.D.Disk.view c.args.disk.now).faults (g.D.Disk.view c.turn.new.disk).faults) c.args.self.now c.turn.new.self c.args.account now c.args.request c.turn.result) c.moment-now.ensures.moment c.turn.ensures.told

pub returns-in-Ok-clause-step : goal.returns-in-Ok-clause-step
returns-in-Ok-clause-step g c sound told honest =
    let old = g.D.Disk.view c.args.disk.now in
    let new = g.D.Disk.view c.turn.new.disk in
    lemma.turn_reading old new c.args.self.now c.turn.new.self c.args.account c.args.reading c.args.request c.turn.result
    (subst (λ (now : Moment). TurnAt old new c.args.self.now c.turn.new.self c.args.account now c.args.request c.turn.result) c.moment-now.ensures.moment (c.turn.ensures.step sound told honest))

pub returns-in-Ok-clause-moments : goal.returns-in-Ok-clause-moments
returns-in-Ok-clause-moments g c sound told honest =
    let old = g.D.Disk.view c.args.disk.now in
    let new = g.D.Disk.view c.turn.new.disk in
    subst (λ (now : Moment). Leaves old new (MayLeave (c.turn.result ≡ answers.Refused refusals.Unavailable) old new c.args.self.now c.turn.new.self (called (called_at c.args.account now c.args.request)))) c.moment-now.ensures.moment (c.turn.ensures.moments sound told honest)

pub returns-in-Err-clause-fits : goal.returns-in-Err-clause-fits
returns-in-Err-clause-fits g c sound told honest = lemma.fit_failed _ c.args.self.now _ c.moment-now.result c.in-Err.failure c.fail.result c.moment-now.ensures.later c.fail.ensures (c.requires.fits sound told honest)

pub returns-in-Err-clause-told : goal.returns-in-Err-clause-told
returns-in-Err-clause-told g c =
    let agrees = subst (λ r. Agrees r (refuse_bad (bad_member c.args.request))) c.in-Err.is c.check_members.ensures.within in
    subst (λ (now : Moment). Told (c.args.disk.now ≡ c.args.disk.now) (Rose (g.D.Disk.view c.args.disk.now).faults (g.D.Disk.view c.args.disk.now).faults) c.args.self.now c.fail.new.self c.args.account now c.args.request c.fail.result) c.moment-now.ensures.moment
    (lemma.told_bad _ _ c.args.self.now c.fail.new.self c.args.account c.moment-now.result c.args.request c.in-Err.failure c.fail.result agrees c.fail.ensures refl)

pub returns-in-Err-clause-step : goal.returns-in-Err-clause-step
returns-in-Err-clause-step g c sound told honest =
    let old = g.D.Disk.view c.args.disk.now in
    let agrees = subst (λ r. Agrees r (refuse_bad (bad_member c.args.request))) c.in-Err.is c.check_members.ensures.within in
    lemma.turn_reading old old c.args.self.now c.fail.new.self c.args.account c.args.reading c.args.request c.fail.result
    (subst (λ (now : Moment). TurnAt old old c.args.self.now c.fail.new.self c.args.account now c.args.request c.fail.result) c.moment-now.ensures.moment
    (lemma.turn_bad old c.args.self.now c.fail.new.self c.args.account c.moment-now.result c.args.request c.in-Err.failure c.fail.result agrees c.fail.ensures))

pub returns-in-Err-clause-moments : goal.returns-in-Err-clause-moments
returns-in-Err-clause-moments g c sound told honest =
    lemma.idle _ (g.D.Disk.view c.args.disk.now) (g.met.D.Disk.true_to_itself c.args.disk.now) (c.fit_stays.ensures.moments c.args.disk.now c.args.disk.now) c.args.self.now c.fail.new.self (c.requires.fits sound told honest)
    (called (called_at c.args.account (at_reading c.args.self.now c.args.reading) c.args.request))

pub returns-in-Ok-clause-slots : goal.returns-in-Ok-clause-slots
returns-in-Ok-clause-slots g c = lemma.told_slots _ _ c.args.self.now c.turn.new.self c.args.account c.moment-now.result c.args.request c.turn.result c.turn.ensures.told

pub returns-in-Err-clause-slots : goal.returns-in-Err-clause-slots
returns-in-Err-clause-slots g c = lemma.fails_slots c.args.self.now c.fail.new.self c.moment-now.result c.in-Err.failure c.fail.result c.fail.ensures

pub turn-requires-clause-within : goal.turn-requires-clause-within
turn-requires-clause-within g c = passed_bad (bad_member c.args.request) (subst (λ r. Agrees r (refuse_bad (bad_member c.args.request))) c.in-Ok.is c.check_members.ensures.within)

pub returns-in-Ok-clause-memory : goal.returns-in-Ok-clause-memory
returns-in-Ok-clause-memory g c = λ is.
    subst (λ (now : Moment). MayRunOut (kept_call (advance c.args.self.now.recorded now) c.args.account c.args.request)) c.moment-now.ensures.moment
    (within_wants (advance c.args.self.now.recorded c.moment-now.result) c.args.account c.args.request (subst (λ r. Agrees r (refuse_bad (bad_member c.args.request))) c.in-Ok.is c.check_members.ensures.within) (c.turn.ensures.memory is))

pub returns-in-Err-clause-memory : goal.returns-in-Err-clause-memory
returns-in-Err-clause-memory g c = λ is.
    let named = subst (λ r. OnMemory r (NamesMember (refuse_bad (bad_member c.args.request)))) c.in-Err.is c.check_members.ensures.memory in
    subst (λ (now : Moment). MayRunOut (kept_call (advance c.args.self.now.recorded now) c.args.account c.args.request)) c.moment-now.ensures.moment
    (failed_wants c.args.self.now c.fail.new.self c.moment-now.result (kept_call (advance c.args.self.now.recorded c.moment-now.result) c.args.account c.args.request) c.in-Err.failure c.fail.result c.fail.ensures
    (named_failure (advance c.args.self.now.recorded c.moment-now.result) c.args.account c.args.request c.in-Err.failure named) is)
