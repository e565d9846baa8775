use Rattle.std.proofs.Common.{◌≡◌, refl, ap, subst}
use Rattle.ebs_world.specs.inner.Runs.{ran_not}
use Rattle.ebs_journal.specs.Opening.{OffJournal}
use Rattle.ebs_recovery.specs.inner.Fits.{Seen}
use Rattle.ebs_model.specs.Quotas.{Rose}
use Rattle.ebs_model.specs.declared.keys.Moment.{Moment}
use Rattle.ebs_model.specs.Limits.{bad_member}
use Rattle.ebs_model.specs.Refuse.{refuse_bad}
use Rattle.ebs_model.specs.inner.Follows.{Agrees}
use Rattle.ebs_recovery.specs.Made.{called}
use Rattle.ebs_disk_store.specs.inner.Told.{at_reading, called_at}
use Rattle.ebs_disk_store.specs.inner.Turned.{TurnAt}
use Rattle.ebs_disk_store.specs.inner.Applied.{Applied}
use Rattle.ebs_disk_store.proofs.Turns as lemma
use Rattle.ebs_disk_store.proofs.Applies.{applied_bad}
use Rattle.ebs_disk_store.proofs.Staged.{off_journal}
use Rattle.ebs_disk_store.proofs.store.Store.apply_put.Goals as goal

pub returns-in-Err-clause-fits : goal.returns-in-Err-clause-fits
returns-in-Err-clause-fits g c sound told honest = lemma.fit_failed _ c.args.self.now _ c.moment-now.result c.in-Err.failure c.fail.result c.moment-now.ensures.later c.fail.ensures (c.requires.fits sound told honest)

pub returns-in-Err-clause-told : goal.returns-in-Err-clause-told
returns-in-Err-clause-told g c =
    let agrees = subst (λ r. Agrees r (refuse_bad (bad_member c.args.request))) c.in-Err.is c.check_members.ensures.within in
    subst (λ (now : Moment). Applied (c.args.disk.now ≡ c.args.disk.now) (Rose (g.D.Disk.view c.args.disk.now).faults (g.D.Disk.view c.args.disk.now).faults) (g.D.Disk.view c.args.disk.now) c.args.self.now c.fail.new.self c.args.account now c.args.request c.fail.result) c.moment-now.ensures.moment
    (applied_bad _ _ _ c.args.self.now c.fail.new.self c.args.account c.moment-now.result c.args.request c.in-Err.failure c.fail.result agrees c.fail.ensures refl)

pub returns-in-Err-clause-step : goal.returns-in-Err-clause-step
returns-in-Err-clause-step g c sound told honest =
    let old = g.D.Disk.view c.args.disk.now in
    let agrees = subst (λ r. Agrees r (refuse_bad (bad_member c.args.request))) c.in-Err.is c.check_members.ensures.within in
    lemma.turn_reading old old c.args.self.now c.fail.new.self c.args.account c.args.reading c.args.request c.fail.result
    (subst (λ (now : Moment). TurnAt old old c.args.self.now c.fail.new.self c.args.account now c.args.request c.fail.result) c.moment-now.ensures.moment
    (lemma.turn_bad old c.args.self.now c.fail.new.self c.args.account c.moment-now.result c.args.request c.in-Err.failure c.fail.result agrees c.fail.ensures))

pub returns-in-Err-clause-moments : goal.returns-in-Err-clause-moments
returns-in-Err-clause-moments g c sound told honest =
    lemma.idle _ (g.D.Disk.view c.args.disk.now) (g.met.D.Disk.true_to_itself c.args.disk.now) (c.fit_stays.ensures.moments c.args.disk.now c.args.disk.now) c.args.self.now c.fail.new.self (c.requires.fits sound told honest)
    (called (called_at c.args.account (at_reading c.args.self.now c.args.reading) c.args.request))

pub returns-in-Err-clause-ran : goal.returns-in-Err-clause-ran
returns-in-Err-clause-ran g c =
    let old = g.D.Disk.view c.args.disk.now in
    off_journal old old c.args.self.now.slots c.self.inside.slots (ap (λ (s : Seen). s.slots) c.self.view_is) c.top-top.ensures.apart (ran_not OffJournal old (g.met.D.Disk.true_to_itself c.args.disk.now))
