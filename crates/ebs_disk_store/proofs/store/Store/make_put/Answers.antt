use Rattle.std.proofs.Common.{◌≡◌, ◌∙◌, Ok, Err, Result, refl, sym, subst, ap}
use Rattle.std.specs.Prelude.{IsErrOf, OnErr}
use Rattle.ebs_model.specs.Quotas.{Rose}
use Rattle.ebs_model.specs.Machine.{advance}
use Rattle.ebs_kept.specs.inner.Shown.{AreGoodRows}
use Rattle.ebs_recovery.specs.Made.{called}
use Rattle.ebs_recovery.specs.inner.Fits.{Seen}
use Rattle.ebs_disk_store.specs.declared.ruling.Ruling.{Ruling}
use Rattle.ebs_disk_store.specs.declared.store.Stop.{Stop}
use Rattle.ebs_disk_store.specs.declared.store.Stop.TheVariants as stop
use Rattle.ebs_disk_store.specs.inner.Turned.{TurnAt}
use Rattle.ebs_disk_store.specs.inner.Puts.{IsPutRuled, PutRules, PutTold, put_at, with_bytes, unavailable, memory}
use Rattle.ebs_disk_store.proofs.Left.{left_told, no_err, one_stop}
use Rattle.ebs_disk_store.proofs.PutRecorded.{hash_is}
use Rattle.ebs_disk_store.proofs.PutSteps as lemma
use Rattle.ebs_disk_store.proofs.store.Store.make_put.Goals as goal

good_rows : {s t : Seen} → s ≡ t → AreGoodRows s.recorded.snaps → AreGoodRows t.recorded.snaps
good_rows e h = subst (λ (s : Seen). AreGoodRows s.recorded.snaps) e h

err_of : {T E P : Type 0} (r : Result T E) (e : E) → r ≡ Err e → OnErr r P → P
err_of (Ok x) e is h = absurd (cc)
err_of (Err x) e is h = h

pub unreachable-requires : goal.unreachable-requires
unreachable-requires g c = subst (λ (r : Ruling). PutRules (advance c.args.self.now.recorded c.args.now) c.args.account c.args.head c.args.lease.digest (Ok r)) c.in_default.is c.requires.rules

pub returns-in-Err-Unavailable-clause-told : goal.returns-in-Err-Unavailable-clause-told
returns-in-Err-Unavailable-clause-told g c =
    let rose : Rose (g.D.Disk.view c.args.disk.now).faults (g.D.Disk.view c.settle_put.new.disk).faults = c.settle_put.ensures.unavailable (c.in-Err-Unavailable.is ∙ ap (λ (stop : Stop). Err stop) c.in-Err-Unavailable.field-0-is) in
    let ruled : IsPutRuled (advance c.args.self.now.recorded c.args.now) c.args.account c.args.head c.args.lease.digest c.in-Change.change c.in-Change.answer =
    subst (λ (r : Ruling). PutRules (advance c.args.self.now.recorded c.args.now) c.args.account c.args.head c.args.lease.digest (Ok r)) c.in-Change.is c.requires.rules in
    unavailable rose (lemma.would_put c.args.self.now c.args.account c.args.now c.args.head c.args.lease.digest c.in-Change.change c.in-Change.answer ruled) (err_of c.settle_put.result c.in-Err-Unavailable.field-0 c.in-Err-Unavailable.is c.settle_put.ensures.err)

pub returns-in-Err-Memory-clause-told : goal.returns-in-Err-Memory-clause-told
returns-in-Err-Memory-clause-told g c = memory (c.settle_put.ensures.memory (c.in-Err-Memory.is ∙ ap (λ (stop : Stop). Err stop) c.in-Err-Memory.field-0-is))

pub returns-in-Ok-clause-told : goal.returns-in-Ok-clause-told
returns-in-Ok-clause-told g c =
    let ruled : IsPutRuled (advance c.args.self.now.recorded c.args.now) c.args.account c.args.head c.args.lease.digest c.in-Change.change c.in-Change.answer =
    subst (λ (r : Ruling). PutRules (advance c.args.self.now.recorded c.args.now) c.args.account c.args.head c.args.lease.digest (Ok r)) c.in-Change.is c.requires.rules in
    subst (PutTold _ _ c.args.self.now c.settle_put.new.self c.args.account c.args.now c.args.head c.args.lease.slot c.args.lease.digest) (sym c.in-Ok.ensures.answered)
    (lemma.put_told_made _ _ c.args.self.now c.settle_put.new.self c.args.account c.args.now c.args.head c.args.lease.slot c.args.lease.digest c.in-Change.change c.in-Change.answer ruled c.in-Ok.ensures.ok)

pub returns-in-Ok-clause-step : goal.returns-in-Ok-clause-step
returns-in-Ok-clause-step g c sound told honest bytes lies =
    let old = g.D.Disk.view c.args.disk.now in
    let new = g.D.Disk.view c.settle_put.new.disk in
    let ruled : IsPutRuled (advance c.args.self.now.recorded c.args.now) c.args.account c.args.head c.args.lease.digest c.in-Change.change c.in-Change.answer =
    subst (λ (r : Ruling). PutRules (advance c.args.self.now.recorded c.args.now) c.args.account c.args.head c.args.lease.digest (Ok r)) c.in-Change.is c.requires.rules in
    subst (TurnAt old new c.args.self.now c.settle_put.new.self c.args.account c.args.now (with_bytes c.args.head bytes)) (sym c.in-Ok.ensures.answered)
    (lemma.put_turn_made old (g.met.D.Disk.true_to_itself c.args.disk.now) c.kept_form.ensures.acts c.kept_form.ensures.ages c.args.self.now (c.requires.fits sound told honest) c.args.now
    c.args.account c.args.head c.args.lease.digest bytes (lemma.lies_whole old c.args.self.now (c.requires.fits sound told honest) c.args.lease.slot bytes lies)
    (hash_is old c.args.self.now (c.requires.fits sound told honest) c.args.lease.slot c.args.lease.digest bytes c.requires.leased lies) (good_rows c.self.view_is c.keeps_rows.ensures) c.args.lease.slot new c.settle_put.new.self c.in-Change.change c.in-Change.answer ruled c.in-Ok.ensures.ok
    (c.in-Ok.ensures.leads sound told honest bytes lies))

pub returns-in-Ok-clause-moments : goal.returns-in-Ok-clause-moments
returns-in-Ok-clause-moments g c sound told honest bytes lies =
    left_told (IsErrOf c.settle_put.result stop.Unavailable) _ (λ err. no_err c.settle_put.result c.in-Ok.answer stop.Unavailable c.in-Ok.is err) (g.D.Disk.view c.args.disk.now) (g.D.Disk.view c.settle_put.new.disk) c.args.self.now c.settle_put.new.self
    (called (put_at c.args.account c.args.now c.args.head c.args.lease.slot bytes)) (c.settle_put.ensures.moments sound told honest bytes lies)

pub returns-in-Err-Unavailable-clause-moments : goal.returns-in-Err-Unavailable-clause-moments
returns-in-Err-Unavailable-clause-moments g c sound told honest bytes lies =
    left_told (IsErrOf c.settle_put.result stop.Unavailable) _ (λ err. refl) (g.D.Disk.view c.args.disk.now) (g.D.Disk.view c.settle_put.new.disk) c.args.self.now c.settle_put.new.self
    (called (put_at c.args.account c.args.now c.args.head c.args.lease.slot bytes)) (c.settle_put.ensures.moments sound told honest bytes lies)

pub returns-in-Err-Memory-clause-moments : goal.returns-in-Err-Memory-clause-moments
returns-in-Err-Memory-clause-moments g c sound told honest bytes lies =
    left_told (IsErrOf c.settle_put.result stop.Unavailable) _ (λ err. one_stop c.settle_put.result (c.in-Err-Memory.is ∙ ap (λ (stop : Stop). Err stop) c.in-Err-Memory.field-0-is) err) (g.D.Disk.view c.args.disk.now) (g.D.Disk.view c.settle_put.new.disk) c.args.self.now c.settle_put.new.self
    (called (put_at c.args.account c.args.now c.args.head c.args.lease.slot bytes)) (c.settle_put.ensures.moments sound told honest bytes lies)
