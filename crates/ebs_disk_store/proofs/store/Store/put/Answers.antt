use Rattle.std.proofs.Common.{◌≡◌, ◌∙◌, inl, inr, ⊎_elim, ℕ, List, Result, Ok, Err, refl, sym, ap, subst}
use Rattle.std.specs.Prelude.{OnErr}
use Rattle.sha2.specs.Sha256.{sha256}
use Rattle.ebs_model.specs.Quotas.{Rose}
use Rattle.ebs_world.specs.View.{Leaves}
use Rattle.ebs_world.specs.inner.Runs.{leaves_weaker, ran_not, ran_weaker, ran_on}
use Rattle.ebs_journal.specs.Opening.{OffJournal}
use Rattle.ebs_model.specs.declared.keys.Moment.{Moment}
use Rattle.ebs_model.specs.declared.answer.Answer.TheVariants as answers
use Rattle.ebs_model.specs.declared.answer.Refusal.TheVariants as refusals
use Rattle.ebs_model.specs.Machine.{advance}
use Rattle.ebs_model.specs.inner.Follows.{Agrees}
use Rattle.ebs_model.specs.declared.answer.Failure.{Failure}
use Rattle.ebs_recovery.specs.Made.{called}
use Rattle.ebs_recovery.specs.inner.Fits.{Seen}
use Rattle.ebs_disk_store.specs.declared.heads.PutHead.{PutHead}
use Rattle.ebs_disk_store.specs.declared.store.Stop.{Stop}
use Rattle.ebs_disk_store.specs.Opened.{OffJournalAndSlot}
use Rattle.ebs_disk_store.specs.inner.Told.{at_reading, called_at}
use Rattle.ebs_disk_store.specs.inner.Turned.{MayLeave, TurnAt}
use Rattle.ebs_disk_store.specs.inner.Puts.{PutTold, WholePutTold, put_at, put_memory, put_unstaged, refuse_head, staged_in, with_bytes}
use Rattle.ebs_disk_store.proofs.Left.{left_anywhere, left_behind}
use Rattle.ebs_disk_store.proofs.Staged.{off_journal}
use Rattle.ebs_disk_store.proofs.Turns as turns
use Rattle.ebs_disk_store.proofs.PutRuled.{rules_tested}
use Rattle.ebs_disk_store.proofs.PutSteps.{put_turn_failed}
use Rattle.ebs_disk_store.proofs.PutWhole as lemma
use Rattle.ebs_disk_store.proofs.store.Store.put.Goals as goal

err_of : {T E P : Type 0} (r : Result T E) (e : E) → r ≡ Err e → OnErr r P → P
err_of (Ok x) e is h = absurd (cc)
err_of (Err x) e is h = h

-- its index and its digest are within their limits
passed : (put : PutHead) (found digest : List ℕ) (r : Result (Unit {0}) Failure) → r ≡ Ok tt → found ≡ digest → Agrees r (refuse_head put found) → refuse_head put digest ≡ Ok tt
passed put found digest r is same agrees = ap (refuse_head put) (sym same) ∙ sym (subst (λ (x : Result (Unit {0}) Failure). Agrees x (refuse_head put found)) is agrees)

-- ---- refused before it is staged

pub returns-in-Err-clause-fits : goal.returns-in-Err-clause-fits
returns-in-Err-clause-fits g c sound told honest =
    turns.fit_failed (g.D.Disk.view c.args.disk.now) c.args.self.now c.fail.new.self c.moment-now.result c.in-Err.failure c.fail.result c.moment-now.ensures.later c.fail.ensures (c.requires.fits sound told honest)

pub returns-in-Err-clause-told : goal.returns-in-Err-clause-told
returns-in-Err-clause-told g c =
    let s = c.args.self.now in
    let digest = sha256 c.args.block.now in
    let agrees = subst (λ (d : List ℕ). Agrees (Err c.in-Err.failure) (refuse_head c.args.head d)) c.digest.ensures (subst (λ r. Agrees r (refuse_head c.args.head c.digest.result)) c.in-Err.is c.check_head.ensures) in
    let rules = rules_tested (advance s.recorded c.moment-now.result) c.args.account c.args.head digest c.in-Err.failure agrees in
    subst (λ (now : Moment). WholePutTold (c.args.disk.now ≡ c.args.disk.now) (Rose (g.D.Disk.view c.args.disk.now).faults (g.D.Disk.view c.args.disk.now).faults) s c.fail.new.self c.args.account now c.args.head digest c.fail.result)
    c.moment-now.ensures.moment (lemma.whole_failed _ _ s c.fail.new.self c.args.account c.moment-now.result c.args.head digest c.in-Err.failure c.fail.result rules c.fail.ensures refl)

pub returns-in-Err-clause-step : goal.returns-in-Err-clause-step
returns-in-Err-clause-step g c sound told honest =
    let old = g.D.Disk.view c.args.disk.now in
    let s = c.args.self.now in
    let digest = sha256 c.args.block.now in
    let agrees = subst (λ (d : List ℕ). Agrees (Err c.in-Err.failure) (refuse_head c.args.head d)) c.digest.ensures (subst (λ r. Agrees r (refuse_head c.args.head c.digest.result)) c.in-Err.is c.check_head.ensures) in
    let rules = rules_tested (advance s.recorded c.moment-now.result) c.args.account c.args.head digest c.in-Err.failure agrees in
    turns.turn_reading old old s c.fail.new.self c.args.account c.args.reading (with_bytes c.args.head c.args.block.now) c.fail.result
    (subst (λ (now : Moment). TurnAt old old s c.fail.new.self c.args.account now (with_bytes c.args.head c.args.block.now) c.fail.result) c.moment-now.ensures.moment
    (put_turn_failed old (g.met.D.Disk.true_to_itself c.args.disk.now) c.kept_form.ensures.acts c.kept_form.ensures.ages s (c.requires.fits sound told honest) c.moment-now.result c.args.account c.args.head digest c.args.block.now
    c.bytes-bytes.ensures.size refl s c.fail.new.self c.in-Err.failure c.fail.result refl refl rules c.fail.ensures))

pub returns-in-Err-clause-moments : goal.returns-in-Err-clause-moments
returns-in-Err-clause-moments g c sound told honest =
    turns.idle _ (g.D.Disk.view c.args.disk.now) (g.met.D.Disk.true_to_itself c.args.disk.now) (c.fit_stays.ensures.moments c.args.disk.now c.args.disk.now) c.args.self.now c.fail.new.self (c.requires.fits sound told honest)
    (called (called_at c.args.account (at_reading c.args.self.now c.args.reading) (with_bytes c.args.head c.args.block.now)))

pub returns-in-Err-clause-ran : goal.returns-in-Err-clause-ran
returns-in-Err-clause-ran g c =
    let old = g.D.Disk.view c.args.disk.now in
    off_journal old old c.args.self.now.slots c.self.inside.slots (ap (λ (s : Seen). s.slots) c.self.view_is) c.top-top.ensures.apart (ran_not OffJournal old (g.met.D.Disk.true_to_itself c.args.disk.now))

-- ---- staged, and then put or given up

pub returns-in-Ok-clause-told : goal.returns-in-Ok-clause-told
returns-in-Ok-clause-told g c =
    let s = c.args.self.now in
    let digest = sha256 c.args.block.now in
    let still = c.commit_put.new.disk ≡ c.stage_put.new.disk in
    let rose = Rose (g.D.Disk.view c.stage_put.new.disk).faults (g.D.Disk.view c.commit_put.new.disk).faults in
    let slot = c.in-Ok.lease.slot in
    let of = subst (λ (u : Seen). PutTold still rose u c.commit_put.new.self c.args.account (at_reading u c.args.reading) c.args.head slot c.in-Ok.lease.digest c.commit_put.result) c.in-Ok.ensures.ok c.commit_put.ensures.told in
    let hashed = subst (λ (d : List ℕ). PutTold still rose (staged_in s slot d) c.commit_put.new.self c.args.account (at_reading s c.args.reading) c.args.head slot d c.commit_put.result) c.in-Ok.ensures.lease.1 of in
    lemma.whole_told still rose _ _ s c.commit_put.new.self c.args.account (at_reading s c.args.reading) c.args.head slot digest c.commit_put.result c.in-Ok.ensures.lease.0
    (lemma.risen_on (g.D.Disk.view c.args.disk.now).faults (g.D.Disk.view c.stage_put.new.disk).faults (g.D.Disk.view c.commit_put.new.disk).faults c.stage_put.ensures.ran.ran.count)
    (passed c.args.head _ _ _ c.in_default.is c.digest.ensures c.check_head.ensures) hashed

pub returns-in-Ok-clause-step : goal.returns-in-Ok-clause-step
returns-in-Ok-clause-step g c sound told honest =
    let ran = c.stage_put.ensures.ran.ran in
    lemma.whole_turn (g.D.Disk.view c.args.disk.now) (g.D.Disk.view c.stage_put.new.disk) (g.D.Disk.view c.commit_put.new.disk) c.args.self.now c.stage_put.new.self c.commit_put.new.self
    c.args.account c.args.reading (with_bytes c.args.head c.args.block.now) c.commit_put.result (c.stage_put.ensures.same sound told honest) (ap (λ (s : Seen). s.clock) c.in-Ok.ensures.ok)
    (c.commit_put.ensures.step sound (ran.told ∙ told) (ran.kept_honest ∙ honest) c.args.block.now c.in-Ok.ensures.block)

pub returns-in-Ok-clause-moments : goal.returns-in-Ok-clause-moments
returns-in-Ok-clause-moments g c sound told honest =
    let ran = c.stage_put.ensures.ran.ran in
    let old = g.D.Disk.view c.args.disk.now in
    let mid = g.D.Disk.view c.stage_put.new.disk in
    let new = g.D.Disk.view c.commit_put.new.disk in
    let s = c.args.self.now in
    let u = c.stage_put.new.self in
    let t = c.commit_put.new.self in
    let failed = c.commit_put.result ≡ answers.Refused refusals.Unavailable in
    let now = at_reading s c.args.reading in
    let at_clock = subst (λ (now : Moment). Leaves mid new (MayLeave failed mid new u t (called (put_at c.args.account now c.args.head c.in-Ok.lease.slot c.args.block.now)))) (ap (λ (v : Seen). at_reading v c.args.reading) c.in-Ok.ensures.ok)
    (c.commit_put.ensures.moments sound (ran.told ∙ told) (ran.kept_honest ∙ honest) c.args.block.now c.in-Ok.ensures.block) in
    left_behind failed old new s t mid u (called (called_at c.args.account now (with_bytes c.args.head c.args.block.now))) (c.stage_put.ensures.same sound told honest) (ap (λ (v : Seen). v.pending) c.in-Ok.ensures.ok) (c.stage_put.ensures.moments sound told honest)
    (left_anywhere failed mid new u t c.args.account now c.args.head c.in-Ok.lease.slot c.args.block.now at_clock)

pub returns-in-Ok-clause-ran : goal.returns-in-Ok-clause-ran
returns-in-Ok-clause-ran g c =
    let old = g.D.Disk.view c.args.disk.now in
    let mid = g.D.Disk.view c.stage_put.new.disk in
    let new = g.D.Disk.view c.commit_put.new.disk in
    let one = c.stage_put.ensures.ran in
    record { slot = one.slot; free = one.free; ran = ran_on (OffJournalAndSlot one.slot) old mid new one.ran (ran_weaker OffJournal (OffJournalAndSlot one.slot) mid new (λ a i off. off.0) c.commit_put.ensures.ran) }

-- ---- not staged

pub returns-in-Err-Unavailable-clause-told : goal.returns-in-Err-Unavailable-clause-told
returns-in-Err-Unavailable-clause-told g c =
    let rose : Rose (g.D.Disk.view c.args.disk.now).faults (g.D.Disk.view c.stage_put.new.disk).faults = c.stage_put.ensures.unavailable (c.in-Err-Unavailable.is ∙ ap (λ (stop : Stop). Err stop) c.in-Err-Unavailable.field-0-is) in
    put_unstaged rose (passed c.args.head _ _ _ c.in_default.is c.digest.ensures c.check_head.ensures) (err_of c.stage_put.result c.in-Err-Unavailable.field-0 c.in-Err-Unavailable.is c.stage_put.ensures.err)

pub returns-in-Err-Unavailable-clause-moments : goal.returns-in-Err-Unavailable-clause-moments
returns-in-Err-Unavailable-clause-moments g c sound told honest = leaves_weaker _ _ _ _ (λ image h. inl h) (c.stage_put.ensures.moments sound told honest)

pub returns-in-Err-Memory-clause-told : goal.returns-in-Err-Memory-clause-told
returns-in-Err-Memory-clause-told g c =
    put_memory (⊎_elim (λ is. inl is) (λ is. inr (inl is)) (err_of c.stage_put.result c.in-Err-Memory.field-0 c.in-Err-Memory.is c.stage_put.ensures.err))

pub returns-in-Err-Memory-clause-moments : goal.returns-in-Err-Memory-clause-moments
returns-in-Err-Memory-clause-moments g c sound told honest = leaves_weaker _ _ _ _ (λ image h. inl h) (c.stage_put.ensures.moments sound told honest)
