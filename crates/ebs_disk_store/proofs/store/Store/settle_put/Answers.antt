use Rattle.std.proofs.Common.{inl, inr, ◌∙◌, ⊎_elim, subst, ap, Result, Ok, Err}
use Rattle.std.specs.Prelude.{OnOk, OnErr, []}
use Rattle.ebs_world.specs.inner.Runs.{leaves_weaker, ran_on}
use Rattle.ebs_journal.specs.Opening.{OffJournal}
use Rattle.ebs_model.specs.Machine.{Machine, advance}
use Rattle.ebs_model.specs.Step.{changed}
use Rattle.ebs_records.specs.declared.record.Record.TheVariants.{Accepted}
use Rattle.ebs_recovery.specs.inner.Made.{Leads}
use Rattle.ebs_recovery.specs.Made.{called}
use Rattle.ebs_recovery.specs.inner.Fits.{Seen, recorded}
use Rattle.ebs_disk_store.specs.inner.Told.{unsure, without_lease}
use Rattle.ebs_disk_store.specs.inner.Puts.{IsPutTaken, put_at}
use Rattle.ebs_disk_store.proofs.Held.{lies_off}
use Rattle.ebs_disk_store.proofs.Left.{left_behind}
use Rattle.ebs_disk_store.proofs.PutRecorded.{taken_mended}
use Rattle.ebs_disk_store.proofs.store.Store.settle_put.Goals as goal

on_ok : {T E : Type 0} (r : Result T E) (P Q : Type 0) → (P → Q) → OnOk r P → OnOk r Q
on_ok (Ok x) P Q f h = f h
on_ok (Err e) P Q f h = tt

on_err : {T E : Type 0} (r : Result T E) (P Q : Type 0) → (P → Q) → OnErr r P → OnErr r Q
on_err (Ok x) P Q f h = tt
on_err (Err e) P Q f h = f h

pub returns-in_default-clause-moments : goal.returns-in_default-clause-moments
returns-in_default-clause-moments g c sound told honest bytes lies = leaves_weaker _ _ _ _ (λ image h. inl h) (c.mend.ensures.moments sound told honest)

pub returns-clause-ok : goal.returns-clause-ok
returns-clause-ok g c = on_ok c.record_put.result _ _ (λ taken. taken_mended c.args.self.now c.record_put.new.self c.args.now c.args.lease.slot (changed (advance c.args.self.now.recorded c.args.now) c.args.lease.digest c.args.change)
    (subst (λ (s : Seen). IsPutTaken s c.args.now c.args.lease.slot (changed (advance s.recorded c.args.now) c.args.lease.digest c.args.change) c.record_put.new.self) c.in-Ok.ensures.ok taken)) c.record_put.ensures.ok

pub returns-clause-leads : goal.returns-clause-leads
returns-clause-leads g c = on_ok c.record_put.result _ _ (λ leads sound told honest bytes lies.
    let ran = c.mend.ensures.ran in
    subst (λ (m : Machine). Leads m (called (put_at c.args.account c.args.now c.args.head c.args.lease.slot bytes)) (recorded (g.D.Disk.view c.record_put.new.disk) c.record_put.new.self)) (c.mend.ensures.same sound told honest)
    (leads sound (ran.told ∙ told) (ran.kept_honest ∙ honest) bytes (lies_off (g.D.Disk.view c.args.disk.now) (g.D.Disk.view c.mend.new.disk) ran c.args.lease.slot bytes lies))) c.record_put.ensures.leads

pub returns-clause-err : goal.returns-clause-err
returns-clause-err g c = on_err c.record_put.result _ _ (λ h. ⊎_elim
    (λ is. inr (inl (is ∙ ap (λ (s : Seen). without_lease s c.args.lease.slot) c.in-Ok.ensures.ok)))
    (λ is. inr (inr (is ∙ ap (λ (s : Seen). unsure (without_lease s c.args.lease.slot) (Accepted (put_at c.args.account c.args.now c.args.head c.args.lease.slot []))) c.in-Ok.ensures.ok))) h) c.record_put.ensures.err

pub returns-clause-memory : goal.returns-clause-memory
returns-clause-memory g c = λ is. inr (c.record_put.ensures.memory is ∙ ap (λ (s : Seen). without_lease s c.args.lease.slot) c.in-Ok.ensures.ok)

pub returns-clause-same : goal.returns-clause-same
returns-clause-same g c = on_err c.record_put.result _ _ (λ same sound told honest.
    let ran = c.mend.ensures.ran in
    same sound (ran.told ∙ told) (ran.kept_honest ∙ honest) ∙ c.mend.ensures.same sound told honest) c.record_put.ensures.same

pub returns-clause-moments : goal.returns-clause-moments
returns-clause-moments g c sound told honest bytes lies =
    let ran = c.mend.ensures.ran in
    let old = g.D.Disk.view c.args.disk.now in
    let mid = g.D.Disk.view c.mend.new.disk in
    let new = g.D.Disk.view c.record_put.new.disk in
    let e = called (put_at c.args.account c.args.now c.args.head c.args.lease.slot bytes) in
    left_behind _ old new c.args.self.now c.record_put.new.self mid c.mend.new.self e (c.mend.ensures.same sound told honest) (ap (λ (s : Seen). s.pending) c.in-Ok.ensures.ok)
    (c.mend.ensures.moments sound told honest) (c.record_put.ensures.moments sound (ran.told ∙ told) (ran.kept_honest ∙ honest) bytes (lies_off old mid ran c.args.lease.slot bytes lies))

pub returns-clause-ran : goal.returns-clause-ran
returns-clause-ran g c = ran_on OffJournal (g.D.Disk.view c.args.disk.now) (g.D.Disk.view c.mend.new.disk) (g.D.Disk.view c.record_put.new.disk) c.mend.ensures.ran c.record_put.ensures.ran
