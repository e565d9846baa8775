use Rattle.std.proofs.Common.{inl, inr, ◌∙◌, ⊎_elim, ap}
use Rattle.ebs_world.specs.inner.Runs.{leaves_weaker, ran_on}
use Rattle.ebs_journal.specs.Opening.{OffJournal}
use Rattle.ebs_model.specs.Machine.{Machine, advance}
use Rattle.ebs_records.specs.declared.record.Record.TheVariants.{Advance}
use Rattle.ebs_recovery.specs.Made.{advanced}
use Rattle.ebs_recovery.specs.inner.Fits.{Seen}
use Rattle.ebs_disk_store.specs.inner.Collected.{aged_store}
use Rattle.ebs_disk_store.specs.inner.Told.{unsure}
use Rattle.ebs_disk_store.proofs.Collects.{on_err, on_ok}
use Rattle.ebs_disk_store.proofs.Left.{left_behind}
use Rattle.ebs_disk_store.proofs.PutWhole.{risen_on}
use Rattle.ebs_disk_store.proofs.store.Store.settle_time.Goals as goal

pub returns-in_default-clause-moments : goal.returns-in_default-clause-moments
returns-in_default-clause-moments g c sound told honest = leaves_weaker _ _ _ _ (λ image h. inl h) (c.mend.ensures.moments sound told honest)

pub returns-clause-ok : goal.returns-clause-ok
returns-clause-ok g c = on_ok c.record_time.result _ _ (λ is. is ∙ ap (λ (s : Seen). aged_store s c.args.now c.record_time.new.self.journal) c.in-Ok.ensures.ok) c.record_time.ensures.ok

pub returns-clause-aged : goal.returns-clause-aged
returns-clause-aged g c = on_ok c.record_time.result _ _ (λ aged sound told honest.
    let ran = c.mend.ensures.ran in
    aged sound (ran.told ∙ told) (ran.kept_honest ∙ honest) ∙ ap (λ (m : Machine). advance m c.args.now) (c.mend.ensures.same sound told honest)) c.record_time.ensures.aged

pub returns-clause-err : goal.returns-clause-err
returns-clause-err g c = on_err c.record_time.result _ _ (λ h. ⊎_elim
    (λ is. inr (inl (is ∙ c.in-Ok.ensures.ok)))
    (λ is. inr (inr (is ∙ ap (λ (s : Seen). unsure s (Advance c.args.now)) c.in-Ok.ensures.ok))) h) c.record_time.ensures.err

pub returns-clause-same : goal.returns-clause-same
returns-clause-same g c = on_err c.record_time.result _ _ (λ same sound told honest.
    let ran = c.mend.ensures.ran in
    same sound (ran.told ∙ told) (ran.kept_honest ∙ honest) ∙ c.mend.ensures.same sound told honest) c.record_time.ensures.same

pub returns-clause-moments : goal.returns-clause-moments
returns-clause-moments g c sound told honest =
    let ran = c.mend.ensures.ran in
    left_behind _ (g.D.Disk.view c.args.disk.now) (g.D.Disk.view c.record_time.new.disk) c.args.self.now c.record_time.new.self (g.D.Disk.view c.mend.new.disk) c.mend.new.self (advanced c.args.now)
    (c.mend.ensures.same sound told honest) (ap (λ (s : Seen). s.pending) c.in-Ok.ensures.ok) (c.mend.ensures.moments sound told honest) (c.record_time.ensures.moments sound (ran.told ∙ told) (ran.kept_honest ∙ honest))

pub returns-clause-ran : goal.returns-clause-ran
returns-clause-ran g c = ran_on OffJournal (g.D.Disk.view c.args.disk.now) (g.D.Disk.view c.mend.new.disk) (g.D.Disk.view c.record_time.new.disk) c.mend.ensures.ran c.record_time.ensures.ran

pub returns-clause-cause : goal.returns-clause-cause
returns-clause-cause g c = on_err c.record_time.result _ _
    (λ rose. risen_on (g.D.Disk.view c.args.disk.now).faults (g.D.Disk.view c.mend.new.disk).faults (g.D.Disk.view c.record_time.new.disk).faults c.mend.ensures.ran.count rose) c.record_time.ensures.cause
