use Rattle.std.proofs.Common.{◌∙◌, ap, inl, refl}
use Rattle.std.specs.Prelude.{IsErr}
use Rattle.ebs_world.specs.inner.Runs.{leaves_weaker, ran_on}
use Rattle.ebs_journal.specs.Opening.{OffJournal}
use Rattle.ebs_recovery.specs.inner.Fits.{recorded}
use Rattle.ebs_disk_store.proofs.Collects.{not_err}
use Rattle.ebs_disk_store.proofs.Pointed.{left_pointed, running_pointed}
use Rattle.ebs_disk_store.proofs.store.Store.checkpoint.Goals as goal

pub returns-in_default-clause-moments : goal.returns-in_default-clause-moments
returns-in_default-clause-moments g c sound told honest = leaves_weaker _ _ _ _ (λ image h. inl h) (c.mend.ensures.moments sound told honest)

pub returns-then-epoch-ge-MOST_EPOCHS-clause-moments : goal.returns-then-epoch-ge-MOST_EPOCHS-clause-moments
returns-then-epoch-ge-MOST_EPOCHS-clause-moments g c sound told honest = leaves_weaker _ _ _ _ (λ image h. inl h) (c.mend.ensures.moments sound told honest)

pub returns-in-Err-Long-clause-moments : goal.returns-in-Err-Long-clause-moments
returns-in-Err-Long-clause-moments g c sound told honest = leaves_weaker _ _ _ _ (λ image h. inl h) (c.mend.ensures.moments sound told honest)

pub returns-in-Err-Memory-clause-moments : goal.returns-in-Err-Memory-clause-moments
returns-in-Err-Memory-clause-moments g c sound told honest = leaves_weaker _ _ _ _ (λ image h. inl h) (c.mend.ensures.moments sound told honest)

pub returns-in-Ok-turn_to-clause-machine : goal.returns-in-Ok-turn_to-clause-machine
returns-in-Ok-turn_to-clause-machine g c sound told honest =
    let old = g.D.Disk.view c.args.disk.now in
    let mid = g.D.Disk.view c.mend.new.disk in
    let ran = c.mend.ensures.ran in
    running_pointed old mid (g.D.Disk.view c.turn_to.new.disk) c.args.self.now c.next_bytes.new.self c.turn_to.new.self (c.next_bytes.ensures.same ∙ c.in-Ok.ensures.ok)
    (ap (recorded mid) c.next_bytes.ensures.same ∙ c.mend.ensures.same sound told honest) c.in-Ok-turn_to.ensures.ok (c.in-Ok-turn_to.ensures.aged sound (ran.told ∙ told) (ran.kept_honest ∙ honest))

pub returns-in-Ok-turn_to-clause-moments : goal.returns-in-Ok-turn_to-clause-moments
returns-in-Ok-turn_to-clause-moments g c sound told honest =
    let old = g.D.Disk.view c.args.disk.now in
    let mid = g.D.Disk.view c.mend.new.disk in
    let ran = c.mend.ensures.ran in
    left_pointed old mid (g.D.Disk.view c.turn_to.new.disk) c.args.self.now c.next_bytes.new.self c.turn_to.new.self (c.next_bytes.ensures.same ∙ c.in-Ok.ensures.ok)
    (ap (recorded mid) c.next_bytes.ensures.same ∙ c.mend.ensures.same sound told honest) (IsErr c.turn_to.result) _ (λ err. not_err c.turn_to.result tt c.in-Ok-turn_to.is err)
    (c.mend.ensures.moments sound told honest) (c.turn_to.ensures.moments sound (ran.told ∙ told) (ran.kept_honest ∙ honest))

pub returns-in-Ok-turn_to-clause-ran : goal.returns-in-Ok-turn_to-clause-ran
returns-in-Ok-turn_to-clause-ran g c = ran_on OffJournal (g.D.Disk.view c.args.disk.now) (g.D.Disk.view c.mend.new.disk) (g.D.Disk.view c.turn_to.new.disk) c.mend.ensures.ran c.turn_to.ensures.ran

pub returns-clause-moments : goal.returns-clause-moments
returns-clause-moments g c sound told honest =
    let old = g.D.Disk.view c.args.disk.now in
    let mid = g.D.Disk.view c.mend.new.disk in
    let ran = c.mend.ensures.ran in
    left_pointed old mid (g.D.Disk.view c.turn_to.new.disk) c.args.self.now c.next_bytes.new.self c.turn_to.new.self (c.next_bytes.ensures.same ∙ c.in-Ok.ensures.ok)
    (ap (recorded mid) c.next_bytes.ensures.same ∙ c.mend.ensures.same sound told honest) (IsErr c.turn_to.result) _ (λ err. refl)
    (c.mend.ensures.moments sound told honest) (c.turn_to.ensures.moments sound (ran.told ∙ told) (ran.kept_honest ∙ honest))

pub returns-clause-ran : goal.returns-clause-ran
returns-clause-ran g c = ran_on OffJournal (g.D.Disk.view c.args.disk.now) (g.D.Disk.view c.mend.new.disk) (g.D.Disk.view c.turn_to.new.disk) c.mend.ensures.ran c.turn_to.ensures.ran
