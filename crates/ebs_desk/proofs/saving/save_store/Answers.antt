use Rattle.std.proofs.Common.{Result, IsErrOf, inl, inr, refl, sym, subst}
use Rattle.ebs_world.specs.inner.Runs.{leaves_not, ran_not}
use Rattle.ebs_journal.specs.Opening.{OffJournal}
use Rattle.ebs_recovery.specs.Made.{advanced}
use Rattle.ebs_recovery.specs.inner.Fits.{StandsForOne}
use Rattle.ebs_disk_store.specs.declared.pointing.StoreStop.{StoreStop}
use Rattle.ebs_disk_store.specs.declared.pointing.StoreStop.TheVariants.{Unavailable}
use Rattle.ebs_disk_store.specs.inner.Pointed.{IsPointed, Pointed}
use Rattle.ebs_disk_store.proofs.Left.{left_before, left_told}
use Rattle.ebs_desk.specs.Saves.{passed, written}
use Rattle.ebs_desk.proofs.Savings.{done_is_no_stop, no_stop, same_stop, same_cause}
use Rattle.ebs_desk.proofs.saving.save_store.Goals as goal

pub returns-then-records-least-clause-told : goal.returns-then-records-least-clause-told
returns-then-records-least-clause-told g c = (passed refl refl, sym c.records-records.ensures, inr c.if-records-least.true)

pub returns-then-records-least-clause-moments : goal.returns-then-records-least-clause-moments
returns-then-records-least-clause-moments g c sound told honest = let v = g.D.Disk.view c.args.disk.now in let s = c.args.store.now in
    left_before _ v v s s (advanced s.clock) (leaves_not v (StandsForOne v s) (g.met.D.Disk.true_to_itself c.args.disk.now) honest (c.images_stand_for_one.ensures c.args.disk.now s (c.requires.fits sound told honest)))

pub returns-then-records-least-clause-ran : goal.returns-then-records-least-clause-ran
returns-then-records-least-clause-ran g c = ran_not OffJournal (g.D.Disk.view c.args.disk.now) (g.met.D.Disk.true_to_itself c.args.disk.now)

pub returns-then-records-least-clause-unavailable : goal.returns-then-records-least-clause-unavailable
returns-then-records-least-clause-unavailable g c err = absurd (done_is_no_stop c.records-records.result Unavailable err)

pub returns-in-Ok-clause-told : goal.returns-in-Ok-clause-told
returns-in-Ok-clause-told g c = let is : IsPointed c.args.store.now c.checkpoint.new.self = subst (λ (r : Result (Unit {0}) StoreStop). Pointed c.args.store.now c.checkpoint.new.self r) c.in-Ok.is c.checkpoint.ensures.told in
    (written is c.in-Ok.ensures.aged, is.records, inl refl)

pub returns-in-Ok-clause-moments : goal.returns-in-Ok-clause-moments
returns-in-Ok-clause-moments g c sound told honest = left_told (IsErrOf c.checkpoint.result Unavailable) _ (λ err. absurd (no_stop c.checkpoint.result tt Unavailable c.in-Ok.is err))
    (g.D.Disk.view c.args.disk.now) (g.D.Disk.view c.checkpoint.new.disk) c.args.store.now c.checkpoint.new.self (advanced c.args.store.now.clock) (c.checkpoint.ensures.moments sound told honest)

pub returns-in-Ok-clause-unavailable : goal.returns-in-Ok-clause-unavailable
returns-in-Ok-clause-unavailable g c err = absurd (done_is_no_stop 0 Unavailable err)

pub returns-in-Err-clause-told : goal.returns-in-Err-clause-told
returns-in-Err-clause-told g c = subst (λ (r : Result (Unit {0}) StoreStop). Pointed c.args.store.now c.checkpoint.new.self r) c.in-Err.is c.checkpoint.ensures.told

pub returns-in-Err-clause-moments : goal.returns-in-Err-clause-moments
returns-in-Err-clause-moments g c sound told honest = left_told (IsErrOf c.checkpoint.result Unavailable) _ (λ err. same_stop c.checkpoint.result c.in-Err.stop Unavailable c.in-Err.is err)
    (g.D.Disk.view c.args.disk.now) (g.D.Disk.view c.checkpoint.new.disk) c.args.store.now c.checkpoint.new.self (advanced c.args.store.now.clock) (c.checkpoint.ensures.moments sound told honest)

pub returns-in-Err-clause-unavailable : goal.returns-in-Err-clause-unavailable
returns-in-Err-clause-unavailable g c err = c.checkpoint.ensures.unavailable (same_cause c.checkpoint.result c.in-Err.stop Unavailable c.in-Err.is err)
