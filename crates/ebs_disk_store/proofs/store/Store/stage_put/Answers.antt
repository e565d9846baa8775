use Rattle.std.proofs.Common.{◌∙◌, sym, ap, subst}
use Rattle.ebs_world.specs.declared.area.Area.{Area}
use Rattle.ebs_world.specs.declared.area.Area.TheVariants.{Blocks}
use Rattle.ebs_world.specs.View.{Ran}
use Rattle.ebs_world.specs.inner.Runs.{ran_on, ran_weaker}
use Rattle.ebs_journal.specs.Opening.{OffJournal}
use Rattle.ebs_slots.specs.Slots.{OffSlot}
use Rattle.ebs_slots.specs.inner.Slots.{IsFree}
use Rattle.ebs_recovery.specs.inner.Fits.{Seen}
use Rattle.ebs_disk_store.specs.Opened.{OffJournalAndSlot}
use Rattle.ebs_disk_store.proofs.Staged.{after_none, area_is, off_journal}
use Rattle.ebs_disk_store.proofs.store.Store.stage_put.Goals as goal

pub returns-clause-moments : goal.returns-clause-moments
returns-clause-moments g c sound told honest =
    let ran = c.mend.ensures.ran in
    after_none _ _ _ _ _ (c.mend.ensures.same sound told honest) (ap (λ (s : Seen). s.pending) c.in-Ok.ensures.ok) (c.mend.ensures.moments sound told honest)
    (c.stage.ensures.moments sound (ran.told ∙ told) (ran.kept_honest ∙ honest))

pub returns-clause-ran : goal.returns-clause-ran
returns-clause-ran g c =
    let old = g.D.Disk.view c.args.disk.now in
    let mid = g.D.Disk.view c.mend.new.disk in
    let new = g.D.Disk.view c.stage.new.disk in
    let one = c.stage.ensures.ran in
    let P = OffJournalAndSlot one.slot in
    let area = ap (λ (s : Seen). s.slots.area) c.in-Ok.ensures.ok ∙ sym (ap (λ (s : Seen). s.slots.area) c.self.view_is) ∙ area_is c.self.inside.slots.area c.self.invariant.area in
    let off : Ran (OffSlot Blocks one.slot) mid new = subst (λ (a : Area). Ran (OffSlot a one.slot) mid new) area one.ran in
    record {
      slot = one.slot;
      free = subst (λ (s : Seen). IsFree s.slots one.slot) c.in-Ok.ensures.ok one.free;
      ran = ran_on P old mid new (ran_weaker OffJournal P old mid (λ a i here. here.0) c.mend.ensures.ran) (ran_weaker (OffSlot Blocks one.slot) P mid new (λ a i here. here.1) off);
    }

pub returns-in_default-clause-ran : goal.returns-in_default-clause-ran
returns-in_default-clause-ran g c =
    off_journal (g.D.Disk.view c.args.disk.now) (g.D.Disk.view c.mend.new.disk) c.args.self.now.slots c.self.inside.slots (ap (λ (s : Seen). s.slots) c.self.view_is) c.top-top.ensures.apart c.mend.ensures.ran
