use Rattle.std.proofs.Common.{ap, subst, ◌∙◌}
use Rattle.ebs_world.specs.Image.{Everywhere}
use Rattle.ebs_world.specs.inner.Runs.{ran_not, ran_weaker}
use Rattle.ebs_journal.specs.Opening.{OffJournal}
use Rattle.ebs_recovery.specs.Made.{called}
use Rattle.ebs_recovery.specs.inner.Fits.{Seen}
use Rattle.ebs_disk_store.proofs.Left.{left_before}
use Rattle.ebs_disk_store.proofs.Staged.{off_journal}
use Rattle.ebs_disk_store.specs.declared.kinds.Kind.{Kind}
use Rattle.ebs_disk_store.specs.inner.Told.{at_reading, called_at}
use Rattle.ebs_disk_store.specs.inner.Applied.{IsOf}
use Rattle.ebs_disk_store.proofs.Afters.{after_applied, after_fetch, after_told, after_view, recorded_after}
use Rattle.ebs_disk_store.proofs.Turns as turns
use Rattle.ebs_disk_store.proofs.Applies.{viewed_cause, fetched_cause, changed_cause, applied_cause}
use Rattle.ebs_disk_store.proofs.RowCalls.{plain}
use Rattle.ebs_disk_store.proofs.Looks.{look}
use Rattle.ebs_disk_store.proofs.Fetches.{fetch_bare}
use Rattle.ebs_disk_store.proofs.Wants.{put_brings, whole_wants}
use Rattle.ebs_disk_store.proofs.store.Store.apply.Goals as goal

pub returns-in-View-clause-moments : goal.returns-in-View-clause-moments
returns-in-View-clause-moments g c sound told honest =
    turns.idle _ (g.D.Disk.view c.args.disk.now) (g.met.D.Disk.true_to_itself c.args.disk.now) (c.fit_stays.ensures.moments c.args.disk.now c.args.disk.now) c.args.self.now c.view.new.self (c.requires.fits sound told honest)
    (called (called_at c.args.account (at_reading c.args.self.now c.args.reading) c.args.request))

pub returns-in-Read-clause-moments : goal.returns-in-Read-clause-moments
returns-in-Read-clause-moments g c sound told honest =
    let old = g.D.Disk.view c.args.disk.now in
    left_before _ old (g.D.Disk.view c.read.new.disk) c.args.self.now c.read.new.self (called (called_at c.args.account (at_reading c.args.self.now c.args.reading) c.args.request)) (c.read.ensures.moments sound told honest)

pub returns-in-View-clause-cause : goal.returns-in-View-clause-cause
returns-in-View-clause-cause g c = viewed_cause c.args.self.now c.view.new.self c.args.account (at_reading c.args.self.now c.args.reading) c.args.request c.view.result c.view.ensures.told

pub returns-in-Read-clause-cause : goal.returns-in-Read-clause-cause
returns-in-Read-clause-cause g c = fetched_cause _ _ _ c.args.self.now c.read.new.self c.args.account (at_reading c.args.self.now c.args.reading) c.args.request c.read.result c.read.ensures.told

pub returns-in-Change-clause-cause : goal.returns-in-Change-clause-cause
returns-in-Change-clause-cause g c = changed_cause _ _ c.args.self.now c.change.new.self c.args.account (at_reading c.args.self.now c.args.reading) c.args.request c.change.result c.change.ensures.told

pub returns-in-Put-clause-cause : goal.returns-in-Put-clause-cause
returns-in-Put-clause-cause g c = applied_cause _ _ _ c.args.self.now c.apply_put.new.self c.args.account (at_reading c.args.self.now c.args.reading) c.args.request c.apply_put.result c.apply_put.ensures.told

pub returns-in-View-clause-pending : goal.returns-in-View-clause-pending
returns-in-View-clause-pending g c = (after_view c.args.self.now c.args.account (at_reading c.args.self.now c.args.reading) c.args.request c.view.new.self c.view.result c.view.ensures.told).pending

pub returns-in-Read-clause-pending : goal.returns-in-Read-clause-pending
returns-in-Read-clause-pending g c = (after_fetch c.args.self.now c.args.account (at_reading c.args.self.now c.args.reading) c.args.request _ _ _ c.read.new.self c.read.result c.read.ensures.told).pending

pub returns-in-Change-clause-pending : goal.returns-in-Change-clause-pending
returns-in-Change-clause-pending g c = (after_told c.args.self.now c.args.account (at_reading c.args.self.now c.args.reading) c.args.request (subst (λ (k : Kind). IsOf k c.args.request) c.in-Change.is c.kind_of.ensures) _ _ c.change.new.self c.change.result c.change.ensures.told).pending

pub returns-in-Put-clause-pending : goal.returns-in-Put-clause-pending
returns-in-Put-clause-pending g c = (after_applied _ _ _ c.args.self.now c.apply_put.new.self c.args.account (at_reading c.args.self.now c.args.reading) c.args.request c.apply_put.result c.apply_put.ensures.told).pending

pub returns-in-View-clause-ran : goal.returns-in-View-clause-ran
returns-in-View-clause-ran g c =
    let view = g.D.Disk.view c.args.disk.now in
    off_journal view view c.args.self.now.slots c.self.inside.slots (ap (λ (s : Seen). s.slots) c.self.view_is) c.top-top.ensures.apart (ran_not OffJournal view (g.met.D.Disk.true_to_itself c.args.disk.now))

pub returns-in-Read-clause-ran : goal.returns-in-Read-clause-ran
returns-in-Read-clause-ran g c =
    let old = g.D.Disk.view c.args.disk.now in
    let new = g.D.Disk.view c.read.new.disk in
    off_journal old new c.args.self.now.slots c.self.inside.slots (ap (λ (s : Seen). s.slots) c.self.view_is) c.top-top.ensures.apart (ran_weaker Everywhere OffJournal old new (λ a i here. tt) c.read.ensures.ran)

pub returns-in-Change-clause-ran : goal.returns-in-Change-clause-ran
returns-in-Change-clause-ran g c =
    off_journal (g.D.Disk.view c.args.disk.now) (g.D.Disk.view c.change.new.disk) c.args.self.now.slots c.self.inside.slots (ap (λ (s : Seen). s.slots) c.self.view_is) c.top-top.ensures.apart c.change.ensures.ran

pub returns-in-View-clause-recorded : goal.returns-in-View-clause-recorded
returns-in-View-clause-recorded g c sound told honest =
    let s = c.args.self.now in
    let disk = c.args.disk.now in
    let view = g.D.Disk.view disk in
    let ran = off_journal view view s.slots c.self.inside.slots (ap (λ (s : Seen). s.slots) c.self.view_is) c.top-top.ensures.apart (ran_not OffJournal view (g.met.D.Disk.true_to_itself disk)) in
    recorded_after view view s c.view.new.self (c.recorded_rests.ensures disk) (c.writing_fits.ensures.machine disk disk) ran
    (c.requires.fits sound told honest) (c.view.ensures.fits sound told honest) (after_view c.args.self.now c.args.account (at_reading c.args.self.now c.args.reading) c.args.request c.view.new.self c.view.result c.view.ensures.told).kept

pub returns-in-Read-clause-recorded : goal.returns-in-Read-clause-recorded
returns-in-Read-clause-recorded g c sound told honest =
    let s = c.args.self.now in
    let old = g.D.Disk.view c.args.disk.now in
    let new = g.D.Disk.view c.read.new.disk in
    let ran = c.read.ensures.ran in
    let one = off_journal old new s.slots c.self.inside.slots (ap (λ (s : Seen). s.slots) c.self.view_is) c.top-top.ensures.apart (ran_weaker Everywhere OffJournal old new (λ a i here. tt) ran) in
    recorded_after old new s c.read.new.self (c.recorded_rests.ensures c.read.new.disk) (c.writing_fits.ensures.machine c.args.disk.now c.read.new.disk) one
    (c.requires.fits sound told honest) (c.read.ensures.fits sound (ran.told ∙ told) (ran.kept_honest ∙ honest)) (after_fetch c.args.self.now c.args.account (at_reading c.args.self.now c.args.reading) c.args.request _ _ _ c.read.new.self c.read.result c.read.ensures.told).kept

pub returns-in-Change-clause-recorded : goal.returns-in-Change-clause-recorded
returns-in-Change-clause-recorded g c sound told honest =
    let s = c.args.self.now in
    let old = g.D.Disk.view c.args.disk.now in
    let new = g.D.Disk.view c.change.new.disk in
    let ran = c.change.ensures.ran in
    let one = off_journal old new s.slots c.self.inside.slots (ap (λ (s : Seen). s.slots) c.self.view_is) c.top-top.ensures.apart ran in
    recorded_after old new s c.change.new.self (c.recorded_rests.ensures c.change.new.disk) (c.writing_fits.ensures.machine c.args.disk.now c.change.new.disk) one
    (c.requires.fits sound told honest) (c.change.ensures.fits sound (ran.told ∙ told) (ran.kept_honest ∙ honest)) (after_told c.args.self.now c.args.account (at_reading c.args.self.now c.args.reading) c.args.request (subst (λ (k : Kind). IsOf k c.args.request) c.in-Change.is c.kind_of.ensures) _ _ c.change.new.self c.change.result c.change.ensures.told).kept

pub returns-in-Put-clause-recorded : goal.returns-in-Put-clause-recorded
returns-in-Put-clause-recorded g c sound told honest =
    let s = c.args.self.now in
    let old = g.D.Disk.view c.args.disk.now in
    let new = g.D.Disk.view c.apply_put.new.disk in
    let one = c.apply_put.ensures.ran in
    let ran = one.ran in
    recorded_after old new s c.apply_put.new.self (c.recorded_rests.ensures c.apply_put.new.disk) (c.writing_fits.ensures.machine c.args.disk.now c.apply_put.new.disk) one
    (c.requires.fits sound told honest) (c.apply_put.ensures.fits sound (ran.told ∙ told) (ran.kept_honest ∙ honest)) (after_applied _ _ _ c.args.self.now c.apply_put.new.self c.args.account (at_reading c.args.self.now c.args.reading) c.args.request c.apply_put.result c.apply_put.ensures.told).kept

pub returns-in-View-clause-memory : goal.returns-in-View-clause-memory
returns-in-View-clause-memory g c sound told honest = λ is brings.
    let kind = subst (λ (k : Kind). IsOf k c.args.request) c.in-View.is c.kind_of.ensures in
    whole_wants (g.D.Disk.view c.args.disk.now) (g.met.D.Disk.true_to_itself c.args.disk.now) c.kept_form.ensures.acts c.kept_form.ensures.ages c.args.self.now (c.requires.fits sound told honest)
    (at_reading c.args.self.now c.args.reading) c.args.account c.args.request (look c.args.request kind).bare (c.view.ensures.memory is)

pub returns-in-Read-clause-memory : goal.returns-in-Read-clause-memory
returns-in-Read-clause-memory g c sound told honest = λ is brings.
    let kind = subst (λ (k : Kind). IsOf k c.args.request) c.in-Read.is c.kind_of.ensures in
    whole_wants (g.D.Disk.view c.args.disk.now) (g.met.D.Disk.true_to_itself c.args.disk.now) c.kept_form.ensures.acts c.kept_form.ensures.ages c.args.self.now (c.requires.fits sound told honest)
    (at_reading c.args.self.now c.args.reading) c.args.account c.args.request (fetch_bare c.args.request kind) (c.read.ensures.memory is)

pub returns-in-Change-clause-memory : goal.returns-in-Change-clause-memory
returns-in-Change-clause-memory g c sound told honest = λ is brings.
    let kind = subst (λ (k : Kind). IsOf k c.args.request) c.in-Change.is c.kind_of.ensures in
    whole_wants (g.D.Disk.view c.args.disk.now) (g.met.D.Disk.true_to_itself c.args.disk.now) c.kept_form.ensures.acts c.kept_form.ensures.ages c.args.self.now (c.requires.fits sound told honest)
    (at_reading c.args.self.now c.args.reading) c.args.account c.args.request (plain c.args.request kind).kept (c.change.ensures.memory is)

pub returns-in-Put-clause-memory : goal.returns-in-Put-clause-memory
returns-in-Put-clause-memory g c sound told honest = λ is brings. absurd (put_brings c.args.request (subst (λ (k : Kind). IsOf k c.args.request) c.in-Put.is c.kind_of.ensures) brings)
