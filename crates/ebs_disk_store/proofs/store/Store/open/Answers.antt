use Rattle.std.proofs.Common.{◌≡◌, ◌∙◌, Err, refl, subst, sym, rules}
use Rattle.ebs_journal.specs.inner.Line.{line}
use Rattle.ebs_holds.specs.Holds.{nodes_in}
use Rattle.ebs_recovery.specs.inner.Fits.{Seen, Fit}
use Rattle.ebs_disk_store.specs.inner.Creations.{refusal_of}
use Rattle.ebs_disk_store.specs.inner.Opened.{IsRead, OpensAs}
use Rattle.ebs_disk_store.proofs.Opens.{is_read, opened_sound, opens_as, refused_open, unread_open}
use Rattle.ebs_disk_store.proofs.Stood.{stood}
use Rattle.ebs_disk_store.proofs.store.Store.open.Goals as goal

pub returns-in_err-journal-clause-refused : goal.returns-in_err-journal-clause-refused
returns-in_err-journal-clause-refused g c =
    let old = g.D.Disk.view c.args.disk.now in
    let new = g.D.Disk.view c.open.new.disk in
    let is : c.from_residual.result ≡ Err (refusal_of c.in_err-journal.field-0.0) = search rules in
    rw is (refused_open old new c.in_err-journal.field-0.0 c.in_err-journal.ensures.refused)

pub returns-in_err-kept-clause-refused : goal.returns-in_err-kept-clause-refused
returns-in_err-kept-clause-refused g c =
    let old = g.D.Disk.view c.args.disk.now in
    let new = g.D.Disk.view c.open.new.disk in
    let replay = c.in_ok-journal.replay in
    let is : c.from_residual-in_err-kept.result ≡ Err c.in_err-kept.field-0.0 = search rules in
    rw is (unread_open old new (line c.in_ok-journal.journal) replay.checkpoint replay.records (λ told. (c.in_ok-journal.ensures.opened told).journal) c.in_err-kept.field-0.0 c.in_err-kept.ensures.refused)

pub resume-requires : goal.resume-requires
resume-requires g c =
    let replay = c.in_ok-journal.replay in
    let kept = c.in_ok-kept.kept in
    opened_sound replay.checkpoint replay.records kept.machine c.in_ok-kept.slots c.in_ok-kept.ensures.gives (line c.in_ok-journal.journal) kept.holding.queue.waiting (nodes_in kept.holding) replay refl refl c.in_ok-journal.ensures.measured
    c.in_ok-kept.ensures.counted

pub returns-clause-machine : goal.returns-clause-machine
returns-clause-machine g c told honest m =
    let old = g.D.Disk.view c.args.disk.now in
    let new = g.D.Disk.view c.open.new.disk in
    let replay = c.in_ok-journal.replay in
    subst (λ (s : Seen). OpensAs old new s m) (sym c.resume.ensures)
    (opens_as replay.checkpoint replay.records c.in_ok-kept.kept.machine c.in_ok-kept.slots c.in_ok-kept.ensures.gives (line c.in_ok-journal.journal) c.in_ok-kept.kept.holding.queue.waiting old new c.one_base.ensures.alone (c.opened_fits.ensures c.open.new.disk) (c.recorded_rests.ensures c.open.new.disk) c.open.ensures.ran told
    (c.in_ok-journal.ensures.opened told).journal (c.in_ok-journal.ensures.settled told honest) (c.in_ok-journal.ensures.durable told honest) m)

pub returns-clause-fits : goal.returns-clause-fits
returns-clause-fits g c sound told_new honest_new =
    let old = g.D.Disk.view c.args.disk.now in
    let new = g.D.Disk.view c.open.new.disk in
    let replay = c.in_ok-journal.replay in
    let told = sym c.open.ensures.ran.told ∙ told_new in
    let honest = sym c.open.ensures.ran.kept_honest ∙ honest_new in
    let stands = c.requires.sound sound told honest in
    subst (Fit new) (sym c.resume.ensures)
    (opens_as replay.checkpoint replay.records c.in_ok-kept.kept.machine c.in_ok-kept.slots c.in_ok-kept.ensures.gives (line c.in_ok-journal.journal) c.in_ok-kept.kept.holding.queue.waiting old new c.one_base.ensures.alone (c.opened_fits.ensures c.open.new.disk) (c.recorded_rests.ensures c.open.new.disk) c.open.ensures.ran told
    (c.in_ok-journal.ensures.opened told).journal (c.in_ok-journal.ensures.settled told honest) (c.in_ok-journal.ensures.durable told honest) stands.0 stands.1).0

pub returns-clause-read : goal.returns-clause-read
returns-clause-read g c told =
    let old = g.D.Disk.view c.args.disk.now in
    let replay = c.in_ok-journal.replay in
    subst (IsRead old.reads) (sym c.resume.ensures)
    (is_read replay.checkpoint replay.records c.in_ok-kept.kept.machine c.in_ok-kept.slots c.in_ok-kept.ensures.gives (line c.in_ok-journal.journal) c.in_ok-kept.kept.holding.queue.waiting old.reads (c.in_ok-journal.ensures.opened told).journal
    c.in_ok-journal.ensures.measured.end c.in_ok-kept.ensures.waiting)

pub returns-in_err-journal-clause-stood : goal.returns-in_err-journal-clause-stood
returns-in_err-journal-clause-stood g c =
    let old = g.D.Disk.view c.args.disk.now in
    let new = g.D.Disk.view c.open.new.disk in
    let is : c.from_residual.result ≡ Err (refusal_of c.in_err-journal.field-0.0) = search rules in
    rw is (stood c.none_refused.ensures c.one_journal.ensures.journal c.history_replays.ensures.machine c.one_replay.ensures.none_bad c.one_base.ensures.alone old new (refusal_of c.in_err-journal.field-0.0)
    (refused_open old new c.in_err-journal.field-0.0 c.in_err-journal.ensures.refused))

pub returns-in_err-kept-clause-stood : goal.returns-in_err-kept-clause-stood
returns-in_err-kept-clause-stood g c =
    let old = g.D.Disk.view c.args.disk.now in
    let new = g.D.Disk.view c.open.new.disk in
    let replay = c.in_ok-journal.replay in
    let is : c.from_residual-in_err-kept.result ≡ Err c.in_err-kept.field-0.0 = search rules in
    rw is (stood c.none_refused.ensures c.one_journal.ensures.journal c.history_replays.ensures.machine c.one_replay.ensures.none_bad c.one_base.ensures.alone old new c.in_err-kept.field-0.0
    (unread_open old new (line c.in_ok-journal.journal) replay.checkpoint replay.records (λ told. (c.in_ok-journal.ensures.opened told).journal) c.in_err-kept.field-0.0 c.in_err-kept.ensures.refused))
