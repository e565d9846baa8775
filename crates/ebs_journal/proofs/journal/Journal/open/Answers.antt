use Rattle.std.proofs.Common.{◌≡◌, true, Err, rules}
use Rattle.ebs_world.specs.Image.{Image}
use Rattle.std.proofs.lemmas.Result.{IfOk-weaker, IfErr-weaker}
use Rattle.ebs_journal.specs.declared.refusal.JournalRefusal.{JournalRefusal}
use Rattle.ebs_journal.specs.inner.Line.{line}
use Rattle.ebs_journal.specs.Opening.{IsRefused}
use Rattle.ebs_journal.specs.inner.Reading.{IsFound}
use Rattle.ebs_journal.specs.inner.Standing.{IsOpened}
use Rattle.ebs_journal.proofs.Opened.{settled_there, durable_there}
use Rattle.ebs_journal.proofs.Pieces.{reads_on, at_first}
use Rattle.ebs_journal.proofs.Walking.{refuses_on}
use Rattle.ebs_journal.proofs.journal.Journal.open.Goals as goal

pub returns-in_err-found-clause-ran : goal.returns-in_err-found-clause-ran
returns-in_err-found-clause-ran g c = reads_on _ _ _ c.sync_all.ensures.ran c.locate.ensures.ran

pub returns-in_err-found-clause-refused : goal.returns-in_err-found-clause-refused
returns-in_err-found-clause-refused g c =
    let P : JournalRefusal → Type 0 = λ e. (g.D.Disk.view c.sync_all.new.disk).tells ≡ true → IsRefused (g.D.Disk.view c.sync_all.new.disk).reads e in
    let Q : JournalRefusal → Type 0 = λ e. (g.D.Disk.view c.args.disk.now).tells ≡ true → IsRefused (g.D.Disk.view c.args.disk.now).reads e in
    let implies : (e : JournalRefusal) → P e → Q e = λ e has told. at_first _ _ (λ (i : Image). IsRefused i e) c.sync_all.ensures.ran has told in
    let is : c.from_residual-in_err-found.result ≡ Err c.in_err-found.field-0.0 = search rules in
    rw is (refuses_on (g.D.Disk.view c.args.disk.now) (g.D.Disk.view c.sync_all.new.disk) (g.D.Disk.view c.locate.new.disk) P Q c.sync_all.ensures.ran.count implies c.in_err-found.field-0.0 c.in_err-found.ensures.refused)

pub returns-clause-ran : goal.returns-clause-ran
returns-clause-ran g c = reads_on _ _ _ (reads_on _ _ _ c.sync_all.ensures.ran c.locate.ensures.ran) c.follow.ensures.ran

pub returns-clause-opened : goal.returns-clause-opened
returns-clause-opened g c = IfOk-weaker c.follow.result _ _ (λ p has told.
    let two = reads_on _ _ _ c.sync_all.ensures.ran c.locate.ensures.ran in
    let found = at_first _ _ (λ (i : Image). IsFound i c.in_ok-found.found) c.sync_all.ensures.ran c.in_ok-found.ensures.found told in
    let later : (g.D.Disk.view c.locate.new.disk).tells ≡ true → IsFound (g.D.Disk.view c.locate.new.disk).reads c.in_ok-found.found → IsOpened (g.D.Disk.view c.locate.new.disk).reads (line p.0) p.1 = has in
    at_first _ _ (λ (i : Image). IsFound i c.in_ok-found.found → IsOpened i (line p.0) p.1) two later told found)
    c.follow.ensures.opened

pub returns-clause-settled : goal.returns-clause-settled
returns-clause-settled g c = IfOk-weaker c.follow.result _ _ (λ p has told honest.
    let one = c.sync_all.ensures.ran in
    let two = reads_on _ _ _ one c.locate.ensures.ran in
    let behind = reads_on _ _ _ c.locate.ensures.ran c.follow.ensures.ran in
    let found = at_first _ _ (λ (i : Image). IsFound i c.in_ok-found.found) one c.in_ok-found.ensures.found told in
    let later : (g.D.Disk.view c.locate.new.disk).tells ≡ true → IsFound (g.D.Disk.view c.locate.new.disk).reads c.in_ok-found.found → IsOpened (g.D.Disk.view c.locate.new.disk).reads (line p.0) p.1 = has in
    let opened = at_first _ _ (λ (i : Image). IsFound i c.in_ok-found.found → IsOpened i (line p.0) p.1) two later told found in
    settled_there (g.D.Disk.view c.args.disk.now) (g.D.Disk.view c.sync_all.new.disk) (g.D.Disk.view c.follow.new.disk) one behind told honest (c.in_ok-sync_all.ensures.durable told honest) (line p.0) p.1 opened)
    c.follow.ensures.opened

pub returns-clause-refused : goal.returns-clause-refused
returns-clause-refused g c =
    let two = reads_on _ _ _ c.sync_all.ensures.ran c.locate.ensures.ran in
    let P : JournalRefusal → Type 0 = λ e. (g.D.Disk.view c.locate.new.disk).tells ≡ true → IsFound (g.D.Disk.view c.locate.new.disk).reads c.in_ok-found.found → IsRefused (g.D.Disk.view c.locate.new.disk).reads e in
    let Q : JournalRefusal → Type 0 = λ e. (g.D.Disk.view c.args.disk.now).tells ≡ true → IsRefused (g.D.Disk.view c.args.disk.now).reads e in
    let implies : (e : JournalRefusal) → P e → Q e = λ e has told.
    at_first _ _ (λ (i : Image). IsFound i c.in_ok-found.found → IsRefused i e) two has told (at_first _ _ (λ (i : Image). IsFound i c.in_ok-found.found) c.sync_all.ensures.ran c.in_ok-found.ensures.found told) in
    IfErr-weaker c.follow.result _ _ (λ e has. refuses_on (g.D.Disk.view c.args.disk.now) (g.D.Disk.view c.locate.new.disk) (g.D.Disk.view c.follow.new.disk) P Q two.count implies e has) c.follow.ensures.refused

pub returns-clause-durable : goal.returns-clause-durable
returns-clause-durable g c = IfOk-weaker c.follow.result _ _ (λ p has told honest.
    durable_there (g.D.Disk.view c.args.disk.now) (g.D.Disk.view c.sync_all.new.disk) (g.D.Disk.view c.follow.new.disk) c.sync_all.ensures.ran (reads_on _ _ _ c.locate.ensures.ran c.follow.ensures.ran) told honest (c.in_ok-sync_all.ensures.durable told honest))
    c.follow.ensures.measured
