use Rattle.std.proofs.Common.{◌≡◌, ◌∙◌, true}
use Rattle.std.proofs.lemmas.Result.{IfOk-weaker, IfErr-weaker}
use Rattle.ebs_world.specs.declared.area.Area.TheVariants.{Journal0, Journal1}
use Rattle.ebs_world.specs.Image.{Image}
use Rattle.ebs_journal.specs.declared.refusal.JournalRefusal.{JournalRefusal}
use Rattle.ebs_journal.specs.Opening.{IsMade, IsRefused}
use Rattle.ebs_journal.specs.inner.Reading.{IsFront}
use Rattle.ebs_journal.proofs.Pieces.{reads_on, at_first}
use Rattle.ebs_journal.proofs.Walking.{judged}
use Rattle.ebs_journal.proofs.opening.locate.Goals as goal

pub returns-in_err-first-clause-ran : goal.returns-in_err-first-clause-ran
returns-in_err-first-clause-ran g c = reads_on _ _ _ c.read_byte.ensures.ran c.read_front.ensures.ran

pub returns-in_err-second-clause-ran : goal.returns-in_err-second-clause-ran
returns-in_err-second-clause-ran g c = reads_on _ _ _ (reads_on _ _ _ c.read_byte.ensures.ran c.read_front.ensures.ran) c.read_front-2.ensures.ran

pub returns-clause-ran : goal.returns-clause-ran
returns-clause-ran g c = reads_on _ _ _ (reads_on _ _ _ c.read_byte.ensures.ran c.read_front.ensures.ran) c.read_front-2.ensures.ran

pub returns-clause-found : goal.returns-clause-found
returns-clause-found g c = IfOk-weaker c.find.result _ _ (λ found has told.
    let two = reads_on _ _ _ c.read_byte.ensures.ran c.read_front.ensures.ran in
    has (g.D.Disk.view c.args.disk.now).reads
    (λ is. c.if-branch-eq0.false (c.in_ok-read_byte.ensures.byte told ∙ is))
    (at_first _ _ (λ (i : Image). IsFront (i Journal0) c.in_ok-first.first) c.read_byte.ensures.ran c.in_ok-first.ensures.front told)
    (at_first _ _ (λ (i : Image). IsFront (i Journal1) c.in_ok-second.second) two c.in_ok-second.ensures.front told))
    c.find.ensures.found

pub returns-clause-refused : goal.returns-clause-refused
returns-clause-refused g c =
    let two = reads_on _ _ _ c.read_byte.ensures.ran c.read_front.ensures.ran in
    let first = c.in_ok-first.first in
    let second = c.in_ok-second.second in
    let P : JournalRefusal → Type 0 = λ e. (i : Image) → IsMade i → IsFront (i Journal0) first → IsFront (i Journal1) second → IsRefused i e in
    let Q : JournalRefusal → Type 0 = λ e. (g.D.Disk.view c.args.disk.now).tells ≡ true → IsRefused (g.D.Disk.view c.args.disk.now).reads e in
    let implies : (e : JournalRefusal) → P e → Q e = λ e right told.
    right (g.D.Disk.view c.args.disk.now).reads
    (λ is. c.if-branch-eq0.false (c.in_ok-read_byte.ensures.byte told ∙ is))
    (at_first _ _ (λ (i : Image). IsFront (i Journal0) first) c.read_byte.ensures.ran c.in_ok-first.ensures.front told)
    (at_first _ _ (λ (i : Image). IsFront (i Journal1) second) two c.in_ok-second.ensures.front told) in
    IfErr-weaker c.find.result _ _ (λ e has. judged (g.D.Disk.view c.args.disk.now) (g.D.Disk.view c.read_front-2.new.disk) P Q implies e has) c.find.ensures.refused
