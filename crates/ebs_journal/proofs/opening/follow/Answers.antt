use Rattle.std.proofs.Common.{◌≡◌, ◌≢◌, ◌+◌, ◌*◌, ◌≤◌, length, true, Err, refl, arith, rules}
use Rattle.ebs_world.specs.Image.{Image, Spells}
use Rattle.ebs_journal.specs.declared.refusal.JournalRefusal.{JournalRefusal}
use Rattle.ebs_journal.specs.Format.{entries}
use Rattle.ebs_journal.specs.Opening.{IsRefused}
use Rattle.ebs_journal.specs.inner.Reading.{IsFound, IsRecordsRefusal}
use Rattle.ebs_journal.proofs.Opened.{records_long, opened_there, refused_there}
use Rattle.ebs_journal.proofs.Pieces.{reads_on, at_first}
use Rattle.ebs_journal.proofs.Walking.{refuses_on}
use Rattle.ebs_journal.proofs.opening.follow.Goals as goal

pub returns-in_err-read-clause-ran : goal.returns-in_err-read-clause-ran
returns-in_err-read-clause-ran g c = reads_on _ _ _ c.read_bytes.ensures.ran c.read_records.ensures.ran

pub returns-in_err-buffer-clause-ran : goal.returns-in_err-buffer-clause-ran
returns-in_err-buffer-clause-ran g c = reads_on _ _ _ c.read_bytes.ensures.ran c.read_records.ensures.ran

pub returns-clause-ran : goal.returns-clause-ran
returns-clause-ran g c = reads_on _ _ _ c.read_bytes.ensures.ran c.read_records.ensures.ran

pub returns-in_err-read-clause-refused : goal.returns-in_err-read-clause-refused
returns-in_err-read-clause-refused g c =
    let old = g.D.Disk.view c.args.disk.now in
    let mid = g.D.Disk.view c.read_bytes.new.disk in
    let first = 29 + c.args.found.now.front.length in
    let P : JournalRefusal → Type 0 = λ e. (g.D.Disk.view c.read_bytes.new.disk).tells ≡ true → IsRecordsRefusal ((g.D.Disk.view c.read_bytes.new.disk).reads c.args.found.now.area) (29 + c.args.found.now.front.length) e in
    let Q : JournalRefusal → Type 0 = λ e. (g.D.Disk.view c.args.disk.now).tells ≡ true → IsFound (g.D.Disk.view c.args.disk.now).reads c.args.found.now → IsRefused (g.D.Disk.view c.args.disk.now).reads e in
    let implies : (e : JournalRefusal) → P e → Q e = λ e has told found. refused_there (g.D.Disk.view c.args.disk.now).reads c.args.found.now found e
    (at_first _ _ (λ (i : Image). IsRecordsRefusal (i c.args.found.now.area) (29 + c.args.found.now.front.length) e) c.read_bytes.ensures.ran has told) in
    let is : c.from_residual-in_err-read.result ≡ Err c.in_err-read.field-0.0 = search rules in
    rw is (refuses_on (g.D.Disk.view c.args.disk.now) (g.D.Disk.view c.read_bytes.new.disk) (g.D.Disk.view c.read_records.new.disk) P Q c.read_bytes.ensures.ran.count implies c.in_err-read.field-0.0 c.in_err-read.ensures.refused)

pub invariant_of-journal : goal.invariant_of-journal
invariant_of-journal g c =
    let sized = c.in_ok-read.ensures.sized in
    let many : c.len.result ≡ length c.in_ok-read.read.records.items = omega (arith, c.len.ensures) in
    let long : 6 * length c.in_ok-read.read.records.items ≤ length (entries c.in_ok-read.read.records.items) = records_long c.in_ok-read.read.records.items sized.records in
    record {
      in_journal = c.requires.in_journal;
      room = c.in_ok-buffer.ensures;
      far = omega (arith, many, long, sized.ends);
      within = omega (arith, sized.within);
      sure = refl;
    }

pub returns-clause-opened : goal.returns-clause-opened
returns-clause-opened g c told found =
    let many : c.len.result ≡ length c.in_ok-read.read.records.items = omega (arith, c.len.ensures) in
    let area = c.args.found.now.area in
    let first = 29 + c.args.found.now.front.length in
    opened_there (g.D.Disk.view c.args.disk.now).reads c.args.found.now found (search rules) c.in_ok-checkpoint.checkpoint.items c.in_ok-checkpoint.ensures.size
    (c.in_ok-checkpoint.ensures.bytes told)
    c.in_ok-read.read.records.items c.in_ok-read.read.places.items c.in_ok-read.read.gate c.in_ok-read.ensures.sized
    (at_first _ _ (λ (i : Image). Spells (i c.args.found.now.area) (29 + c.args.found.now.front.length) (entries c.in_ok-read.read.records.items)) c.read_bytes.ensures.ran c.in_ok-read.ensures.spelled told)
    (at_first _ _ (λ (i : Image). i c.args.found.now.area c.in_ok-read.read.gate ≢ 1) c.read_bytes.ensures.ran c.in_ok-read.ensures.shut told)
    c.len.result many _ c.from_vec.ensures c.from_vec-2.ensures c.from_vec-3.ensures
