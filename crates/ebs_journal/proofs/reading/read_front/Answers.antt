use Rattle.std.proofs.Common.{rules}
use Rattle.std.specs.Int.{w32, w64, to_be_bytes}
use Rattle.ebs_world.specs.Image.{Image, Spells}
use Rattle.ebs_journal.proofs.Pieces.{reads_on, at_first, front_is}
use Rattle.ebs_journal.proofs.reading.read_front.Goals as goal

pub returns-in_err-version-clause-ran : goal.returns-in_err-version-clause-ran
returns-in_err-version-clause-ran g c = reads_on _ _ _ c.read_nine.ensures.ran c.read_u32.ensures.ran

pub returns-in_err-epoch-clause-ran : goal.returns-in_err-epoch-clause-ran
returns-in_err-epoch-clause-ran g c = reads_on _ _ _ (reads_on _ _ _ c.read_nine.ensures.ran c.read_u32.ensures.ran) c.read_u64.ensures.ran

pub returns-in_err-length-clause-ran : goal.returns-in_err-length-clause-ran
returns-in_err-length-clause-ran g c = reads_on _ _ _ (reads_on _ _ _ (reads_on _ _ _ c.read_nine.ensures.ran c.read_u32.ensures.ran) c.read_u64.ensures.ran) c.read_u64-2.ensures.ran

pub returns-clause-front : goal.returns-clause-front
returns-clause-front g c told =
    let one = c.read_nine.ensures.ran in
    let two = reads_on _ _ _ one c.read_u32.ensures.ran in
    let three = reads_on _ _ _ two c.read_u64.ensures.ran in
    front_is ((g.D.Disk.view c.args.disk.now).reads c.args.area) _ (search rules) (search rules) (search rules) (search rules)
    (c.in_ok-nine.ensures.bytes told)
    (at_first _ _ (λ (r : Image). Spells (r c.args.area) 9 (to_be_bytes w32 c.in_ok-version.version)) one c.in_ok-version.ensures.bytes told)
    (at_first _ _ (λ (r : Image). Spells (r c.args.area) 13 (to_be_bytes w64 c.in_ok-epoch.epoch)) two c.in_ok-epoch.ensures.bytes told)
    (at_first _ _ (λ (r : Image). Spells (r c.args.area) 21 (to_be_bytes w64 c.in_ok-length.length)) three c.in_ok-length.ensures.bytes told)

pub returns-clause-ran : goal.returns-clause-ran
returns-clause-ran g c = reads_on _ _ _ (reads_on _ _ _ (reads_on _ _ _ c.read_nine.ensures.ran c.read_u32.ensures.ran) c.read_u64.ensures.ran) c.read_u64-2.ensures.ran
