use Rattle.std.proofs.Common.{◌+◌, sym}
use Rattle.std.specs.Int.{w32, to_be_bytes}
use Rattle.ebs_world.specs.Image.{Image, Spells}
use Rattle.ebs_journal.proofs.Pieces.{reads_on, at_first}
use Rattle.ebs_journal.proofs.reading.read_ahead.Goals as goal

pub returns-clause-ran : goal.returns-clause-ran
returns-clause-ran g c = reads_on _ _ _ c.read_byte.ensures.ran c.read_u32.ensures.ran

pub returns-clause-ahead : goal.returns-clause-ahead
returns-clause-ahead g c told = (sym (c.in_ok-gate.ensures.byte told), at_first _ _ (λ (r : Image). Spells (r c.args.area) (c.args.at + 1) (to_be_bytes w32 c.in_ok-length.length)) c.read_byte.ensures.ran c.in_ok-length.ensures.bytes told)

pub returns-in_err-length-clause-ran : goal.returns-in_err-length-clause-ran
returns-in_err-length-clause-ran g c = reads_on _ _ _ c.read_byte.ensures.ran c.read_u32.ensures.ran
