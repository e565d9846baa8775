use Rattle.std.proofs.Common.{arith, sym, ◌∙◌}
use Rattle.ebs_records.specs.inner.Numbers.{apart_word}
use Rattle.ebs_records.proofs.keys.KeyNumberCodec.read.Goals as goal

pub returns-then-number : goal.returns-then-number
returns-then-number c v rest h e = let same = apart_word c.in_ok-number.number v _ rest (omega (arith, c.in_ok-number.ensures.0)) (omega (arith, h)) (sym c.in_ok-number.ensures.1 ∙ e) in omega (arith, same.0, c.if-number.true, h)
