use Rattle.std.proofs.Common.{arith, sym, ◌∙◌}
use Rattle.ebs_records.specs.inner.Numbers.{apart_long}
use Rattle.ebs_records.proofs.keys.AccountCodec.read.Goals as goal

pub returns-then-number-ge1000000000000 : goal.returns-then-number-ge1000000000000
returns-then-number-ge1000000000000 c v rest h e = let same = apart_long c.in_ok-number.number v _ rest (omega (arith, c.in_ok-number.ensures.0)) (omega (arith, h)) (sym c.in_ok-number.ensures.1 ∙ e) in omega (arith, same.0, c.if-number-ge1000000000000.true, h)
