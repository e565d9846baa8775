use Rattle.std.proofs.Common.{arith}
use Rattle.std.proofs.lemmas.Int.Digits.{digits_value_more}
use Rattle.std.proofs.lemmas.Grind.{pow_more}
use Rattle.ebs_model.proofs.IdDigits.{decimal_at, power_below}
use Rattle.ebs_model.proofs.readers.decimal_value.Goals as goal

pub loop-byte-preserved : goal.loop-byte-preserved
loop-byte-preserved c =
    let i = c.loop-byte.byte-index in
    let more = digits_value_more 10 c.args.digits.now i c.loop-byte-test.true in
    let digit = decimal_at c.args.digits.now i c.requires.decimal c.loop-byte-test.true in
    let power = pow_more 10 i in
    (omega (arith, more, digit.0, digit.1, c.from.ensures, c.loop-byte.invariant.0), omega (arith, power, digit.1, digit.2, c.from.ensures, c.loop-byte.invariant.1))

pub overflow_mul-value : goal.overflow_mul-value
overflow_mul-value c = omega (arith, power_below 10 c.loop-byte.byte-index 12, c.loop-byte.invariant.1)

pub overflow_add-value : goal.overflow_add-value
overflow_add-value c = omega (arith, power_below 10 c.loop-byte.byte-index 12, c.loop-byte.invariant.1)
