use Rattle.std.proofs.Common.{arith}
use Rattle.std.proofs.lemmas.Int.Digits.{digits_value_more}
use Rattle.std.proofs.lemmas.Grind.{pow_more}
use Rattle.ebs_model.proofs.IdDigits.{power_below}
use Rattle.ebs_model.proofs.readers.hex_value.Goals as goal

pub overflow_mul-value : goal.overflow_mul-value
overflow_mul-value c = omega (arith, power_below 16 c.loop-byte.byte-index 10, c.loop-byte.invariant.1)

pub overflow_add-value : goal.overflow_add-value
overflow_add-value c = omega (arith, power_below 16 c.loop-byte.byte-index 10, c.loop-byte.invariant.1)

pub loop-byte-preserved : goal.loop-byte-preserved
loop-byte-preserved c =
    let i = c.loop-byte.byte-index in
    let more = digits_value_more 16 c.args.digits.now i c.loop-byte-test.true in
    let power = pow_more 16 i in
    let digit = c.hex_digit.ensures in
    (omega (arith, more, digit.value, c.from.ensures, c.loop-byte.invariant.0), omega (arith, power, digit.below, c.from.ensures, c.loop-byte.invariant.1))
