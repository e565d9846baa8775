use Rattle.std.proofs.Common.{arith}
use Rattle.std.proofs.lemmas.Int.Digits.{digits_value_more}
use Rattle.std.proofs.lemmas.Grind.{pow_more}
use Rattle.ebs_http.proofs.LengthLemmas.{digit_at}
use Rattle.ebs_http.proofs.length.digits_value.Goals as goal

pub loop-byte-preserved : goal.loop-byte-preserved
loop-byte-preserved c =
    let i = c.loop-byte.byte-index in
    let more = digits_value_more 10 c.args.text.now i c.loop-byte-test.true in
    let digit = digit_at c.args.text.now i c.requires.digits c.loop-byte-test.true in
    let power = pow_more 10 i in
    (omega (arith, more, digit.0, digit.1, c.from.ensures, c.loop-byte.invariant.0), omega (arith, power, digit.1, digit.2, c.from.ensures, c.loop-byte.invariant.1))
