use Rattle.std.proofs.Common.{◌≡◌, true, arith}
use Rattle.ebs_words.proofs.Numbers.{number_signed, number_found, number_above, number_unread}
use Rattle.ebs_words.proofs.values.read_number.Goals as goal

pub returns-then-not-begins_above_zero : goal.returns-then-not-begins_above_zero
returns-then-not-begins_above_zero c =
    number_signed c.args.most c.args.text.now (omega (arith, c.ranges.most)) (λ first.
    let yes : c.begins_above_zero.result ≡ true = c.begins_above_zero.ensures.1 (rw c.as_bytes.ensures.value first) in
    let no = c.if-not-begins_above_zero.true in
    grind (arith, yes, no))

pub returns-in-Ok : goal.returns-in-Ok
returns-in-Ok c =
    let first = rw c.as_bytes.ensures.value at c.begins_above_zero.ensures.0 (grind (arith, c.if-not-begins_above_zero.false)) in
    number_found c.args.most c.args.text.now c.parse.result c.in-Ok.number (omega (arith, c.ranges.most)) first c.parse.ensures.value.0 c.in-Ok.is c.if-number-most.true

pub returns-in_default : goal.returns-in_default
returns-in_default c = number_above c.args.most c.args.text.now c.parse.result c.in-Ok.number (omega (arith, c.ranges.most)) c.parse.ensures.value.0 c.in-Ok.is c.if-number-most.false

pub returns-in_default-2 : goal.returns-in_default-2
returns-in_default-2 c = number_unread c.args.most c.args.text.now c.parse.result c.in_default.field-0 (omega (arith, c.ranges.most)) c.parse.ensures.value.0 c.in_default.is
