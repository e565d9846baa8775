use Rattle.std.proofs.Common.{◌≡◌, ◌++◌, ◌*◌, take, drop, length, arith, ap, sym, ◌∙◌}
use Rattle.std.specs.Prelude.{nat_eq}
use Rattle.std.specs.Cmp.Lexicographic.{pointwise}
use Rattle.hex.specs.Hex.{encode_lower}
use Rattle.sha2.specs.Sha256.{sha256}
use Rattle.ebs_tokens.proofs.Texts.{and_then, and_else, sealed_parts, sealed_long}
use Rattle.ebs_tokens.proofs.seal.is_sealed.Goals as goal

pub returns-then-text-middle : goal.returns-then-text-middle
returns-then-text-middle c = sym (sealed_long c.args.secret.now c.args.frame.now c.args.text.now (omega arith))

pub returns-then-are_digits : goal.returns-then-are_digits
returns-then-are_digits c =
    let frame = c.args.frame.now in
    let seal = sha256 (c.args.secret.now ++ frame) in
    let front : c.are_digits.result ≡ pointwise nat_eq (take (2 * length frame) c.args.text.now) (encode_lower frame) =
    c.are_digits.ensures ∙ ap (λ t. pointwise nat_eq t (encode_lower frame)) c.split_at.ensures.front in
    let back : c.are_digits-then-are_digits.result ≡ pointwise nat_eq (drop (2 * length frame) c.args.text.now) (encode_lower seal) =
    c.are_digits-then-are_digits.ensures
    ∙ ap (λ t. pointwise nat_eq t (encode_lower c.seal_of.result)) c.split_at.ensures.back
    ∙ ap (λ s. pointwise nat_eq (drop (2 * length frame) c.args.text.now) (encode_lower s)) c.seal_of.ensures in
    and_then _ _ _ (sym front ∙ c.if-are_digits.true) back
    ∙ sym (sealed_parts c.args.secret.now frame c.args.text.now (omega arith))

pub returns-else-are_digits : goal.returns-else-are_digits
returns-else-are_digits c =
    let frame = c.args.frame.now in
    let front : c.are_digits.result ≡ pointwise nat_eq (take (2 * length frame) c.args.text.now) (encode_lower frame) =
    c.are_digits.ensures ∙ ap (λ t. pointwise nat_eq t (encode_lower frame)) c.split_at.ensures.front in
    and_else _ _ _ front c.if-are_digits.false
    ∙ sym (sealed_parts c.args.secret.now frame c.args.text.now (omega arith))
