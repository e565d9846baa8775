-- More than 44 digits of Base64 say more than 32 bytes.
use Rattle.std.proofs.Common.{◌≡◌, ℕ, ◌<◌, ◌*◌, List, length, length-append, Option, Some, None, refl, sym, arith}
use Rattle.std.specs.Option.{option_and_then}
use Rattle.std.specs.Result.{result_ok}
use Rattle.base64.specs.declared.decode.DecodeError.{DecodeError}
use Rattle.base64.specs.Decode.{decode_outcome, decoded_bytes, groups_bytes, groups_before_last, suffix_bytes}
use Rattle.base64.specs.Engines.{standard}
use Rattle.base64.proofs.Decoding.{length-groups_bytes}
use Rattle.ebs_members.specs.Kinds as kind

other_size : (bytes : List ℕ) → 32 < length bytes → kind.digest_only bytes ≡ None
other_size bytes h = grind arith

no_digest : (error : Option DecodeError) (bytes : List ℕ) → 32 < length bytes → option_and_then kind.digest_only (result_ok (decode_outcome error bytes)) ≡ None
no_digest None bytes h = other_size bytes h
no_digest (Some e) bytes h = refl

long_enough : (table text : List ℕ) → 44 < length text → 32 < length (decoded_bytes table 61 text)
long_enough table text h =
    let groups = length-groups_bytes table text (groups_before_last (length text)) in
    let all = length-append (groups_bytes table text (groups_before_last (length text))) (suffix_bytes table 61 (4 * groups_before_last (length text)) text) in
    omega (arith, h, groups, all)

pub long_text : (text : List ℕ) → 44 < length text → None ≡ kind.digest_of text
long_text text h = sym (no_digest _ _ (long_enough standard.decode_table text h))
