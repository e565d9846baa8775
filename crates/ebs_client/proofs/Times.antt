-- A time of day, written and read back.
use Rattle.std.proofs.Common.{◌≡◌, ℕ, ◌+◌, ◌*◌, ◌<◌, ◌/◌, ◌%◌, true, List, [], ◌∷◌, ◌++◌, length, refl, ap, ap₂, ◌∙◌, arith, codes, lt-ltb}
use Rattle.std.specs.declared.option.Option.{Option}
use Rattle.std.specs.declared.option.Option.TheVariants.{Some}
use Rattle.std.specs.List.{list_all}
use Rattle.std.specs.Char.{is_ascii_digit}
use Rattle.std.proofs.lemmas.Bool.Decides.{nat_tests}
use Rattle.std.proofs.lemmas.List.Folds.{list_all-append}
use Rattle.ebs_model.specs.Ids.{decimal_of_width}
use Rattle.ebs_model.specs.Limits.{is_time_of_day}
use Rattle.ebs_model.specs.Readers.{number_of}
use Rattle.ebs_model.proofs.Radix.{fixed, length-fixed, value-fixed, all-fixed}
use Rattle.ebs_model.proofs.IdDigits.{glyph_decimal}
use Rattle.ebs_members.specs.Policies.{part_below, seconds_of, time_of}
use Rattle.ebs_client.specs.Bodies.{clock}
use Rattle.ebs_client.proofs.Pieces.{is_path_byte, two_digits, two_piece, piece_in_path}

two_of : (a : List ℕ) → length a ≡ 2 → (x : ℕ) × (y : ℕ) × (a ≡ x ∷ y ∷ [])
two_of [] h = absurd (omega (arith, h))
two_of (x ∷ []) h = absurd (omega (arith, h))
two_of (x ∷ y ∷ []) h = (x, y, refl)
two_of (x ∷ y ∷ z ∷ a) h = absurd (omega (arith, h))

by_parts : (a b : List ℕ) → length a ≡ 2 → length b ≡ 2 → time_of (a ++ (codes ":" ++ b)) ≡ seconds_of (part_below 24 a) (part_below 60 b)
by_parts a b h k =
    let p = two_of a h in
    let q = two_of b k in
    rw (p.2, q.2) refl

number_two : (n : ℕ) → n < 100 → number_of (fixed 10 2 n) ≡ Some n
number_two n small =
    let size : length (fixed 10 2 n) ≡ 2 = length-fixed 10 2 n in
    let all : list_all is_ascii_digit (fixed 10 2 n) ≡ true = all-fixed 10 2 n is_ascii_digit (omega arith) glyph_decimal in
    rw (size, all, value-fixed 10 2 n (omega arith) (omega arith) small) refl

two_below : (bound n : ℕ) → n < bound → n < 100 → part_below bound (fixed 10 2 n) ≡ Some n
two_below bound n low small = rw (number_two n small, lt-ltb n bound low) refl

hour_low : (at : ℕ) → is_time_of_day at ≡ true → at / 3600 < 24
hour_low at h = let day : at < 86400 = grind (arith, nat_tests) in omega arith

minute_low : (at : ℕ) → at % 3600 / 60 < 60
minute_low at = omega arith

minutes : (at : ℕ) → is_time_of_day at ≡ true → 3600 * (at / 3600) + 60 * (at % 3600 / 60) ≡ at
minutes at h = let whole : at % 60 ≡ 0 = grind (arith, nat_tests) in omega arith

pub clock_read : (at : ℕ) → is_time_of_day at ≡ true → time_of (clock at) ≡ Some at
clock_read at h =
    let hour = at / 3600 in
    let minute = at % 3600 / 60 in
    let few : hour < 24 = hour_low at h in
    let less : minute < 60 = minute_low at in
    let hour_small : hour < 100 = omega arith in
    let minute_small : minute < 100 = omega arith in
    ap₂ (λ (a b : List ℕ). time_of (a ++ (codes ":" ++ b))) (two_digits hour hour_small) (two_digits minute minute_small)
    ∙ by_parts (fixed 10 2 hour) (fixed 10 2 minute) (length-fixed 10 2 hour) (length-fixed 10 2 minute)
    ∙ ap₂ (λ (a b : Option ℕ). seconds_of a b) (two_below 24 hour few hour_small) (two_below 60 minute less minute_small)
    ∙ ap (λ (n : ℕ). Some n) (minutes at h)

-- its bytes are in ASCII
pub clock_bytes : (at : ℕ) → is_time_of_day at ≡ true → list_all is_path_byte (clock at) ≡ true
clock_bytes at h =
    let few : at / 3600 < 24 = hour_low at h in
    let less : at % 3600 / 60 < 60 = minute_low at in
    let first = piece_in_path (decimal_of_width 2 (at / 3600)) (two_piece (at / 3600) (omega arith)) in
    let last = piece_in_path (decimal_of_width 2 (at % 3600 / 60)) (two_piece (at % 3600 / 60) (omega arith)) in
    list_all-append is_path_byte (decimal_of_width 2 (at / 3600)) (codes ":" ++ decimal_of_width 2 (at % 3600 / 60)) ∙ rw (first, last) refl
