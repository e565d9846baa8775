-- The digits of ids and accounts.
use Rattle.std.proofs.Common.{◌≡◌, ℕ, ◌+◌, ◌<◌, ◌≤◌, ◌^◌, ◌-◌, List, true, false, length, get_or, arith, inl, inr, ◌∙◌}
use Rattle.std.specs.Char.{is_ascii_digit, digit_value}
use Rattle.std.proofs.Math.Nat.{pow-le-pow_right}
use Rattle.std.specs.Int.{is_in_range}
use Rattle.std.proofs.lemmas.Bool.{cases_Bool}
use Rattle.std.specs.Fmt.{digit_glyph}
use Rattle.std.specs.List.{list_all}
use Rattle.std.proofs.lemmas.List.Sums.{AllPass-from_list_all}
use Rattle.ebs_model.specs.Readers.{is_hex_digit}
use Rattle.ebs_model.proofs.Radix.{AreDigits}

one_decimal : (b : ℕ) → is_ascii_digit b ≡ true → (digit_value b + 48 ≡ b) × (48 ≤ b) × (b < 58)
one_decimal b h = grind arith

pub decimal_at : (text : List ℕ) (i : ℕ) → list_all is_ascii_digit text ≡ true → i < length text
    → (digit_value (get_or text i 0) + 48 ≡ get_or text i 0) × (48 ≤ get_or text i 0) × (get_or text i 0 < 58)
decimal_at text i h below = one_decimal (get_or text i 0) (AllPass-from_list_all is_ascii_digit text h i 0 below)

pub decimal_below : (c : ℕ) → is_ascii_digit c ≡ true → digit_value c < 10
decimal_below c h = grind arith

pub decimal_glyph : (c : ℕ) → is_ascii_digit c ≡ true → digit_glyph false (digit_value c) ≡ c
decimal_glyph c h = grind arith

letter_range : (c : ℕ) → is_in_range 97 102 c ≡ true → (97 ≤ c) × (c ≤ 102)
letter_range c h = grind arith

letter_value : (c : ℕ) → 97 ≤ c → c ≤ 102 → digit_value c ≡ c - 87
letter_value c low high = grind arith

high_glyph : (d : ℕ) → 10 ≤ d → digit_glyph false d ≡ 87 + d
high_glyph d h = grind arith

letter_below : (c : ℕ) → is_in_range 97 102 c ≡ true → digit_value c < 16
letter_below c h = grind arith

letter_glyph : (c : ℕ) → is_in_range 97 102 c ≡ true → digit_glyph false (digit_value c) ≡ c
letter_glyph c h =
    let range : (97 ≤ c) × (c ≤ 102) = letter_range c h in
    let value : digit_value c ≡ c - 87 = letter_value c range.0 range.1 in
    let glyph : digit_glyph false (c - 87) ≡ 87 + (c - 87) = high_glyph (c - 87) (omega arith) in
    rw value (glyph ∙ omega arith)

pub hex_below : (c : ℕ) → is_hex_digit c ≡ true → digit_value c < 16
hex_below c h = elim (cases_Bool (is_ascii_digit c)) [
  | inl decimal ↦ omega (arith, decimal_below c decimal)
  | inr other ↦ let letter : is_in_range 97 102 c ≡ true = rw other at h in letter_below c letter
]

pub hex_glyph : (c : ℕ) → is_hex_digit c ≡ true → digit_glyph false (digit_value c) ≡ c
hex_glyph c h = elim (cases_Bool (is_ascii_digit c)) [
  | inl decimal ↦ decimal_glyph c decimal
  | inr other ↦ let letter : is_in_range 97 102 c ≡ true = rw other at h in letter_glyph c letter
]

pub glyph_hex : (d : ℕ) → d < 16 → is_hex_digit (digit_glyph false d) ≡ true
glyph_hex d h = grind arith

pub glyph_decimal : (d : ℕ) → d < 10 → is_ascii_digit (digit_glyph false d) ≡ true
glyph_decimal d h = grind arith

pub decimal_digits : AreDigits 10 is_ascii_digit
decimal_digits = record { below = decimal_below; glyph = decimal_glyph }

pub hex_digits : AreDigits 16 is_hex_digit
hex_digits = record { below = hex_below; glyph = hex_glyph }

decimal_parts : (c : ℕ) → is_ascii_digit c ≡ true → (digit_value c < 16) × (48 ≤ c) × (c ≤ 57 → digit_value c + 48 ≡ c) × (57 < c → (digit_value c + 87 ≡ c) × (97 ≤ c) × (c ≤ 102))
decimal_parts c h = grind arith

letter_parts : (c : ℕ) → is_in_range 97 102 c ≡ true → (digit_value c < 16) × (48 ≤ c) × (c ≤ 57 → digit_value c + 48 ≡ c) × (57 < c → (digit_value c + 87 ≡ c) × (97 ≤ c) × (c ≤ 102))
letter_parts c h =
    let range : (97 ≤ c) × (c ≤ 102) = letter_range c h in
    let value : digit_value c ≡ c - 87 = letter_value c range.0 range.1 in
    (omega arith, omega arith, λ low. absurd (omega arith), λ high. (omega arith, range.0, range.1))

pub hex_value_of : (c : ℕ) → is_hex_digit c ≡ true → (digit_value c < 16) × (48 ≤ c) × (c ≤ 57 → digit_value c + 48 ≡ c) × (57 < c → (digit_value c + 87 ≡ c) × (97 ≤ c) × (c ≤ 102))
hex_value_of c h = elim (cases_Bool (is_ascii_digit c)) [
  | inl decimal ↦ decimal_parts c decimal
  | inr other ↦ let letter : is_in_range 97 102 c ≡ true = rw other at h in letter_parts c letter
]

pub hex_at : (text : List ℕ) (i : ℕ) → list_all is_hex_digit text ≡ true → i < length text → is_hex_digit (get_or text i 0) ≡ true
hex_at text i h below = AllPass-from_list_all is_hex_digit text h i 0 below

-- a power of fewer digits
pub power_below : (b i w : ℕ) → 0 < b → i < w → b ^ i ≤ b ^ (w - 1)
power_below b i w low h = pow-le-pow_right low (omega arith)
