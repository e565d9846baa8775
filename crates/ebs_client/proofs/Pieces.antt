-- The pieces of paths: ids and numbers, what they are made of, and how they are read back.
use Rattle.std.proofs.Common.{◌≡◌, ℕ, ◌+◌, ◌<◌, ◌≤◌, ◌^◌, ◌%◌, Bool, true, false, not, ◌&&◌, ◌==◌, List, [], ◌∷◌, ◌++◌, length, refl, ◌∙◌, arith, nat_lt, nat_le, codes, All}
use Rattle.std.specs.declared.option.Option.TheVariants.{Some}
use Rattle.std.specs.List.{list_all}
use Rattle.std.specs.Char.{is_ascii_digit}
use Rattle.std.specs.Fmt.{decimal, digit_glyph}
use Rattle.std.specs.Str.Parse.{digits_value}
use Rattle.std.proofs.lemmas.Bool.{and_parts}
use Rattle.std.proofs.lemmas.Fmt.{length-decimal-le, decimal_nonempty, decimal_by_steps, decimal_is_IsNumeral}
use Rattle.std.proofs.lemmas.List.Elements.{All-nil, All-cons}
use Rattle.std.proofs.lemmas.List.Folds.{list_all-append}
use Rattle.matchit.specs.Seek.{has_slash}
use Rattle.ebs_model.specs.Ids.{hex_of_width, decimal_of_width, snap_id, vol_id, rule_id, policy_id}
use Rattle.ebs_model.specs.Readers.{number_of}
use Rattle.ebs_model.specs.declared.keys.SnapKey.{SnapKey}
use Rattle.ebs_model.specs.declared.keys.VolKey.{VolKey}
use Rattle.ebs_model.specs.declared.keys.RuleKey.{RuleKey}
use Rattle.ebs_model.specs.declared.keys.PolicyKey.{PolicyKey}
use Rattle.ebs_model.proofs.Radix.{fixed, padded, all-fixed}

-- a byte in ASCII that begins no query
abbrev pub is_path_byte : ℕ → Bool
is_path_byte b = nat_lt b 128 && not (b == 63)

-- and ends no piece
abbrev pub is_piece_byte : ℕ → Bool
is_piece_byte b = not (b == 47) && is_path_byte b

glyph_piece : (d : ℕ) → d < 16 → is_piece_byte (digit_glyph false d) ≡ true
glyph_piece d h = grind arith

key_piece : (account number : ℕ) → account < 10 ^ 12 → number < 2 ^ 28 → list_all is_piece_byte (hex_of_width 10 account ++ hex_of_width 7 number) ≡ true
key_piece account number small low =
    let a : hex_of_width 10 account ≡ fixed 16 10 account = padded 16 10 account (omega arith) (omega arith) (omega arith) (omega arith) in
    let n : hex_of_width 7 number ≡ fixed 16 7 number = padded 16 7 number (omega arith) (omega arith) (omega arith) (omega arith) in
    let a_passes : list_all is_piece_byte (fixed 16 10 account) ≡ true = all-fixed 16 10 account is_piece_byte (omega arith) glyph_piece in
    let n_passes : list_all is_piece_byte (fixed 16 7 number) ≡ true = all-fixed 16 7 number is_piece_byte (omega arith) glyph_piece in
    rw (a, n) (list_all-append is_piece_byte (fixed 16 10 account) (fixed 16 7 number) ∙ rw (a_passes, n_passes) refl)

-- twelve digits
pub account_piece : (account : ℕ) → account < 10 ^ 12 → list_all is_piece_byte (decimal_of_width 12 account) ≡ true
account_piece account small =
    let digits : decimal_of_width 12 account ≡ fixed 10 12 account = padded 10 12 account (omega arith) (omega arith) (omega arith) small in
    rw digits (all-fixed 10 12 account is_piece_byte (omega arith) (λ d low. glyph_piece d (omega arith)))

pub two_digits : (n : ℕ) → n < 100 → decimal_of_width 2 n ≡ fixed 10 2 n
two_digits n small = padded 10 2 n (omega arith) (omega arith) (omega arith) small

-- a part of a time of day
pub two_piece : (n : ℕ) → n < 100 → list_all is_piece_byte (decimal_of_width 2 n) ≡ true
two_piece n small = rw (two_digits n small) (all-fixed 10 2 n is_piece_byte (omega arith) (λ d low. glyph_piece d (omega arith)))

-- an id behind its first letter
abbrev pub snap_tail : SnapKey → List ℕ
snap_tail key = codes "nap-" ++ (hex_of_width 10 key.account ++ hex_of_width 7 key.number)

abbrev pub vol_tail : VolKey → List ℕ
vol_tail key = codes "ol-" ++ (hex_of_width 10 key.account ++ hex_of_width 7 key.number)

abbrev pub rule_tail : RuleKey → List ℕ
rule_tail key = codes "ule-" ++ (hex_of_width 10 key.account ++ hex_of_width 7 key.number)

abbrev pub policy_tail : PolicyKey → List ℕ
policy_tail key = codes "olicy-" ++ (hex_of_width 10 key.account ++ hex_of_width 7 key.number)

pub snap_letters : (key : SnapKey) → snap_id key ≡ 115 ∷ snap_tail key
unfolding snap_id
snap_letters key = refl

pub vol_letters : (key : VolKey) → vol_id key ≡ 118 ∷ vol_tail key
unfolding vol_id
vol_letters key = refl

pub rule_letters : (key : RuleKey) → rule_id key ≡ 114 ∷ rule_tail key
unfolding rule_id
rule_letters key = refl

pub policy_letters : (key : PolicyKey) → policy_id key ≡ 112 ∷ policy_tail key
unfolding policy_id
policy_letters key = refl

pub snap_piece : (key : SnapKey) → key.account < 10 ^ 12 → key.number < 2 ^ 28 → list_all is_piece_byte (115 ∷ snap_tail key) ≡ true
snap_piece key small low = key_piece key.account key.number small low

pub vol_piece : (key : VolKey) → key.account < 10 ^ 12 → key.number < 2 ^ 28 → list_all is_piece_byte (118 ∷ vol_tail key) ≡ true
vol_piece key small low = key_piece key.account key.number small low

pub rule_piece : (key : RuleKey) → key.account < 10 ^ 12 → key.number < 2 ^ 28 → list_all is_piece_byte (114 ∷ rule_tail key) ≡ true
rule_piece key small low = key_piece key.account key.number small low

pub policy_piece : (key : PolicyKey) → key.account < 10 ^ 12 → key.number < 2 ^ 28 → list_all is_piece_byte (112 ∷ policy_tail key) ≡ true
policy_piece key small low = key_piece key.account key.number small low

piece_parts : (b : ℕ) → is_piece_byte b ≡ true → ((b == 47) ≡ false) × (is_path_byte b ≡ true)
piece_parts b h =
    let parts : (not (b == 47) ≡ true) × (is_path_byte b ≡ true) = and_parts _ _ h in
    (grind arith, parts.1)

pub without_slash : (bs : List ℕ) → list_all is_piece_byte bs ≡ true → has_slash bs ≡ false
without_slash [] h = refl
without_slash (b ∷ bs) h =
    let parts = and_parts _ _ h in
    rw (piece_parts b parts.0).0 (without_slash bs parts.1)

pub all_in_piece : (bs : List ℕ) → list_all is_piece_byte bs ≡ true → All (λ b. (b == 47) ≡ false) bs
all_in_piece [] h = All-nil (λ b. (b == 47) ≡ false)
all_in_piece (b ∷ bs) h = let parts = and_parts _ _ h in All-cons (λ b. (b == 47) ≡ false) b bs (piece_parts b parts.0).0 (all_in_piece bs parts.1)

pub piece_in_path : (bs : List ℕ) → list_all is_piece_byte bs ≡ true → list_all is_path_byte bs ≡ true
piece_in_path [] h = refl
piece_in_path (b ∷ bs) h = let parts = and_parts _ _ h in rw ((piece_parts b parts.0).1, piece_in_path bs parts.1) refl

-- numbers
one_digit : (m : ℕ) → m < 10 → is_ascii_digit (48 + m) ≡ true
one_digit m h = grind arith

digits_pass : (n : ℕ) → n < 2 ^ 64 → list_all is_ascii_digit (decimal n) ≡ true
digits_pass = decimal_by_steps (λ m ds. list_all is_ascii_digit ds ≡ true) (λ m l. rw (one_digit m l) refl)
    (λ m ds l h. list_all-append is_ascii_digit ds ((48 + m % 10) ∷ []) ∙ rw (h, one_digit (m % 10) (omega arith)) refl)

pub number_read : (n : ℕ) → n < 10 ^ 10 → number_of (decimal n) ≡ Some n
number_read n h =
    let longest : length (decimal n) ≤ 10 = length-decimal-le 10 n (omega arith) h (omega arith) in
    let some : 0 < length (decimal n) = decimal_nonempty n (omega arith) in
    let all : list_all is_ascii_digit (decimal n) ≡ true = digits_pass n (omega arith) in
    let value : digits_value 10 (decimal n) ≡ n = (decimal_is_IsNumeral n (omega arith)).1 in
    let low : nat_le 1 (length (decimal n)) ≡ true = grind arith in
    let high : nat_le (length (decimal n)) 10 ≡ true = grind arith in
    rw (low, high, all, value) refl

digit_piece : (b : ℕ) → is_ascii_digit b ≡ true → is_piece_byte b ≡ true
digit_piece b h = grind arith

pub digits_piece : (bs : List ℕ) → list_all is_ascii_digit bs ≡ true → list_all is_piece_byte bs ≡ true
digits_piece [] h = refl
digits_piece (b ∷ bs) h = let parts = and_parts _ _ h in rw (digit_piece b parts.0, digits_piece bs parts.1) refl

pub number_piece : (n : ℕ) → n < 10 ^ 10 → list_all is_piece_byte (decimal n) ≡ true
number_piece n h = digits_piece (decimal n) (digits_pass n (omega arith))
