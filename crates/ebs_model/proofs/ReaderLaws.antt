-- What a reader gives has the text that was read, and every text of a value within its limits is read.
use Rattle.std.proofs.Common.{lit<, ◌≡◌, ℕ, ◌^◌, ◌<◌, ◌≤◌, Bool, true, ◌&&◌, ◌==◌, List, ◌++◌, length, take, drop, length-drop, length-append, refl, sym, ap, subst, ◌∙◌, inl, inr, arith, IfSome, nat_lt, nat_eq, codes}
use Rattle.std.specs.declared.option.Option.{Option}
use Rattle.std.specs.declared.option.Option.TheVariants.{None, Some}
use Rattle.std.specs.Option.{option_map}
use Rattle.std.specs.List.{list_all, starts_with}
use Rattle.std.specs.Char.{is_ascii_digit}
use Rattle.std.specs.Str.Parse.{digits_value}
use Rattle.std.proofs.lemmas.Bool.{cases_Bool}
use Rattle.std.proofs.lemmas.List.Folds.{list_all-append}
use Rattle.std.proofs.lemmas.List.{take-append-drop, length-take-le}
use Rattle.std.proofs.lemmas.Slice.Eq.{bytes_eq-Decides}
use Rattle.std.proofs.Math.Nat.{pow-le-pow_right}
use Rattle.std.proofs.Math.Seq.{take-append_seam, drop-append_seam}
use Rattle.ebs_model.specs.Ids.{hex_of_width, decimal_of_width, snap_id, vol_id, rule_id, policy_id}
use Rattle.ebs_model.specs.Readers.{is_hex_digit, are_key_digits, key_of, snap_of, vol_with, vol_of, rule_with, rule_of, policy_with, policy_of, account_of, are_number_digits, number_of}
use Rattle.ebs_model.specs.declared.keys.SnapKey.{SnapKey}
use Rattle.ebs_model.specs.declared.keys.VolKey.{VolKey}
use Rattle.ebs_model.specs.declared.keys.RuleKey.{RuleKey}
use Rattle.ebs_model.specs.declared.keys.PolicyKey.{PolicyKey}
use Rattle.ebs_model.proofs.Radix.{fixed, padded, length-fixed, all-fixed, value-fixed, fixed-value, value_below}
use Rattle.ebs_model.proofs.IdDigits.{decimal_digits, hex_digits, glyph_hex, glyph_decimal}

abbrev is_account : List ℕ → Bool
is_account text = (length text == 12) && list_all is_ascii_digit text

-- twelve digits are what is written of their number
account_written : (text : List ℕ) → is_account text ≡ true → decimal_of_width 12 (digits_value 10 text) ≡ text
account_written text h =
    let size : length text ≡ 12 = grind arith in
    let all : list_all is_ascii_digit text ≡ true = grind arith in
    let below : digits_value 10 text < 10 ^ length text = value_below 10 is_ascii_digit text decimal_digits all in
    let fits : digits_value 10 text < 10 ^ 12 = rw size at below in
    let back : fixed 10 (length text) (digits_value 10 text) ≡ text = fixed-value 10 is_ascii_digit text decimal_digits all in
    let same : fixed 10 12 (digits_value 10 text) ≡ text = rw size at back in
    padded 10 12 (digits_value 10 text) (omega arith) (omega arith) (omega arith) fits ∙ same

pub account_spelled : (text : List ℕ) → IfSome (account_of text) (λ account. decimal_of_width 12 account ≡ text)
account_spelled text = elim (cases_Bool (is_account text)) [
  | inl passes ↦ rw passes (account_written text passes)
  | inr fails ↦ rw fails tt
]

pub account_whole : (text : List ℕ) (account : ℕ) → account < 10 ^ 12 → decimal_of_width 12 account ≡ text → account_of text ≡ Some account
account_whole text account small e =
    let spelled : decimal_of_width 12 account ≡ fixed 10 12 account = padded 10 12 account (omega arith) (omega arith) (omega arith) small in
    let same : text ≡ fixed 10 12 account = sym e ∙ spelled in
    let value : digits_value 10 (fixed 10 12 account) ≡ account = value-fixed 10 12 account (omega arith) (omega arith) small in
    let all : list_all is_ascii_digit (fixed 10 12 account) ≡ true = all-fixed 10 12 account is_ascii_digit (omega arith) glyph_decimal in
    rw (same, length-fixed 10 12 account, all, value) refl

hex_written : (w : ℕ) (ds : List ℕ) → 0 < w → w ≤ 64 → list_all is_hex_digit ds ≡ true → length ds ≡ w → (hex_of_width w (digits_value 16 ds) ≡ ds) × (digits_value 16 ds < 16 ^ w)
hex_written w ds some fits all size =
    let below : digits_value 16 ds < 16 ^ length ds = value_below 16 is_hex_digit ds hex_digits all in
    let within : digits_value 16 ds < 16 ^ w = rw size at below in
    let back : fixed 16 (length ds) (digits_value 16 ds) ≡ ds = fixed-value 16 is_hex_digit ds hex_digits all in
    let same : fixed 16 w (digits_value 16 ds) ≡ ds = rw size at back in
    (padded 16 w (digits_value 16 ds) (omega arith) some fits within ∙ same, within)

-- an id's digits are those of its key
abbrev KeyText : List ℕ → SnapKey → Type 0
KeyText ds key = (hex_of_width 10 key.account ++ hex_of_width 7 key.number ≡ ds) × (key.number < 2 ^ 28)

pub parts_pass : (ds : List ℕ) → are_key_digits ds ≡ true
    → (list_all is_hex_digit (take 10 ds) ≡ true) × (list_all is_hex_digit (drop 10 ds) ≡ true) × (length (take 10 ds) ≡ 10) × (length (drop 10 ds) ≡ 7)
parts_pass ds h =
    let size : length ds ≡ 17 = grind arith in
    let all : list_all is_hex_digit ds ≡ true = grind arith in
    let parts : (list_all is_hex_digit (take 10 ds) && list_all is_hex_digit (drop 10 ds)) ≡ true =
    sym (list_all-append is_hex_digit (take 10 ds) (drop 10 ds)) ∙ ap (list_all is_hex_digit) (take-append-drop 10 ds) ∙ all in
    (grind arith, grind arith, length-take-le 10 ds (omega arith), length-drop 10 ds ∙ omega arith)

key_written : (ds : List ℕ) → are_key_digits ds ≡ true → KeyText ds (record { account = digits_value 16 (take 10 ds); number = digits_value 16 (drop 10 ds) })
key_written ds h =
    let parts = parts_pass ds h in
    let account = hex_written 10 (take 10 ds) (omega arith) (omega arith) parts.0 parts.2 in
    let number = hex_written 7 (drop 10 ds) (omega arith) (omega arith) parts.1 parts.3 in
    (rw (account.0, number.0) (take-append-drop 10 ds), omega (arith, number.1))

key_spelled : (ds : List ℕ) → IfSome (key_of ds) (KeyText ds)
key_spelled ds = elim (cases_Bool (are_key_digits ds)) [
  | inl passes ↦ rw passes (elim (cases_Bool (nat_lt (digits_value 16 (take 10 ds)) (10 ^ 12))) [
    | inl within ↦ rw within (key_written ds passes)
    | inr beyond ↦ rw beyond tt
  ])
  | inr fails ↦ rw fails tt
]

abbrev has_prefix : List ℕ → Bool
has_prefix text = starts_with nat_eq text (codes "snap-")

prefix_is : (text : List ℕ) → has_prefix text ≡ true → codes "snap-" ++ drop 5 text ≡ text
prefix_is text h =
    let front : codes "snap-" ≡ take 5 text = (bytes_eq-Decides (codes "snap-") (take 5 text)).0 h in
    rw (← front) at (take-append-drop 5 text)

abbrev is_of_volume : List ℕ → Bool
is_of_volume text = starts_with nat_eq text (codes "vol-")

volume_prefix_is : (text : List ℕ) → is_of_volume text ≡ true → codes "vol-" ++ drop 4 text ≡ text
volume_prefix_is text h =
    let front : codes "vol-" ≡ take 4 text = (bytes_eq-Decides (codes "vol-") (take 4 text)).0 h in
    rw (← front) at (take-append-drop 4 text)

vol_text_of : (text : List ℕ) (found : Option SnapKey) → codes "vol-" ++ drop 4 text ≡ text → IfSome found (KeyText (drop 4 text)) → IfSome (option_map vol_with found) (λ key. (vol_id key ≡ text) × (key.number < 2 ^ 28))
unfolding vol_id
vol_text_of text None e h = tt
vol_text_of text (Some key) e h = (ap (λ ds. codes "vol-" ++ ds) h.0 ∙ e, h.1)

pub vol_spelled : (text : List ℕ) → IfSome (vol_of text) (λ key. (vol_id key ≡ text) × (key.number < 2 ^ 28))
vol_spelled text = elim (cases_Bool (is_of_volume text)) [
  | inl begins ↦ rw begins (vol_text_of text (key_of (drop 4 text)) (volume_prefix_is text begins) (key_spelled (drop 4 text)))
  | inr other ↦ rw other tt
]

pub vol_spelled_text : (found : Option VolKey) (text : List ℕ) → IfSome found (λ key. (vol_id key ≡ text) × (key.number < 2 ^ 28)) → IfSome found (λ key. vol_id key ≡ text)
vol_spelled_text None text h = tt
vol_spelled_text (Some key) text h = h.0

pub vol_spelled_below : (found : Option VolKey) (text : List ℕ) → IfSome found (λ key. (vol_id key ≡ text) × (key.number < 2 ^ 28)) → IfSome found (λ key. key.number < 2 ^ 28)
vol_spelled_below None text h = tt
vol_spelled_below (Some key) text h = h.1

abbrev is_of_rule : List ℕ → Bool
is_of_rule text = starts_with nat_eq text (codes "rule-")

rule_prefix_is : (text : List ℕ) → is_of_rule text ≡ true → codes "rule-" ++ drop 5 text ≡ text
rule_prefix_is text h =
    let front : codes "rule-" ≡ take 5 text = (bytes_eq-Decides (codes "rule-") (take 5 text)).0 h in
    rw (← front) at (take-append-drop 5 text)

rule_text_of : (text : List ℕ) (found : Option SnapKey) → codes "rule-" ++ drop 5 text ≡ text → IfSome found (KeyText (drop 5 text)) → IfSome (option_map rule_with found) (λ key. (rule_id key ≡ text) × (key.number < 2 ^ 28))
unfolding rule_id
rule_text_of text None e h = tt
rule_text_of text (Some key) e h = (ap (λ ds. codes "rule-" ++ ds) h.0 ∙ e, h.1)

pub rule_spelled : (text : List ℕ) → IfSome (rule_of text) (λ key. (rule_id key ≡ text) × (key.number < 2 ^ 28))
rule_spelled text = elim (cases_Bool (is_of_rule text)) [
  | inl begins ↦ rw begins (rule_text_of text (key_of (drop 5 text)) (rule_prefix_is text begins) (key_spelled (drop 5 text)))
  | inr other ↦ rw other tt
]

pub rule_spelled_text : (found : Option RuleKey) (text : List ℕ) → IfSome found (λ key. (rule_id key ≡ text) × (key.number < 2 ^ 28)) → IfSome found (λ key. rule_id key ≡ text)
rule_spelled_text None text h = tt
rule_spelled_text (Some key) text h = h.0

pub rule_spelled_below : (found : Option RuleKey) (text : List ℕ) → IfSome found (λ key. (rule_id key ≡ text) × (key.number < 2 ^ 28)) → IfSome found (λ key. key.number < 2 ^ 28)
rule_spelled_below None text h = tt
rule_spelled_below (Some key) text h = h.1

abbrev is_of_policy : List ℕ → Bool
is_of_policy text = starts_with nat_eq text (codes "policy-")

policy_prefix_is : (text : List ℕ) → is_of_policy text ≡ true → codes "policy-" ++ drop 7 text ≡ text
policy_prefix_is text h =
    let front : codes "policy-" ≡ take 7 text = (bytes_eq-Decides (codes "policy-") (take 7 text)).0 h in
    rw (← front) at (take-append-drop 7 text)

policy_text_of : (text : List ℕ) (found : Option SnapKey) → codes "policy-" ++ drop 7 text ≡ text → IfSome found (KeyText (drop 7 text)) → IfSome (option_map policy_with found) (λ key. (policy_id key ≡ text) × (key.number < 2 ^ 28))
unfolding policy_id
policy_text_of text None e h = tt
policy_text_of text (Some key) e h = (ap (λ ds. codes "policy-" ++ ds) h.0 ∙ e, h.1)

pub policy_spelled : (text : List ℕ) → IfSome (policy_of text) (λ key. (policy_id key ≡ text) × (key.number < 2 ^ 28))
policy_spelled text = elim (cases_Bool (is_of_policy text)) [
  | inl begins ↦ rw begins (policy_text_of text (key_of (drop 7 text)) (policy_prefix_is text begins) (key_spelled (drop 7 text)))
  | inr other ↦ rw other tt
]

pub policy_spelled_text : (found : Option PolicyKey) (text : List ℕ) → IfSome found (λ key. (policy_id key ≡ text) × (key.number < 2 ^ 28)) → IfSome found (λ key. policy_id key ≡ text)
policy_spelled_text None text h = tt
policy_spelled_text (Some key) text h = h.0

pub policy_spelled_below : (found : Option PolicyKey) (text : List ℕ) → IfSome found (λ key. (policy_id key ≡ text) × (key.number < 2 ^ 28)) → IfSome found (λ key. key.number < 2 ^ 28)
policy_spelled_below None text h = tt
policy_spelled_below (Some key) text h = h.1

snap_text_of : (text : List ℕ) (found : Option SnapKey) → codes "snap-" ++ drop 5 text ≡ text → IfSome found (KeyText (drop 5 text)) → IfSome found (λ key. (snap_id key ≡ text) × (key.number < 2 ^ 28))
unfolding snap_id
snap_text_of text None e h = tt
snap_text_of text (Some key) e h = (ap (λ ds. codes "snap-" ++ ds) h.0 ∙ e, h.1)

pub snap_spelled : (text : List ℕ) → IfSome (snap_of text) (λ key. (snap_id key ≡ text) × (key.number < 2 ^ 28))
snap_spelled text = elim (cases_Bool (has_prefix text)) [
  | inl begins ↦ rw begins (snap_text_of text (key_of (drop 5 text)) (prefix_is text begins) (key_spelled (drop 5 text)))
  | inr other ↦ rw other tt
]

pub spelled_text : (found : Option SnapKey) (text : List ℕ) → IfSome found (λ key. (snap_id key ≡ text) × (key.number < 2 ^ 28)) → IfSome found (λ key. snap_id key ≡ text)
spelled_text None text h = tt
spelled_text (Some key) text h = h.0

pub spelled_below : (found : Option SnapKey) (text : List ℕ) → IfSome found (λ key. (snap_id key ≡ text) × (key.number < 2 ^ 28)) → IfSome found (λ key. key.number < 2 ^ 28)
spelled_below None text h = tt
spelled_below (Some key) text h = h.1

passes_below : (n m : ℕ) → n < m → nat_lt n m ≡ true
passes_below n m h = grind arith

digits_read : (account number : ℕ) → account < 10 ^ 12 → number < 2 ^ 28 → key_of (fixed 16 10 account ++ fixed 16 7 number) ≡ Some (record { account = account; number = number })
digits_read account number small low =
    let a = fixed 16 10 account in
    let b = fixed 16 7 number in
    let a_size : length a ≡ 10 = length-fixed 16 10 account in
    let b_size : length b ≡ 7 = length-fixed 16 7 number in
    let front : take 10 (a ++ b) ≡ a = subst (λ n. take n (a ++ b) ≡ a) a_size (take-append_seam a b) in
    let rest : drop 10 (a ++ b) ≡ b = subst (λ n. drop n (a ++ b) ≡ b) a_size (drop-append_seam a b) in
    let a_value : digits_value 16 a ≡ account = value-fixed 16 10 account (omega arith) (omega arith) (omega arith) in
    let b_value : digits_value 16 b ≡ number = value-fixed 16 7 number (omega arith) (omega arith) (omega arith) in
    let size : length (a ++ b) ≡ 17 = length-append a b ∙ omega arith in
    let a_hex : list_all is_hex_digit a ≡ true = all-fixed 16 10 account is_hex_digit (omega arith) glyph_hex in
    let b_hex : list_all is_hex_digit b ≡ true = all-fixed 16 7 number is_hex_digit (omega arith) glyph_hex in
    let all : list_all is_hex_digit (a ++ b) ≡ true = list_all-append is_hex_digit a b ∙ rw (a_hex, b_hex) refl in
    let within : nat_lt account (10 ^ 12) ≡ true = passes_below account (10 ^ 12) small in
    rw (size, all, front, rest, a_value, b_value, within) refl

pub snap_whole : (key : SnapKey) (text : List ℕ) → key.account < 10 ^ 12 → key.number < 2 ^ 28 → snap_id key ≡ text → snap_of text ≡ Some key
unfolding snap_id
snap_whole key text small low e =
    let account : hex_of_width 10 key.account ≡ fixed 16 10 key.account = padded 16 10 key.account (omega arith) (omega arith) (omega arith) (omega arith) in
    let number : hex_of_width 7 key.number ≡ fixed 16 7 key.number = padded 16 7 key.number (omega arith) (omega arith) (omega arith) (omega arith) in
    let same : text ≡ codes "snap-" ++ (fixed 16 10 key.account ++ fixed 16 7 key.number) = sym e ∙ rw (account, number) refl in
    rw same (digits_read key.account key.number small low)

pub vol_whole : (key : VolKey) (text : List ℕ) → key.account < 10 ^ 12 → key.number < 2 ^ 28 → vol_id key ≡ text → vol_of text ≡ Some key
unfolding vol_id
vol_whole key text small low e =
    let account : hex_of_width 10 key.account ≡ fixed 16 10 key.account = padded 16 10 key.account (omega arith) (omega arith) (omega arith) (omega arith) in
    let number : hex_of_width 7 key.number ≡ fixed 16 7 key.number = padded 16 7 key.number (omega arith) (omega arith) (omega arith) (omega arith) in
    let same : text ≡ codes "vol-" ++ (fixed 16 10 key.account ++ fixed 16 7 key.number) = sym e ∙ rw (account, number) refl in
    rw same (ap (option_map vol_with) (digits_read key.account key.number small low))

pub rule_whole : (key : RuleKey) (text : List ℕ) → key.account < 10 ^ 12 → key.number < 2 ^ 28 → rule_id key ≡ text → rule_of text ≡ Some key
unfolding rule_id
rule_whole key text small low e =
    let account : hex_of_width 10 key.account ≡ fixed 16 10 key.account = padded 16 10 key.account (omega arith) (omega arith) (omega arith) (omega arith) in
    let number : hex_of_width 7 key.number ≡ fixed 16 7 key.number = padded 16 7 key.number (omega arith) (omega arith) (omega arith) (omega arith) in
    let same : text ≡ codes "rule-" ++ (fixed 16 10 key.account ++ fixed 16 7 key.number) = sym e ∙ rw (account, number) refl in
    rw same (ap (option_map rule_with) (digits_read key.account key.number small low))

pub policy_whole : (key : PolicyKey) (text : List ℕ) → key.account < 10 ^ 12 → key.number < 2 ^ 28 → policy_id key ≡ text → policy_of text ≡ Some key
unfolding policy_id
policy_whole key text small low e =
    let account : hex_of_width 10 key.account ≡ fixed 16 10 key.account = padded 16 10 key.account (omega arith) (omega arith) (omega arith) (omega arith) in
    let number : hex_of_width 7 key.number ≡ fixed 16 7 key.number = padded 16 7 key.number (omega arith) (omega arith) (omega arith) (omega arith) in
    let same : text ≡ codes "policy-" ++ (fixed 16 10 key.account ++ fixed 16 7 key.number) = sym e ∙ rw (account, number) refl in
    rw same (ap (option_map policy_with) (digits_read key.account key.number small low))

number_small : (text : List ℕ) → are_number_digits text ≡ true → digits_value 10 text < 10 ^ 10
number_small text h =
    let size : length text ≤ 10 = grind arith in
    let all : list_all is_ascii_digit text ≡ true = grind arith in
    let below : digits_value 10 text < 10 ^ length text = value_below 10 is_ascii_digit text decimal_digits all in
    let power : 10 ^ length text ≤ 10 ^ 10 = pow-le-pow_right (lit< tt) size in
    omega arith

pub number_below : (text : List ℕ) → IfSome (number_of text) (λ n. n < 10 ^ 10)
number_below text = elim (cases_Bool (are_number_digits text)) [
  | inl passes ↦ rw passes (number_small text passes)
  | inr fails ↦ rw fails tt
]
