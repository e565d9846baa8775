-- How an id or an account is read from its text.
use Rattle.std.specs.Prelude.{ℕ, Bool, ◌||◌, ◌&&◌, ◌==◌, List, length, ◌^◌, nat_lt, if◌then◌else◌, Option, None, Some, take, drop, nat_eq, codes, nat_le}
use Rattle.std.specs.List.{list_all, starts_with}
use Rattle.std.specs.Char.{is_ascii_digit}
use Rattle.std.specs.Int.{is_in_range}
use Rattle.std.specs.Option.{option_map}
use Rattle.std.specs.Str.Parse.{digits_value}
use Rattle.ebs_model.specs.declared.keys.SnapKey.{SnapKey}
use Rattle.ebs_model.specs.declared.keys.VolKey.{VolKey}
use Rattle.ebs_model.specs.declared.keys.RuleKey.{RuleKey}
use Rattle.ebs_model.specs.declared.keys.PolicyKey.{PolicyKey}

-- 0 to 9 and a to f
abbrev pub is_hex_digit : ℕ → Bool
is_hex_digit c = is_ascii_digit c || is_in_range 97 102 c

-- ten hexadecimal digits of the account, and seven of the number
abbrev pub are_key_digits : List ℕ → Bool
are_key_digits ds = (length ds == 17) && list_all is_hex_digit ds

-- the key with these numbers, where there is such an account
abbrev pub key_within : ℕ → ℕ → Option SnapKey
key_within account number = if nat_lt account (10 ^ 12) then Some (record { account = account; number = number }) else None

abbrev pub key_of : List ℕ → Option SnapKey
key_of ds = if are_key_digits ds then key_within (digits_value 16 (take 10 ds)) (digits_value 16 (drop 10 ds)) else None

-- the key of a snapshot whose id this is
abbrev pub snap_of : List ℕ → Option SnapKey
snap_of text = if starts_with nat_eq text (codes "snap-") then key_of (drop 5 text) else None

-- the volume with the same numbers
abbrev pub vol_with : SnapKey → VolKey
vol_with key = record { account = key.account; number = key.number }

-- the key of a volume whose id this is
abbrev pub vol_of : List ℕ → Option VolKey
vol_of text = if starts_with nat_eq text (codes "vol-") then option_map vol_with (key_of (drop 4 text)) else None

-- the rule with the same numbers
abbrev pub rule_with : SnapKey → RuleKey
rule_with key = record { account = key.account; number = key.number }

-- the key of a rule whose id this is
abbrev pub rule_of : List ℕ → Option RuleKey
rule_of text = if starts_with nat_eq text (codes "rule-") then option_map rule_with (key_of (drop 5 text)) else None

-- the policy with the same numbers
abbrev pub policy_with : SnapKey → PolicyKey
policy_with key = record { account = key.account; number = key.number }

-- the key of a policy whose id this is
abbrev pub policy_of : List ℕ → Option PolicyKey
policy_of text = if starts_with nat_eq text (codes "policy-") then option_map policy_with (key_of (drop 7 text)) else None

-- the account whose twelve decimal digits these are
abbrev pub account_of : List ℕ → Option ℕ
account_of text = if (length text == 12) && list_all is_ascii_digit text then Some (digits_value 10 text) else None

-- 1 to 10 decimal digits
abbrev pub are_number_digits : List ℕ → Bool
are_number_digits text = nat_le 1 (length text) && (nat_le (length text) 10 && list_all is_ascii_digit text)

-- the number that 1 to 10 decimal digits write
abbrev pub number_of : List ℕ → Option ℕ
number_of text = if are_number_digits text then Some (digits_value 10 text) else None
