-- The kinds of members, each as what it reads.
use Rattle.std.specs.Prelude.{Bool, Option, Some, None, if◌then◌else◌, ℕ, List, true, false, ◌&&◌, nat_le, ◌==◌, length, codes, [], ◌∷◌, not}
use Rattle.std.specs.Option.{option_and_then, option_map}
use Rattle.std.specs.Result.{result_ok}
use Rattle.std.specs.Str.{bytes_eq, is_utf8}
use Rattle.base64.specs.Engines.{standard}
use Rattle.base64.specs.GeneralPurpose.{decode_of}
use Rattle.serde_json.specs.Data.{Data, Items, no_items, item}
use Rattle.serde_json.specs.Find.{as_str, as_u64, as_number, as_array, as_bool}
use Rattle.ebs_model.specs.declared.keys.SnapKey.{SnapKey}
use Rattle.ebs_model.specs.declared.keys.VolKey.{VolKey}
use Rattle.ebs_model.specs.declared.keys.RuleKey.{RuleKey}
use Rattle.ebs_model.specs.declared.tags.Tag.{Tag}
use Rattle.ebs_model.specs.declared.rules.RuleTag.{RuleTag}
use Rattle.ebs_model.specs.declared.lock.LockMode.{LockMode}
use Rattle.ebs_model.specs.declared.lock.LockMode.TheVariants.{Governance, Compliance}
use Rattle.ebs_model.specs.declared.lock.Term.TheVariants.{Days}
use Rattle.ebs_model.specs.Limits.{is_client_token, are_tags, is_term, is_cool_off, is_restore, is_retention, is_delay, are_rule_tags}
use Rattle.ebs_model.specs.Calls.Permission.{permitted}
use Rattle.ebs_members.specs.declared.kinds.Named.{Named}
use Rattle.ebs_model.specs.Readers.{account_of, snap_of, vol_of, number_of, rule_of}
use Rattle.ebs_members.specs.declared.kinds.Spell.{Spell}
use Rattle.ebs_members.specs.declared.kinds.Spell.TheVariants.{LockDays, CoolHours, RestoreDays}
use Rattle.ebs_members.specs.declared.rules.Period.{Period}
use Rattle.ebs_members.specs.declared.rules.Period.TheVariants.{Retention, UnlockDelay}
use Rattle.ebs_members.specs.Sources.{Given, given_text, given_json, member}

-- the value, where it passes
abbrev pub keep_if : {A : Type 0} → (A → Bool) → Option A → Option A
keep_if passes found = option_and_then (λ x. if passes x then Some x else None) found

abbrev pub text_in : Given → Option (List ℕ)
text_in (given_text t) = Some t
text_in (given_json d) = as_str d

abbrev pub json_in : Given → Option Data
json_in (given_text t) = None
json_in (given_json d) = Some d

abbrev pub good_if : Bool → Option (Unit {0})
good_if true = Some tt
good_if false = None

-- this text and no other
abbrev pub is_text : List ℕ → Option (List ℕ) → Bool
is_text expected None = false
is_text expected (Some found) = bytes_eq found expected

-- an account's number
abbrev pub account : Given → Option ℕ
account given = option_and_then account_of (text_in given)

-- the id of a snapshot
abbrev pub snapshot : Given → Option SnapKey
snapshot given = option_and_then snap_of (text_in given)

-- the id of a volume
abbrev pub volume : Given → Option VolKey
volume given = option_and_then vol_of (text_in given)

abbrev pub whole : Data → Option ℕ
whole d = option_and_then as_u64 (as_number d)

-- as a text 1 to 10 decimal digits; in JSON 0 to 2^64 - 1, without sign, fraction and exponent
abbrev pub number : Given → Option ℕ
number (given_text t) = number_of t
number (given_json d) = whole d

-- 1 to 10 decimal digits in a text
abbrev pub index : Given → Option ℕ
index given = option_and_then number_of (text_in given)

abbrev pub is_within : ℕ → ℕ → ℕ → Bool
is_within low high n = nat_le low n && nat_le n high

abbrev pub number_within : ℕ → ℕ → Given → Option ℕ
number_within low high given = keep_if (is_within low high) (number given)

-- the 32 bytes that a text is the Base64 of, in the standard alphabet with padding (RFC 4648, section 4)
abbrev pub digest_only : List ℕ → Option (List ℕ)
digest_only bytes = if length bytes == 32 then Some bytes else None

abbrev pub digest_of : List ℕ → Option (List ℕ)
digest_of text = option_and_then digest_only (result_ok (decode_of standard text))

abbrev pub digest : Given → Option (List ℕ)
digest given = option_and_then digest_of (text_in given)

-- a text in UTF-8
abbrev pub any_text : Given → Option (List ℕ)
any_text given = keep_if is_utf8 (text_in given)

-- at most 255 bytes
abbrev pub is_description : List ℕ → Bool
is_description text = nat_le (length text) 255

abbrev pub description : Given → Option (List ℕ)
description given = keep_if is_description (any_text given)

abbrev pub token : Given → Option (List ℕ)
token given = keep_if is_client_token (any_text given)

-- `{"Key", "Value"}`, both texts
abbrev pub tag_from : Option (List ℕ) → Option (List ℕ) → Option Tag
tag_from None value = None
tag_from (Some key) value = option_map (λ v. record { key = key; value = v }) value

abbrev pub text_at : List ℕ → Data → Option (List ℕ)
text_at name d = option_and_then as_str (member name d)

abbrev pub tag_of : Data → Option Tag
tag_of d = tag_from (text_at (codes "Key") d) (text_at (codes "Value") d)

-- what each of the items says, if each says something
abbrev pub all_of : {A : Type 0} → (Data → Option A) → Items → Option (List A)
all_of says no_items = Some []
all_of says (item d ds) = option_and_then (λ x. option_map (λ xs. x ∷ xs) (all_of says ds)) (says d)

-- an array of tags within their limits
abbrev pub tags : Given → Option (List Tag)
tags given = keep_if are_tags (option_and_then (all_of tag_of) (option_and_then as_array (json_in given)))

abbrev pub account_in : Data → Option ℕ
account_in d = option_and_then account_of (as_str d)

abbrev pub nobody : Named
nobody = record { accounts = []; all = false }

-- at most 1000 accounts; they are held ascending and each once
abbrev pub named_accounts : Items → Option Named
named_accounts items = option_map (λ accounts. record { accounts = permitted accounts [] []; all = false }) (keep_if (λ accounts. nat_le (length accounts) 1000) (all_of account_in items))

-- everybody
abbrev pub named_all : Bool → Option Named
named_all true = Some (record { accounts = []; all = true })
named_all false = None

abbrev pub named_in : Option Items → Bool → Option Named
named_in None is_all = named_all is_all
named_in (Some items) is_all = named_accounts items

-- an array of accounts, or the text `all`
abbrev pub named : Given → Option Named
named given = named_in (option_and_then as_array (json_in given)) (is_text (codes "all") (text_in given))

abbrev pub exactly : List ℕ → Given → Option (Unit {0})
exactly expected given = good_if (is_text expected (text_in given))

-- `false` and nothing else
abbrev pub is_false : Option Bool → Bool
is_false None = false
is_false (Some b) = not b

abbrev pub bool_in : Given → Option Bool
bool_in given = option_and_then as_bool (json_in given)

abbrev pub only_false : Given → Option (Unit {0})
only_false given = good_if (is_false (bool_in given))

-- no value is good
abbrev pub absent : Given → Option (Unit {0})
absent given = None

-- the mode of a lock, in small letters
abbrev pub lock_mode : Given → Option LockMode
lock_mode given = if is_text (codes "governance") (text_in given) then Some Governance else (if is_text (codes "compliance") (text_in given) then Some Compliance else None)

-- what may be so long, in days or hours
abbrev pub may_last : Spell → ℕ → Bool
may_last LockDays n = is_term (Days n)
may_last (CoolHours mode) n = is_cool_off mode (Some n)
may_last RestoreDays n = is_restore (Some n)

abbrev pub spell : Spell → Given → Option ℕ
spell of given = keep_if (may_last of) (number given)

-- the id of a rule
abbrev pub rule : Given → Option RuleKey
rule given = option_and_then rule_of (text_in given)

-- so many days, as an object of a number and the unit `DAYS`
abbrev pub days_in : List ℕ → List ℕ → Data → Option ℕ
days_in value unit d = if is_text (codes "DAYS") (text_at unit d) then option_and_then whole (member value d) else None

-- how long a snapshot stays in the bin, or how long the unlock of a rule waits
abbrev pub period_in : Period → Data → Option ℕ
period_in Retention d = days_in (codes "RetentionPeriodValue") (codes "RetentionPeriodUnit") d
period_in UnlockDelay d = option_and_then (days_in (codes "UnlockDelayValue") (codes "UnlockDelayUnit")) (member (codes "UnlockDelay") d)

abbrev pub is_period : Period → ℕ → Bool
is_period Retention days = is_retention days
is_period UnlockDelay days = is_delay days

abbrev pub period : Period → Given → Option ℕ
period of given = keep_if (is_period of) (option_and_then (period_in of) (json_in given))

-- a text, or nothing where there is no member
abbrev pub text_if_any : Option Data → Option (Option (List ℕ))
text_if_any None = Some None
text_if_any (Some d) = option_map Some (as_str d)

-- `{"ResourceTagKey", "ResourceTagValue"?}`, both texts
abbrev pub rule_tag_from : Option (List ℕ) → Option (Option (List ℕ)) → Option RuleTag
rule_tag_from None value = None
rule_tag_from (Some key) value = option_map (λ v. record { key = key; value = v }) value

abbrev pub rule_tag_of : Data → Option RuleTag
rule_tag_of d = rule_tag_from (text_at (codes "ResourceTagKey") d) (text_if_any (member (codes "ResourceTagValue") d))

-- an array of resource tags within their limits
abbrev pub rule_tags : Given → Option (List RuleTag)
rule_tags given = keep_if are_rule_tags (option_and_then (all_of rule_tag_of) (option_and_then as_array (json_in given)))
