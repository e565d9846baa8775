-- Resource tags and periods of rules in JSON: printed and read back.
use Rattle.std.proofs.Common.{◌≡◌, ℕ, ◌<◌, ◌≤◌, ◌^◌, true, cond, List, [], ◌∷◌, refl, ap, ◌∙◌, arith, codes, IsUtf8, IfSome}
use Rattle.std.specs.declared.option.Option.{Option}
use Rattle.std.specs.declared.option.Option.TheVariants.{None, Some}
use Rattle.std.specs.Option.{option_map, option_and_then}
use Rattle.std.specs.List.{list_all}
use Rattle.std.proofs.Math.Nat.{max-le}
use Rattle.std.proofs.lemmas.Bool.Decides.{nat_tests}
use Rattle.json.specs.Json as json
use Rattle.json.specs.Token.{Token}
use Rattle.json.specs.Tree.{json_tokens, items_tokens, depth, items_depth, HasNumbers, ItemsHaveNumbers}
use Rattle.json.proofs.Printed.Utf8.{IsUtf8-are_ascii, IsUtf8-quoted}
use Rattle.json.proofs.Printed.Decimals.{IsNumber-decimal}
use Rattle.serde_json.specs.Data.{Data, Items, no_items, item, no_members, put, string, array, object}
use Rattle.serde_json.specs.Read.{of_json, of_items}
use Rattle.ebs_model.specs.declared.rules.RuleTag.{RuleTag}
use Rattle.ebs_model.specs.Limits.{is_retention, is_delay, are_rule_tags}
use Rattle.ebs_members.specs.declared.rules.Period.TheVariants.{Retention, UnlockDelay}
use Rattle.ebs_members.specs.Sources.{given_json}
use Rattle.ebs_members.specs.Kinds as kind
use Rattle.ebs_client.specs.Bodies.{if_any, days_of, retention, delayed, rule_tags}
use Rattle.ebs_client.specs.Reach.{AllHaveRuleTexts}
use Rattle.ebs_client.proofs.Pieces.{is_path_byte}
use Rattle.ebs_client.proofs.Texts.{plain_text}
use Rattle.ebs_client.proofs.Bodies.{AreTexts, num, number_text, number_read, open_text, close_text, key_text}
use Rattle.ebs_client.proofs.Tags.{texts_append}
use Rattle.ebs_client.proofs.Objects.{IsShort, put_any}

-- so many days
abbrev IsWide : ℕ → Type 0
IsWide days = days < 2 ^ 64

short_days : (value unit : List ℕ) (days : ℕ) → list_all is_path_byte value ≡ true → list_all is_path_byte unit ≡ true → IsWide days → IsShort (days_of value unit days)
unfolding AreTexts
short_days value unit days plain plain_unit wide =
    record {
      numbers = (IsNumber-decimal days wide, (tt, tt));
      shallow = omega arith;
      texts =
          (open_text, (key_text value plain, (number_text days wide, (key_text unit plain_unit, (IsUtf8-quoted (codes "DAYS") (plain_text (codes "DAYS") refl), (close_text, tt))))));
    }

abbrev days_data : List ℕ → List ℕ → ℕ → Data
days_data value unit days = object (put unit (string (codes "DAYS")) (put value (num days) no_members))

days_read : (value unit : List ℕ) (days : ℕ) → IsWide days → of_json (days_of value unit days) ≡ Some (days_data value unit days)
days_read value unit days wide = ap (λ read. option_map object (option_and_then (λ d. Some (put unit (string (codes "DAYS")) (put value d no_members))) read)) (number_read days wide)

-- how long a snapshot stays in the bin
abbrev pub IsRetention : ℕ → Type 0
IsRetention days = is_retention days ≡ true

retention_width : (days : ℕ) → IsRetention days → IsWide days
retention_width days h = let few : days ≤ 365 = grind (arith, nat_tests) in omega arith

pub retention_short : (days : ℕ) → IsRetention days → IsShort (retention days)
retention_short days h = short_days (codes "RetentionPeriodValue") (codes "RetentionPeriodUnit") days refl refl (retention_width days h)

abbrev pub retention_data : ℕ → Data
retention_data days = days_data (codes "RetentionPeriodValue") (codes "RetentionPeriodUnit") days

pub retention_read : (days : ℕ) → IsRetention days → of_json (retention days) ≡ Some (retention_data days)
retention_read days h = days_read (codes "RetentionPeriodValue") (codes "RetentionPeriodUnit") days (retention_width days h)

pub retention_said : (days : ℕ) → IsRetention days → kind.period Retention (given_json (retention_data days)) ≡ Some days
retention_said days h = ap (λ b. cond b (Some days) None) h

-- how long an unlock waits
abbrev pub IsDelay : ℕ → Type 0
IsDelay days = is_delay days ≡ true

delay_width : (days : ℕ) → IsDelay days → IsWide days
delay_width days h = let few : days ≤ 30 = grind (arith, nat_tests) in omega arith

pub delay_short : (days : ℕ) → IsDelay days → IsShort (delayed days)
unfolding AreTexts
delay_short days h =
    let inner = short_days (codes "UnlockDelayValue") (codes "UnlockDelayUnit") days refl refl (delay_width days h) in
    record {
      numbers = (inner.numbers, tt);
      shallow = omega arith;
      texts =
          (open_text, (key_text (codes "UnlockDelay") refl, texts_append (json_tokens (days_of (codes "UnlockDelayValue") (codes "UnlockDelayUnit") days)) (Token.end_object ∷ []) inner.texts (close_text, tt)));
    }

abbrev pub delay_data : ℕ → Data
delay_data days = object (put (codes "UnlockDelay") (days_data (codes "UnlockDelayValue") (codes "UnlockDelayUnit") days) no_members)

pub delay_read : (days : ℕ) → IsDelay days → of_json (delayed days) ≡ Some (delay_data days)
delay_read days h =
    ap (λ read. option_map object (option_and_then (λ d. Some (put (codes "UnlockDelay") d no_members)) read)) (days_read (codes "UnlockDelayValue") (codes "UnlockDelayUnit") days (delay_width days h))

pub delay_said : (days : ℕ) → IsDelay days → kind.period UnlockDelay (given_json (delay_data days)) ≡ Some days
delay_said days h = ap (λ b. cond b (Some days) None) h

-- a resource tag
abbrev one : List ℕ → Option (List ℕ) → json.Json
one key value = json.object (json.member (codes "ResourceTagKey") (json.string key) (if_any (codes "ResourceTagValue") json.string value json.no_members))

abbrev one_data : List ℕ → Option (List ℕ) → Data
one_data key value = object (put_any (codes "ResourceTagValue") string value (put (codes "ResourceTagKey") (string key) no_members))

one_read : (key : List ℕ) (value : Option (List ℕ)) → of_json (one key value) ≡ Some (one_data key value)
one_read key None = refl
one_read key (Some value) = refl

one_said : (key : List ℕ) (value : Option (List ℕ)) → kind.rule_tag_of (one_data key value) ≡ Some (record { key = key; value = value })
one_said key None = refl
one_said key (Some value) = refl

one_numbers : (key : List ℕ) (value : Option (List ℕ)) → HasNumbers (one key value)
one_numbers key None = (tt, tt)
one_numbers key (Some value) = (tt, (tt, tt))

one_depth : (key : List ℕ) (value : Option (List ℕ)) → depth (one key value) ≤ 1
one_depth key None = omega arith
one_depth key (Some value) = omega arith

one_texts : (key : List ℕ) (value : Option (List ℕ)) → IsUtf8 key → IfSome value IsUtf8 → AreTexts (json_tokens (one key value))
unfolding AreTexts
one_texts key None h k = (open_text, (key_text (codes "ResourceTagKey") refl, (IsUtf8-quoted key h, (close_text, tt))))
one_texts key (Some value) h k =
    (open_text, (key_text (codes "ResourceTagKey") refl, (IsUtf8-quoted key h, (key_text (codes "ResourceTagValue") refl, (IsUtf8-quoted value k, (close_text, tt))))))

-- and many
unfoldable pub rule_tags_data : List RuleTag → Items
rule_tags_data [] = no_items
rule_tags_data (t ∷ ts) = item (one_data t.key t.value) (rule_tags_data ts)

tags_read : (ts : List RuleTag) → of_items (rule_tags ts) ≡ Some (rule_tags_data ts)
unfolding rule_tags_data
tags_read [] = refl
tags_read (t ∷ ts) =
    ap (λ read. option_and_then (λ d. option_map (item d) (of_items (rule_tags ts))) read) (one_read t.key t.value) ∙ ap (λ read. option_map (item (one_data t.key t.value)) read) (tags_read ts)

tags_said : (ts : List RuleTag) → kind.all_of kind.rule_tag_of (rule_tags_data ts) ≡ Some ts
unfolding rule_tags_data
tags_said [] = refl
tags_said (t ∷ ts) =
    ap (λ said. option_and_then (λ x. option_map (λ xs. x ∷ xs) (kind.all_of kind.rule_tag_of (rule_tags_data ts))) said) (one_said t.key t.value) ∙ ap (λ said. option_map (λ xs. t ∷ xs) said) (tags_said ts)

tags_numbers : (ts : List RuleTag) → ItemsHaveNumbers (rule_tags ts)
tags_numbers [] = tt
tags_numbers (t ∷ ts) = (one_numbers t.key t.value, tags_numbers ts)

tags_depth : (ts : List RuleTag) → items_depth (rule_tags ts) ≤ 1
tags_depth [] = omega arith
tags_depth (t ∷ ts) = max-le (one_depth t.key t.value) (tags_depth ts)

tags_texts : (ts : List RuleTag) → AllHaveRuleTexts ts → AreTexts (items_tokens (rule_tags ts))
unfolding AreTexts
tags_texts [] h = (IsUtf8-are_ascii (codes "]") refl, tt)
tags_texts (t ∷ ts) h = texts_append (json_tokens (one t.key t.value)) (items_tokens (rule_tags ts)) (one_texts t.key t.value h.0.0 h.0.1) (tags_texts ts h.1)

pub rule_tags_short : (ts : List RuleTag) → AllHaveRuleTexts ts → IsShort (json.array (rule_tags ts))
unfolding AreTexts
rule_tags_short ts h = record { numbers = tags_numbers ts; shallow = omega (arith, tags_depth ts); texts = (IsUtf8-are_ascii (codes "[") refl, tags_texts ts h) }

abbrev pub AreRuleTags : List RuleTag → Type 0
AreRuleTags ts = are_rule_tags ts ≡ true

abbrev pub rule_tags_array : List RuleTag → Data
rule_tags_array ts = array (rule_tags_data ts)

pub rule_tags_read : (ts : List RuleTag) → of_json (json.array (rule_tags ts)) ≡ Some (rule_tags_array ts)
rule_tags_read ts = ap (option_map array) (tags_read ts)

pub rule_tags_said : (ts : List RuleTag) → AreRuleTags ts → kind.rule_tags (given_json (rule_tags_array ts)) ≡ Some ts
rule_tags_said ts h = ap (kind.keep_if are_rule_tags) (tags_said ts) ∙ ap (λ b. cond b (Some ts) None) h
