-- Texts and tags within their limits have a spelling.
use Rattle.std.proofs.Common.{◌≡◌, ℕ, ◌<◌, ◌≤◌, ◌^◌, arith, true, nat_le, List, [], ◌∷◌, length, Option, Some, None}
use Rattle.std.proofs.lemmas.Bool.Decides.{nat_tests}
use Rattle.std.specs.List.{list_all, AllByRecursion}
use Rattle.std.specs.Str.{IsUtf8}
use Rattle.ebs_model.specs.declared.tags.Tag.{Tag}
use Rattle.ebs_model.specs.declared.rules.RuleTag.{RuleTag}
use Rattle.ebs_model.specs.Limits.{is_description, is_tag, has_distinct_keys, are_tags, is_visible, is_client_token, is_token_given, is_rule_value, is_rule_tag, has_distinct_rule_keys, are_rule_tags, are_targets}
use Rattle.ebs_records.specs.Fields.{IsText, IsOptional, AreMembers, IsTag, IsRuleTag}
use Rattle.ebs_lawful_points.proofs.Parts.{two, three}
use Rattle.ebs_point_rules.specs.Values.{HasTexts, HasRuleTexts}

few : (n most : ℕ) → most ≤ 256 → nat_le n most ≡ true → n < 2 ^ 32
few n most small e = grind (arith, nat_tests, small, e)

pub description-text : (o : Option (List ℕ)) → is_description o ≡ true → IsOptional IsUtf8 o → IsOptional IsText o
description-text None e f = tt
description-text (Some text) e f = (few (length text) 255 (omega arith) e, f)

pub token-text : (text : List ℕ) → is_client_token text ≡ true → IsUtf8 text → IsText text
token-text text e f = (few (length text) 255 (omega arith) (three (nat_le 1 (length text)) (nat_le (length text) 255) (list_all is_visible text) e).1, f)

pub token-given : (o : Option (List ℕ)) → is_token_given o ≡ true → IsOptional IsUtf8 o → IsOptional IsText o
token-given None e f = tt
token-given (Some text) e f = token-text text e f

tag-texts : (t : Tag) → is_tag t ≡ true → HasTexts t → IsTag t
tag-texts t e f =
    let all = three (nat_le 1 (length t.key)) (nat_le (length t.key) 128) (nat_le (length t.value) 256) e in
    ((few (length t.key) 128 (omega arith) all.1, f.0), (few (length t.value) 256 (omega arith) all.2, f.1))

each-tag : (ts : List Tag) → list_all is_tag ts ≡ true → AllByRecursion HasTexts ts → AllByRecursion IsTag ts
each-tag [] e f = tt
each-tag (t ∷ ts) e f = let both = two (is_tag t) (list_all is_tag ts) e in (tag-texts t both.0 f.0, each-tag ts both.1 f.1)

pub tags-texts : (ts : List Tag) → are_tags ts ≡ true → AllByRecursion HasTexts ts → AreMembers IsTag ts
tags-texts ts e f = let all = three (nat_le (length ts) 50) (list_all is_tag ts) (has_distinct_keys ts) e in (few (length ts) 50 (omega arith) all.0, each-tag ts all.1 f)

pub targets-texts : (ts : List Tag) → are_targets ts ≡ true → AllByRecursion HasTexts ts → AreMembers IsTag ts
targets-texts ts e f = tags-texts ts (two (nat_le 1 (length ts)) (are_tags ts) e).1 f

value-text : (o : Option (List ℕ)) → is_rule_value o ≡ true → IsOptional IsUtf8 o → IsOptional IsText o
value-text None e f = tt
value-text (Some value) e f = (few (length value) 256 (omega arith) e, f)

rule-tag-texts : (t : RuleTag) → is_rule_tag t ≡ true → HasRuleTexts t → IsRuleTag t
rule-tag-texts t e f =
    let all = three (nat_le 1 (length t.key)) (nat_le (length t.key) 128) (is_rule_value t.value) e in
    ((few (length t.key) 128 (omega arith) all.1, f.0), value-text t.value all.2 f.1)

each-rule-tag : (ts : List RuleTag) → list_all is_rule_tag ts ≡ true → AllByRecursion HasRuleTexts ts → AllByRecursion IsRuleTag ts
each-rule-tag [] e f = tt
each-rule-tag (t ∷ ts) e f = let both = two (is_rule_tag t) (list_all is_rule_tag ts) e in (rule-tag-texts t both.0 f.0, each-rule-tag ts both.1 f.1)

pub rule-tags-texts : (ts : List RuleTag) → are_rule_tags ts ≡ true → AllByRecursion HasRuleTexts ts → AreMembers IsRuleTag ts
rule-tags-texts ts e f = let all = three (nat_le (length ts) 50) (list_all is_rule_tag ts) (has_distinct_rule_keys ts) e in (few (length ts) 50 (omega arith) all.0, each-rule-tag ts all.1 f)
