-- What the members that were read are held to.
use Rattle.std.proofs.Common.{◌≡◌, ℕ, ◌<◌, ◌≤◌, ◌^◌, Bool, true, false, List, [], length, Option, Some, None, refl, ap, subst, if◌then◌else◌, arith, nat_lt}
use Rattle.std.specs.declared.result.Result.TheVariants.{Ok}
use Rattle.std.specs.Option.{option_map, option_and_then, unwrap_or}
use Rattle.std.specs.List.{list_all}
use Rattle.std.specs.Char.{is_ascii_digit}
use Rattle.std.specs.Str.Parse.{digits_value}
use Rattle.std.proofs.Math.Nat.{pow-le-pow_right}
use Rattle.serde_json.specs.Find.{as_array}
use Rattle.ebs_model.specs.declared.tags.Tag.{Tag}
use Rattle.ebs_model.specs.declared.rules.RuleTag.{RuleTag}
use Rattle.ebs_model.specs.Limits.{is_description, are_tags, is_client_token, is_token_given, is_timeout, is_page_size, has_ten_digits, is_retention, is_retention_given, are_rule_tags, are_rule_tags_given}
use Rattle.ebs_model.specs.Readers.{are_number_digits, number_of}
use Rattle.ebs_model.proofs.Radix.{value_below}
use Rattle.ebs_model.proofs.IdDigits.{decimal_digits}
use Rattle.ebs_members.specs.declared.rules.Period.{Period}
use Rattle.ebs_members.specs.declared.rules.Period.TheVariants.{Retention}
use Rattle.ebs_members.specs.Sources.{need, refuse_unless, if_any, Given}
use Rattle.ebs_members.specs.Kinds as kind

pub needed : {A : Type 0} (name : List ℕ) (found : Option A) (x : A) → need name found ≡ Ok x → found ≡ Some x
needed name None x h = cc
needed name (Some y) x h = let e : y ≡ x = cc in ap Some e

kept_one : {A : Type 0} (b : Bool) (x y : A) → (if b then Some x else None) ≡ Some y → (b ≡ true) × (x ≡ y)
kept_one true x y h = (refl, cc)
kept_one false x y h = cc

pub kept : {A : Type 0} (passes : A → Bool) (found : Option A) (y : A) → kind.keep_if passes found ≡ Some y → passes y ≡ true
kept passes None y h = cc
kept passes (Some x) y h = let k = kept_one (passes x) x y h in subst (λ z. passes z ≡ true) k.1 k.0

-- what holds of nothing and of each value that is read holds of what an optional member is read as
any_in : {A : Type 0} (P : Option A → Type 0) (read : Option A) (o : Option A) → ((x : A) → read ≡ Some x → P (Some x)) → option_map Some read ≡ Some o → P o
any_in P None o some h = cc
any_in P (Some x) o some h = let e : Some x ≡ o = cc in subst P e (some x refl)

any_of : {A : Type 0} (P : Option A → Type 0) (reads : Given → Option A) (found : Option Given) (o : Option A) → P None → ((g : Given) (x : A) → reads g ≡ Some x → P (Some x)) → if_any reads found ≡ Some o → P o
any_of P reads None o none some h = let e : None ≡ o = cc in subst P e none
any_of P reads (Some g) o none some h = any_in P (reads g) o (some g) h

ten_digits : (text : List ℕ) → are_number_digits text ≡ true → has_ten_digits (digits_value 10 text) ≡ true
ten_digits text h =
    let size : length text ≤ 10 = grind arith in
    let all : list_all is_ascii_digit text ≡ true = grind arith in
    let below : digits_value 10 text < 10 ^ length text = value_below 10 is_ascii_digit text decimal_digits all in
    let some : 0 < 10 = omega arith in
    let most : 10 ^ length text ≤ 10 ^ 10 = pow-le-pow_right some size in
    grind arith

number_small : (text : List ℕ) (n : ℕ) → number_of text ≡ Some n → has_ten_digits n ≡ true
number_small text n h =
    let k = kept_one (are_number_digits text) (digits_value 10 text) n h in
    subst (λ m. has_ten_digits m ≡ true) k.1 (ten_digits text k.0)

text_small : (found : Option (List ℕ)) (n : ℕ) → option_and_then number_of found ≡ Some n → has_ten_digits n ≡ true
text_small None n h = cc
text_small (Some text) n h = number_small text n h

index_small : (g : Given) (n : ℕ) → kind.index g ≡ Some n → has_ten_digits n ≡ true
index_small g n h = text_small (kind.text_in g) n h

given_small : (found : Option Given) (n : ℕ) → option_and_then kind.index found ≡ Some n → has_ten_digits n ≡ true
given_small None n h = cc
given_small (Some g) n h = index_small g n h

pub index_needed : (name : List ℕ) (found : Option Given) (n : ℕ) → need name (option_and_then kind.index found) ≡ Ok n → has_ten_digits n ≡ true
index_needed name found n h = given_small found n (needed name _ n h)

pub start_kept : (name : List ℕ) (found : Option Given) (o : Option ℕ) → need name (if_any kind.index found) ≡ Ok o → has_ten_digits (unwrap_or o 0) ≡ true
start_kept name found o h =
    any_of (λ p. has_ten_digits (unwrap_or p 0) ≡ true) kind.index found o refl index_small (needed name _ o h)

pub page_kept : (name : List ℕ) (found : Option Given) (o : Option ℕ) → need name (if_any (kind.number_within 100 10000) found) ≡ Ok o → is_page_size (unwrap_or o 1000) ≡ true
page_kept name found o h =
    any_of (λ p. is_page_size (unwrap_or p 1000) ≡ true) (kind.number_within 100 10000) found o refl (λ g n e. kept (kind.is_within 100 10000) (kind.number g) n e) (needed name _ o h)

pub timeout_kept : (name : List ℕ) (found : Option Given) (o : Option ℕ) → need name (if_any (kind.number_within 10 4320) found) ≡ Ok o → is_timeout (unwrap_or o 60) ≡ true
timeout_kept name found o h =
    any_of (λ p. is_timeout (unwrap_or p 60) ≡ true) (kind.number_within 10 4320) found o refl (λ g n e. kept (kind.is_within 10 4320) (kind.number g) n e) (needed name _ o h)

pub description_kept : (name : List ℕ) (found : Option Given) (o : Option (List ℕ)) → need name (if_any kind.description found) ≡ Ok o → is_description o ≡ true
description_kept name found o h =
    any_of (λ p. is_description p ≡ true) kind.description found o refl (λ g text e. kept kind.is_description (kind.any_text g) text e) (needed name _ o h)

pub tags_kept : (name : List ℕ) (found : Option Given) (o : Option (List Tag)) → need name (if_any kind.tags found) ≡ Ok o → are_tags (unwrap_or o []) ≡ true
tags_kept name found o h =
    any_of (λ p. are_tags (unwrap_or p []) ≡ true) kind.tags found o refl (λ g tags e. kept are_tags (option_and_then (kind.all_of kind.tag_of) (option_and_then as_array (kind.json_in g))) tags e) (needed name _ o h)

pub token_kept : (name : List ℕ) (found : Option Given) (o : Option (List ℕ)) → need name (if_any kind.token found) ≡ Ok o → is_token_given o ≡ true
token_kept name found o h =
    any_of (λ p. is_token_given p ≡ true) kind.token found o refl (λ g text e. kept is_client_token (kind.any_text g) text e) (needed name _ o h)

number_below : (n : ℕ) → kind.is_within 0 268435455 n ≡ true → nat_lt n (2 ^ 28) ≡ true
number_below n h = grind arith

pub from_kept : (name : List ℕ) (found : Option Given) (o : Option ℕ) → need name (if_any (kind.number_within 0 268435455) found) ≡ Ok o → nat_lt (unwrap_or o 0) (2 ^ 28) ≡ true
from_kept name found o h =
    any_of (λ p. nat_lt (unwrap_or p 0) (2 ^ 28) ≡ true) (kind.number_within 0 268435455) found o refl (λ g n e. number_below n (kept (kind.is_within 0 268435455) (kind.number g) n e)) (needed name _ o h)

pub rows_kept : (name : List ℕ) (found : Option Given) (o : Option ℕ) → need name (if_any (kind.number_within 1 1000) found) ≡ Ok o → kind.is_within 1 1000 (unwrap_or o 1000) ≡ true
rows_kept name found o h =
    any_of (λ p. kind.is_within 1 1000 (unwrap_or p 1000) ≡ true) (kind.number_within 1 1000) found o refl (λ g n e. kept (kind.is_within 1 1000) (kind.number g) n e) (needed name _ o h)

pub test_kept : (holds : Bool) (name : List ℕ) → refuse_unless holds name ≡ Ok tt → holds ≡ true
test_kept true name h = refl
test_kept false name h = cc

period_is : (of : Period) (g : Given) (days : ℕ) → kind.period of g ≡ Some days → kind.is_period of days ≡ true
period_is of g days h = kept (kind.is_period of) (option_and_then (kind.period_in of) (kind.json_in g)) days h

found_retention : (found : Option Given) (days : ℕ) → option_and_then (kind.period Retention) found ≡ Some days → is_retention days ≡ true
found_retention None days h = cc
found_retention (Some g) days h = period_is Retention g days h

pub retention_needed : (name : List ℕ) (found : Option Given) (days : ℕ) → need name (option_and_then (kind.period Retention) found) ≡ Ok days → is_retention days ≡ true
retention_needed name found days h = found_retention found days (needed name _ days h)

pub retention_kept : (name : List ℕ) (found : Option Given) (o : Option ℕ) → need name (if_any (kind.period Retention) found) ≡ Ok o → is_retention_given o ≡ true
retention_kept name found o h =
    any_of (λ p. is_retention_given p ≡ true) (kind.period Retention) found o refl (λ g days e. period_is Retention g days e) (needed name _ o h)

rule_tags_are : (g : Given) (tags : List RuleTag) → kind.rule_tags g ≡ Some tags → are_rule_tags tags ≡ true
rule_tags_are g tags h = kept are_rule_tags (option_and_then (kind.all_of kind.rule_tag_of) (option_and_then as_array (kind.json_in g))) tags h

pub rule_tags_kept : (name : List ℕ) (found : Option Given) (o : Option (List RuleTag)) → need name (if_any kind.rule_tags found) ≡ Ok o → are_rule_tags (unwrap_or o []) ≡ true
rule_tags_kept name found o h =
    any_of (λ p. are_rule_tags (unwrap_or p []) ≡ true) kind.rule_tags found o refl rule_tags_are (needed name _ o h)

pub new_rule_tags_kept : (name : List ℕ) (found : Option Given) (o : Option (List RuleTag)) → need name (if_any kind.rule_tags found) ≡ Ok o → are_rule_tags_given o ≡ true
new_rule_tags_kept name found o h =
    any_of (λ p. are_rule_tags_given p ≡ true) kind.rule_tags found o refl rule_tags_are (needed name _ o h)
