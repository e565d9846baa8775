-- What is printed in JSON is read back.
use Rattle.std.proofs.Common.{◌≡◌, ℕ, ◌<◌, ◌≤◌, ◌^◌, Bool, true, false, List, [], ◌∷◌, refl, sym, ap, ◌∙◌, codes, append-nil, IsUtf8}
use Rattle.std.specs.declared.option.Option.{Option}
use Rattle.std.specs.declared.option.Option.TheVariants.{None, Some}
use Rattle.std.specs.Option.{option_and_then}
use Rattle.std.proofs.lemmas.Str.{IsUtf8-nil, IsUtf8-append, IsUtf8-from_ascii}
use Rattle.std.proofs.lemmas.Fmt.{IsAscii-decimal}
use Rattle.std.specs.Fmt.{decimal}
use Rattle.std.proofs.Common.{lit≤, IfSome}
use Rattle.std.specs.declared.result.Result.TheVariants.{Ok}
use Rattle.std.specs.Option.{option_map}
use Rattle.std.specs.List.{list_all}
use Rattle.ebs_model.specs.declared.keys.SnapKey.{SnapKey}
use Rattle.ebs_model.specs.declared.lock.LockMode.{LockMode}
use Rattle.ebs_model.specs.declared.lock.LockMode.TheVariants.{Governance, Compliance}
use Rattle.ebs_model.specs.declared.lock.Term.{Term}
use Rattle.ebs_model.specs.declared.lock.Term.TheVariants.{Days, Date}
use Rattle.ebs_model.specs.declared.request.Request.TheVariants.{LockSnapshot, RestoreTier}
use Rattle.ebs_model.specs.Limits.{is_term, is_cool_off, is_restore}
use Rattle.ebs_rest.specs.Calls as call
use Rattle.ebs_client.proofs.Pieces.{is_path_byte}
use Rattle.ebs_client.proofs.Texts.{plain_text}
use Rattle.json.proofs.Printed.Decimals.{IsNumber-decimal}
use Rattle.serde_json.proofs.Numbers.{number_of-decimal}
use Rattle.json.specs.Token.{Token}
use Rattle.json.specs.Json as json
use Rattle.json.specs.Print.{print_from, token_text, ends}
use Rattle.json.specs.Tree.{json_tokens, depth, HasNumbers}
use Rattle.json.proofs.Printed.Tokens.{tokens-print}
use Rattle.json.proofs.Printed.Trees.{ArePrintable-json_tokens, value-json_tokens}
use Rattle.json.proofs.Printed.Utf8.{IsUtf8-separator, IsUtf8-are_ascii, IsUtf8-key, IsUtf8-quoted, IsUtf8-boolean}
use Rattle.serde_json.specs.Data.{Data, Members, put, number, unsigned, boolean, string, object, no_members, member}
use Rattle.serde_json.specs.Read.{of_json, read, max_depth}
use Rattle.ebs_members.specs.Sources.{in_body, body_of, object_only}
use Rattle.ebs_members.proofs.Objects.{json_read}
use Rattle.ebs_client.specs.Bodies.{text_of, archived, restored, mode_name, locked}

unfoldable pub AreTexts : List Token → Type 0
AreTexts [] = Unit {0}
AreTexts (t ∷ ts) = IsUtf8 (token_text t) × AreTexts ts

printed_utf8 : (after : Bool) (ts : List Token) → AreTexts ts → IsUtf8 (print_from after ts)
unfolding print_from AreTexts
printed_utf8 after [] h = IsUtf8-nil
printed_utf8 after (t ∷ ts) h = IsUtf8-append _ _ (IsUtf8-separator after t) (IsUtf8-append _ _ h.0 (printed_utf8 (ends t) ts h.1))

read_printed : (j : json.Json) → HasNumbers j → depth j ≤ 127 → read (text_of j) ≡ of_json j
read_printed j numbers shallow =
    ap (option_and_then of_json) (ap (option_and_then (λ p. json.if_last p.0 p.1))
    (ap (json.value max_depth) (tokens-print (json_tokens j) (ArePrintable-json_tokens j numbers) ∙ sym (append-nil (json_tokens j)))
    ∙ value-json_tokens j max_depth [] shallow))

pub body_read : (j : json.Json) (ms : Members) → HasNumbers j → depth j ≤ 127 → AreTexts (json_tokens j) → of_json j ≡ Some (object ms) → body_of (text_of j) ≡ Some (object ms)
body_read j ms numbers shallow texts is =
    ap (option_and_then object_only) (json_read (text_of j) (object ms) (printed_utf8 false (json_tokens j) texts) (read_printed j numbers shallow ∙ is))

pub number_text : (n : ℕ) → n < 2 ^ 64 → IsUtf8 (decimal n)
number_text n small = IsUtf8-from_ascii (decimal n) (IsAscii-decimal n small)

pub open_text : IsUtf8 (codes "{")
open_text = IsUtf8-are_ascii (codes "{") refl

pub close_text : IsUtf8 (codes "}")
close_text = IsUtf8-are_ascii (codes "}") refl

pub key_text : (name : List ℕ) → list_all is_path_byte name ≡ true → IsUtf8 (token_text (Token.key name))
key_text name h = IsUtf8-key name (plain_text name h)

word_text : (word : List ℕ) → list_all is_path_byte word ≡ true → IsUtf8 (token_text (Token.string word))
word_text word h = IsUtf8-quoted word (plain_text word h)

abbrev pub num : ℕ → Data
num n = number (unsigned n)

pub number_read : (n : ℕ) → n < 2 ^ 64 → of_json (json.number (decimal n)) ≡ Some (num n)
number_read n small = ap (option_map number) (number_of-decimal n small)

pub archived_body : body_of (text_of archived) ≡ Some (object (member (codes "StorageTier") (string (codes "archive")) no_members))
unfolding AreTexts
archived_body =
    body_read archived (member (codes "StorageTier") (string (codes "archive")) no_members) (tt, tt) (lit≤ tt)
    (open_text, (key_text (codes "StorageTier") refl, (word_text (codes "archive") refl, (close_text, tt)))) refl

pub for_good_body : body_of (text_of (restored None)) ≡ Some (object (member (codes "PermanentRestore") (boolean true) no_members))
unfolding AreTexts
for_good_body =
    body_read (restored None) (member (codes "PermanentRestore") (boolean true) no_members) (tt, tt) (lit≤ tt)
    (open_text, (key_text (codes "PermanentRestore") refl, (IsUtf8-boolean true, (close_text, tt)))) refl

pub days_body : (days : ℕ) → days < 2 ^ 64 → body_of (text_of (restored (Some days))) ≡ Some (object (member (codes "TemporaryRestoreDays") (num days) no_members))
unfolding AreTexts
days_body days small =
    body_read (restored (Some days)) (member (codes "TemporaryRestoreDays") (num days) no_members) (IsNumber-decimal days small, tt) (lit≤ tt)
    (open_text, (key_text (codes "TemporaryRestoreDays") refl, (number_text days small, (close_text, tt))))
    (ap (λ read. option_map object (option_and_then (λ d. Some (put (codes "TemporaryRestoreDays") d no_members)) read)) (number_read days small))

-- a lock's members as they are kept, by name
abbrev pub lock_data : LockMode → Term → Option ℕ → Members
lock_data mode (Days days) None = member (codes "LockDuration") (num days) (member (codes "LockMode") (string (mode_name mode)) no_members)
lock_data mode (Date date) None = member (codes "ExpirationDate") (num date.second) (member (codes "LockMode") (string (mode_name mode)) no_members)
lock_data mode (Days days) (Some hours) = member (codes "CoolOffPeriod") (num hours) (member (codes "LockDuration") (num days) (member (codes "LockMode") (string (mode_name mode)) no_members))
lock_data mode (Date date) (Some hours) = member (codes "CoolOffPeriod") (num hours) (member (codes "ExpirationDate") (num date.second) (member (codes "LockMode") (string (mode_name mode)) no_members))

mode_text : (mode : LockMode) → IsUtf8 (token_text (Token.string (mode_name mode)))
mode_text Governance = word_text (codes "governance") refl
mode_text Compliance = word_text (codes "compliance") refl

-- one number, and one more
one_read : (name word : List ℕ) (n : ℕ) → n < 2 ^ 64 → of_json (json.object (json.member (codes "LockMode") (json.string word) (json.member name (json.number (decimal n)) json.no_members)))
    ≡ Some (object (put name (num n) (member (codes "LockMode") (string word) no_members)))
one_read name word n small = ap (λ read. option_map object (option_and_then (λ d. Some (put name d (member (codes "LockMode") (string word) no_members))) read)) (number_read n small)

two_read : (name word : List ℕ) (n hours : ℕ) → n < 2 ^ 64 → hours < 2 ^ 64
    → of_json (json.object (json.member (codes "LockMode") (json.string word) (json.member name (json.number (decimal n)) (json.member (codes "CoolOffPeriod") (json.number (decimal hours)) json.no_members))))
    ≡ Some (object (put (codes "CoolOffPeriod") (num hours) (put name (num n) (member (codes "LockMode") (string word) no_members))))
two_read name word n hours small few =
    ap (λ read. option_map object (option_and_then (λ d. option_and_then (λ e. Some (put (codes "CoolOffPeriod") e (put name d (member (codes "LockMode") (string word) no_members)))) (of_json (json.number (decimal hours)))) read)) (number_read n small)
    ∙ ap (λ read. option_map object (option_and_then (λ e. Some (put (codes "CoolOffPeriod") e (put name (num n) (member (codes "LockMode") (string word) no_members)))) read)) (number_read hours few)

abbrev pub HasWidth : Term → Type 0
HasWidth (Days days) = days < 2 ^ 64
HasWidth (Date date) = date.second < 2 ^ 64

pub locked_body : (mode : LockMode) (lasts : Term) (cool_hours : Option ℕ) → HasWidth lasts → IfSome cool_hours (λ hours. hours < 2 ^ 64)
    → body_of (text_of (locked mode lasts cool_hours)) ≡ Some (object (lock_data mode lasts cool_hours))
unfolding AreTexts
locked_body mode (Days days) None small few =
    body_read (locked mode (Days days) None) (lock_data mode (Days days) None) (tt, (IsNumber-decimal days small, tt)) (lit≤ tt)
    (open_text, (key_text (codes "LockMode") refl, (mode_text mode, (key_text (codes "LockDuration") refl, (number_text days small, (close_text, tt))))))
    (one_read (codes "LockDuration") (mode_name mode) days small)
locked_body mode (Date date) None small few =
    body_read (locked mode (Date date) None) (lock_data mode (Date date) None) (tt, (IsNumber-decimal date.second small, tt)) (lit≤ tt)
    (open_text, (key_text (codes "LockMode") refl, (mode_text mode, (key_text (codes "ExpirationDate") refl, (number_text date.second small, (close_text, tt))))))
    (one_read (codes "ExpirationDate") (mode_name mode) date.second small)
locked_body mode (Days days) (Some hours) small few =
    body_read (locked mode (Days days) (Some hours)) (lock_data mode (Days days) (Some hours)) (tt, (IsNumber-decimal days small, (IsNumber-decimal hours few, tt))) (lit≤ tt)
    (open_text, (key_text (codes "LockMode") refl, (mode_text mode, (key_text (codes "LockDuration") refl, (number_text days small, (key_text (codes "CoolOffPeriod") refl, (number_text hours few, (close_text, tt))))))))
    (two_read (codes "LockDuration") (mode_name mode) days hours small few)
locked_body mode (Date date) (Some hours) small few =
    body_read (locked mode (Date date) (Some hours)) (lock_data mode (Date date) (Some hours)) (tt, (IsNumber-decimal date.second small, (IsNumber-decimal hours few, tt))) (lit≤ tt)
    (open_text, (key_text (codes "LockMode") refl, (mode_text mode, (key_text (codes "ExpirationDate") refl, (number_text date.second small, (key_text (codes "CoolOffPeriod") refl, (number_text hours few, (close_text, tt))))))))
    (two_read (codes "ExpirationDate") (mode_name mode) date.second hours small few)

-- what a lock's members say
pub lock_read : (key : SnapKey) (mode : LockMode) (lasts : Term) (cool_hours : Option ℕ) → is_term lasts ≡ true → is_cool_off mode cool_hours ≡ true
    → call.lock_of key (in_body (object (lock_data mode lasts cool_hours))) ≡ Ok (LockSnapshot key mode lasts cool_hours)
lock_read key Governance (Days days) None h k = rw h refl
lock_read key Governance (Date date) None h k = refl
lock_read key Governance lasts (Some hours) h k = cc
lock_read key Compliance (Days days) None h k = rw h refl
lock_read key Compliance (Date date) None h k = refl
lock_read key Compliance (Days days) (Some hours) h k = rw (h, k) refl
lock_read key Compliance (Date date) (Some hours) h k = rw k refl

pub restore_read : (key : SnapKey) (days : ℕ) → is_restore (Some days) ≡ true → call.restore_of key (in_body (object (member (codes "TemporaryRestoreDays") (num days) no_members))) ≡ Ok (RestoreTier key (Some days))
restore_read key days h = rw h refl
