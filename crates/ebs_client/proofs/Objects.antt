-- An object of many members, some of which may be left out, printed and read back.
use Rattle.std.proofs.Common.{◌≡◌, ℕ, ◌<◌, ◌≤◌, ◌^◌, true, false, cond, List, refl, sym, ap, ◌∙◌, arith, codes, IsUtf8, IfSome}
use Rattle.std.specs.declared.option.Option.{Option}
use Rattle.std.specs.declared.option.Option.TheVariants.{None, Some}
use Rattle.std.specs.declared.result.Result.TheVariants.{Ok}
use Rattle.std.specs.Option.{option_map, option_and_then}
use Rattle.std.specs.List.{AllByRecursion, list_all}
use Rattle.std.specs.Str.{bytes_eq}
use Rattle.std.proofs.Math.Nat.{max-le}
use Rattle.std.proofs.lemmas.Slice.Eq.{bytes_eq-Decides}
use Rattle.std.proofs.lemmas.Str.{is_utf8-from_IsUtf8}
use Rattle.json.specs.Json as json
use Rattle.json.specs.Tree.{json_tokens, items_tokens, members_tokens, depth, members_depth, HasNumbers, MembersHaveNumbers}
use Rattle.json.proofs.Printed.Utf8.{IsUtf8-are_ascii, IsUtf8-quoted}
use Rattle.json.proofs.Printed.Decimals.{IsNumber-decimal}
use Rattle.serde_json.specs.Data.{Data, Members, no_members, put, string, array, object}
use Rattle.serde_json.specs.Read.{of_json, of_members}
use Rattle.serde_json.specs.Find.{get_member}
use Rattle.serde_json.proofs.Views.{get_member-put, get_member-put_other}
use Rattle.ebs_model.specs.declared.tags.Tag.{Tag}
use Rattle.ebs_model.specs.declared.keys.SnapKey.{SnapKey}
use Rattle.ebs_model.specs.Ids.{snap_id}
use Rattle.ebs_model.specs.Limits.{is_client_token, is_token_given, is_description, are_tags}
use Rattle.ebs_model.proofs.ReaderLaws.{snap_whole}
use Rattle.ebs_members.specs.Sources.{Given, given_json, present, in_body, body_of, required, optional}
use Rattle.ebs_members.specs.Kinds as kind
use Rattle.ebs_client.specs.Bodies.{text_of, if_any, whole, tags}
use Rattle.ebs_client.specs.Reach.{HasTexts, IsSnapshot}
use Rattle.ebs_client.proofs.Pieces.{is_path_byte, piece_in_path}
use Rattle.ebs_client.proofs.Paths.{snap_id_piece}
use Rattle.ebs_client.proofs.Texts.{plain_text}
use Rattle.ebs_client.proofs.Bodies.{AreTexts, num, number_text, number_read, body_read, open_text, close_text, key_text}
use Rattle.ebs_client.proofs.Tags.{texts_append, tags_numbers, tags_depth, tags_texts, tags_data, tags_read, tags_said}
use Rattle.ebs_client.proofs.Lines as line

-- what is printed of these members can be read
pub record IsFine (ms : json.Members) : Type 0 where
  pub numbers : MembersHaveNumbers ms
  pub shallow : members_depth ms ≤ 2
  pub texts : AreTexts (members_tokens ms)

pub fine_none : IsFine json.no_members
unfolding AreTexts
fine_none = record { numbers = tt; shallow = omega arith; texts = (close_text, tt) }

pub fine_text : (name text : List ℕ) (ms : json.Members) → list_all is_path_byte name ≡ true → IsUtf8 text → IsFine ms → IsFine (json.member name (json.string text) ms)
unfolding AreTexts
fine_text name text ms plain utf8 fine =
    record { numbers = (tt, fine.numbers); shallow = max-le (omega arith) fine.shallow; texts = (key_text name plain, (IsUtf8-quoted text utf8, fine.texts)) }

pub fine_number : (name : List ℕ) (n : ℕ) (ms : json.Members) → list_all is_path_byte name ≡ true → n < 2 ^ 64 → IsFine ms → IsFine (json.member name (whole n) ms)
unfolding AreTexts
fine_number name n ms plain small fine =
    record { numbers = (IsNumber-decimal n small, fine.numbers); shallow = max-le (omega arith) fine.shallow; texts = (key_text name plain, (number_text n small, fine.texts)) }

pub fine_tags : (name : List ℕ) (ts : List Tag) (ms : json.Members) → list_all is_path_byte name ≡ true → AllByRecursion HasTexts ts → IsFine ms → IsFine (json.member name (json.array (tags ts)) ms)
unfolding AreTexts
fine_tags name ts ms plain texts fine =
    record {
      numbers = (tags_numbers ts, fine.numbers);
      shallow = max-le (omega (arith, tags_depth ts)) fine.shallow;
      texts = (key_text name plain, (IsUtf8-are_ascii (codes "[") refl, texts_append (items_tokens (tags ts)) (members_tokens ms) (tags_texts ts texts) fine.texts));
    }

pub fine_if_text : (name : List ℕ) (text : Option (List ℕ)) (ms : json.Members) → list_all is_path_byte name ≡ true → IfSome text IsUtf8 → IsFine ms → IsFine (if_any name json.string text ms)
fine_if_text name None ms plain utf8 fine = fine
fine_if_text name (Some text) ms plain utf8 fine = fine_text name text ms plain utf8 fine

pub fine_if_number : (name : List ℕ) (n : Option ℕ) (ms : json.Members) → list_all is_path_byte name ≡ true → IfSome n (λ n. n < 2 ^ 64) → IsFine ms → IsFine (if_any name whole n ms)
fine_if_number name None ms plain small fine = fine
fine_if_number name (Some n) ms plain small fine = fine_number name n ms plain small fine

pub fine_if_id : (name : List ℕ) (key : Option SnapKey) (ms : json.Members) → list_all is_path_byte name ≡ true → IfSome key IsSnapshot → IsFine ms → IsFine (if_any name (λ key. json.string (snap_id key)) key ms)
fine_if_id name None ms plain is fine = fine
fine_if_id name (Some key) ms plain is fine = fine_text name (snap_id key) ms plain (plain_text (snap_id key) (piece_in_path (snap_id key) (snap_id_piece key is))) fine

-- a value that can be printed as a member, and one that may be left out
pub record IsShort (j : json.Json) : Type 0 where
  pub numbers : HasNumbers j
  pub shallow : depth j ≤ 2
  pub texts : AreTexts (json_tokens j)

pub fine_member : (name : List ℕ) (j : json.Json) (ms : json.Members) → list_all is_path_byte name ≡ true → IsShort j → IsFine ms → IsFine (json.member name j ms)
unfolding AreTexts
fine_member name j ms plain short fine =
    record {
      numbers = (short.numbers, fine.numbers);
      shallow = max-le short.shallow fine.shallow;
      texts = (key_text name plain, texts_append (json_tokens j) (members_tokens ms) short.texts fine.texts);
    }

pub fine_if : {A : Type 0} (P : A → Type 0) (name : List ℕ) (says : A → json.Json) (value : Option A) (ms : json.Members) → list_all is_path_byte name ≡ true → ((a : A) → P a → IsShort (says a)) → IfSome value P → IsFine ms
    → IsFine (if_any name says value ms)
fine_if P name says None ms plain short h fine = fine
fine_if P name says (Some a) ms plain short h fine = fine_member name (says a) ms plain (short a h) fine

pub whole_body : (ms : json.Members) (kept : Members) → IsFine ms → of_members ms no_members ≡ Some kept → body_of (text_of (json.object ms)) ≡ Some (object kept)
unfolding AreTexts
whole_body ms kept fine is = body_read (json.object ms) kept fine.numbers (omega (arith, fine.shallow)) (open_text, fine.texts) (ap (option_map object) is)

-- the members that are kept
abbrev pub put_any : {A : Type 0} → List ℕ → (A → Data) → Option A → Members → Members
put_any name says None ms = ms
put_any name says (Some value) ms = put name (says value) ms

abbrev pub id_data : SnapKey → Data
id_data key = string (snap_id key)

pub read_number : (name : List ℕ) (n : ℕ) (rest : json.Members) (found : Members) → n < 2 ^ 64 → of_members (json.member name (whole n) rest) found ≡ of_members rest (put name (num n) found)
read_number name n rest found small = ap (λ read. option_and_then (λ d. of_members rest (put name d found)) read) (number_read n small)

pub read_tags : (name : List ℕ) (ts : List Tag) (rest : json.Members) (found : Members) → of_members (json.member name (json.array (tags ts)) rest) found ≡ of_members rest (put name (array (tags_data ts)) found)
read_tags name ts rest found = ap (λ read. option_and_then (λ d. of_members rest (put name d found)) (option_map array read)) (tags_read ts)

pub read_if_text : (name : List ℕ) (text : Option (List ℕ)) (rest : json.Members) (found : Members) → of_members (if_any name json.string text rest) found ≡ of_members rest (put_any name string text found)
read_if_text name None rest found = refl
read_if_text name (Some text) rest found = refl

pub read_if_id : (name : List ℕ) (key : Option SnapKey) (rest : json.Members) (found : Members) → of_members (if_any name (λ key. json.string (snap_id key)) key rest) found ≡ of_members rest (put_any name id_data key found)
read_if_id name None rest found = refl
read_if_id name (Some key) rest found = refl

pub read_if_number : (name : List ℕ) (n : Option ℕ) (rest : json.Members) (found : Members) → IfSome n (λ n. n < 2 ^ 64) → of_members (if_any name whole n rest) found ≡ of_members rest (put_any name num n found)
read_if_number name None rest found small = refl
read_if_number name (Some n) rest found small = read_number name n rest found small

pub read_member : (name : List ℕ) (j : json.Json) (d : Data) (rest : json.Members) (found : Members) → of_json j ≡ Some d → of_members (json.member name j rest) found ≡ of_members rest (put name d found)
read_member name j d rest found is = ap (λ read. option_and_then (λ d. of_members rest (put name d found)) read) is

pub read_if : {A : Type 0} (P : A → Type 0) (name : List ℕ) (says : A → json.Json) (kept : A → Data) (value : Option A) (rest : json.Members) (found : Members) → ((a : A) → P a → of_json (says a) ≡ Some (kept a)) → IfSome value P
    → of_members (if_any name says value rest) found ≡ of_members rest (put_any name kept value found)
read_if P name says kept None rest found is h = refl
read_if P name says kept (Some a) rest found is h = read_member name (says a) (kept a) rest found (is a h)

-- what is found by name
abbrev pub Holds : Members → List ℕ → Option Data → Type 0
Holds ms name found = get_member name ms ≡ found

apart : (q k : List ℕ) → bytes_eq q k ≡ false → q ≡ k → ⊥
apart q k other same = let yes : bytes_eq q k ≡ true = (bytes_eq-Decides q k).1 same in let no : true ≡ false = sym yes ∙ other in cc

pub at : (k : List ℕ) (d : Data) (ms : Members) → Holds (put k d ms) k (Some d)
at k d ms = get_member-put k d ms

pub past : (q k : List ℕ) (d : Data) (ms : Members) (found : Option Data) → bytes_eq q k ≡ false → Holds ms q found → Holds (put k d ms) q found
past q k d ms found other h = get_member-put_other q k d ms (apart q k other) ∙ h

pub at_any : {A : Type 0} (k : List ℕ) (says : A → Data) (value : Option A) (ms : Members) → Holds ms k None → Holds (put_any k says value ms) k (option_map says value)
at_any k says None ms h = h
at_any k says (Some value) ms h = get_member-put k (says value) ms

pub past_any : {A : Type 0} (q k : List ℕ) (says : A → Data) (value : Option A) (ms : Members) (found : Option Data) → bytes_eq q k ≡ false → Holds ms q found → Holds (put_any k says value ms) q found
past_any q k says None ms found other h = h
past_any q k says (Some value) ms found other h = past q k (says value) ms found other h

pub shown : (ms : Members) (name : List ℕ) (found : Option Data) → Holds ms name found → in_body (object ms) name ≡ option_map given_json (option_and_then present found)
shown ms name found h = ap (λ f. option_map given_json (option_and_then present f)) h

pub no_member : {A : Type 0} (ms : Members) (name : List ℕ) (reads : Given → Option A) → Holds ms name None → optional (in_body (object ms)) name reads ≡ Ok None
no_member ms name reads h = line.absent (in_body (object ms)) name reads (shown ms name None h)

pub id_member : (ms : Members) (name : List ℕ) (key : Option SnapKey) → IfSome key IsSnapshot → Holds ms name (option_map id_data key) → optional (in_body (object ms)) name kind.snapshot ≡ Ok key
id_member ms name None is h = no_member ms name kind.snapshot h
id_member ms name (Some key) is h = line.stands (in_body (object ms)) name kind.snapshot (given_json (id_data key)) key (shown ms name (Some (id_data key)) h) (snap_whole key (snap_id key) is.0 is.1 refl)

pub number_member : (ms : Members) (name : List ℕ) (n : Option ℕ) → Holds ms name (option_map num n) → optional (in_body (object ms)) name kind.number ≡ Ok n
number_member ms name None h = no_member ms name kind.number h
number_member ms name (Some n) h = line.stands (in_body (object ms)) name kind.number (given_json (num n)) n (shown ms name (Some (num n)) h) refl

token_read : (text : List ℕ) → IsUtf8 text → is_client_token text ≡ true → kind.token (given_json (string text)) ≡ Some text
token_read text h good = ap (kind.keep_if is_client_token) (ap (λ b. cond b (Some text) None) (is_utf8-from_IsUtf8 text h)) ∙ ap (λ b. cond b (Some text) None) good

pub token_member : (ms : Members) (name : List ℕ) (token : Option (List ℕ)) → IfSome token IsUtf8 → is_token_given token ≡ true → Holds ms name (option_map string token) → optional (in_body (object ms)) name kind.token ≡ Ok token
token_member ms name None utf8 good h = no_member ms name kind.token h
token_member ms name (Some text) utf8 good h = line.stands (in_body (object ms)) name kind.token (given_json (string text)) text (shown ms name (Some (string text)) h) (token_read text utf8 good)

pub description_member : (ms : Members) (name : List ℕ) (text : Option (List ℕ)) → IfSome text IsUtf8 → is_description text ≡ true → Holds ms name (option_map string text) → optional (in_body (object ms)) name kind.description ≡ Ok text
description_member ms name None utf8 good h = no_member ms name kind.description h
description_member ms name (Some text) utf8 good h = line.description_given (in_body (object ms)) name text utf8 good (shown ms name (Some (string text)) h)

pub tags_member : (ms : Members) (name : List ℕ) (ts : List Tag) → are_tags ts ≡ true → Holds ms name (Some (array (tags_data ts))) → optional (in_body (object ms)) name kind.tags ≡ Ok (Some ts)
tags_member ms name ts good h = line.tags_given (in_body (object ms)) name (tags_data ts) ts (tags_said ts) good (shown ms name (Some (array (tags_data ts))) h)

pub whole_member : (ms : Members) (name : List ℕ) (n : ℕ) → Holds ms name (Some (num n)) → required (in_body (object ms)) name kind.number ≡ Ok n
whole_member ms name n h = line.there (in_body (object ms)) name kind.number (given_json (num n)) n (shown ms name (Some (num n)) h) refl

within : (low high n : ℕ) → kind.is_within low high n ≡ true → kind.number_within low high (given_json (num n)) ≡ Some n
within low high n h = ap (λ b. cond b (Some n) None) h

pub within_member : (ms : Members) (name : List ℕ) (low high n : ℕ) → kind.is_within low high n ≡ true → Holds ms name (Some (num n)) → optional (in_body (object ms)) name (kind.number_within low high) ≡ Ok (Some n)
within_member ms name low high n inside h = line.stands (in_body (object ms)) name (kind.number_within low high) (given_json (num n)) n (shown ms name (Some (num n)) h) (within low high n inside)

-- a member of any kind
pub required_member : {A : Type 0} (ms : Members) (name : List ℕ) (reads : Given → Option A) (d : Data) (a : A) → present d ≡ Some d → reads (given_json d) ≡ Some a → Holds ms name (Some d) → required (in_body (object ms)) name reads ≡ Ok a
required_member ms name reads d a here is h = line.there (in_body (object ms)) name reads (given_json d) a (shown ms name (Some d) h ∙ ap (option_map given_json) here) is

pub optional_member : {A : Type 0} (P : A → Type 0) (ms : Members) (name : List ℕ) (reads : Given → Option A) (kept : A → Data) (value : Option A) → ((a : A) → present (kept a) ≡ Some (kept a))
    → ((a : A) → P a → reads (given_json (kept a)) ≡ Some a) → IfSome value P → Holds ms name (option_map kept value) → optional (in_body (object ms)) name reads ≡ Ok value
optional_member P ms name reads kept None here is p h = no_member ms name reads h
optional_member P ms name reads kept (Some a) here is p h =
    line.stands (in_body (object ms)) name reads (given_json (kept a)) a (shown ms name (Some (kept a)) h ∙ ap (option_map given_json) (here a)) (is a p)
