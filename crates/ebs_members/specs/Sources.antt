-- Where members stand: in paths, queries, headers and bodies.
use Rattle.std.specs.Prelude.{ℕ, Bool, false, List, ◌-◌, take, length, nat_eq, codes, if◌then◌else◌, drop, ◌==◌, Option, find, zip, map, Some, None, Result, not}
use Rattle.std.specs.Option.{option_map, option_and_then}
use Rattle.std.specs.List.{ends_with, starts_with, slice_split, before_first, after_first}
use Rattle.std.specs.Str.{bytes_eq, is_utf8}
use Rattle.std.specs.Str.Lossy.{utf8_lossy}
use Rattle.form_urlencoded.specs.Form.{decode, raw_pairs}
use Rattle.serde_json.specs.Data.{Data, null, boolean, number, string, array, object}
use Rattle.serde_json.specs.Read.{read}
use Rattle.serde_json.specs.Find.{get}
use Rattle.ebs_model.specs.declared.answer.Refusal.{Refusal}
use Rattle.ebs_model.specs.declared.answer.Refusal.TheVariants.{BadParameter}
use Rattle.ebs_model.specs.Refuse.{some_or, refuse_if}
use Rattle.ebs_http.specs.declared.headers.Header.{Header}
use Rattle.ebs_http.specs.Messages.{is_named}

-- `{name}`
abbrev pub is_closed : List ℕ → List ℕ → Bool
is_closed name rest = if ends_with nat_eq rest (codes "}") then bytes_eq (take (length rest - 1) rest) name else false

abbrev pub is_place : List ℕ → List ℕ → Bool
is_place name place = if starts_with nat_eq place (codes "{") then is_closed name (drop 1 place) else false

abbrev pub parts : List ℕ → List (List ℕ)
parts path = slice_split (λ b. b == 47) path

-- the part of the path where the route has this name in braces
abbrev pub captured : List ℕ → List ℕ → List ℕ → Option (List ℕ)
captured name route path = option_map (λ p. p.1) (find (λ p. is_place name p.0) (zip (parts route) (parts path)))

-- a target in origin form (RFC 9112, section 3.2.1): a path, and after the first `?` a query
abbrev pub path_bytes : List ℕ → List ℕ
path_bytes target = before_first (λ b. b == 63) target

-- the path is read as one text, for its route and for its members: a sequence that isn't UTF-8 counts as U+FFFD, which no member of a path has in it
abbrev pub path_of : List ℕ → List ℕ
path_of target = utf8_lossy (path_bytes target)

abbrev pub query_of : List ℕ → List ℕ
query_of target = after_first (λ b. b == 63) target

-- what an encoded name or value says (URL Standard, section 5.1)
abbrev pub decoded : List ℕ → List ℕ
decoded text = utf8_lossy (decode text)

abbrev pub decoded_pair : List ℕ × List ℕ → List ℕ × List ℕ
decoded_pair pair = (decoded pair.0, decoded pair.1)

-- the pairs of a query
abbrev pub pairs_of : List ℕ → List (List ℕ × List ℕ)
pairs_of query = map decoded_pair (raw_pairs query)

-- the value of the first pair of this name
abbrev pub query_value : List ℕ → List (List ℕ × List ℕ) → Option (List ℕ)
query_value name pairs = option_map (λ p. p.1) (find (λ p. bytes_eq p.0 name) pairs)

-- the value of the first field of this name, in any case (RFC 9110, section 5)
abbrev pub header : List ℕ → List Header → Option (List ℕ)
header name headers = option_map (λ h. h.value) (find (is_named name) headers)

abbrev pub object_only : Data → Option Data
object_only null = None
object_only (boolean b) = None
object_only (number n) = None
object_only (string s) = None
object_only (array ds) = None
object_only (object ms) = Some (object ms)

-- what a text in JSON says (RFC 8259)
unfoldable pub json_of : List ℕ → Option Data
json_of bytes = if is_utf8 bytes then read bytes else None

-- the object that a body is
abbrev pub body_of : List ℕ → Option Data
body_of bytes = option_and_then object_only (json_of bytes)

abbrev pub present : Data → Option Data
present null = None
present (boolean b) = Some (boolean b)
present (number n) = Some (number n)
present (string s) = Some (string s)
present (array ds) = Some (array ds)
present (object ms) = Some (object ms)

-- the member of this name; one that is null counts as absent
abbrev pub member : List ℕ → Data → Option Data
member name body = option_and_then present (get name body)

-- what a member is given as
pub data Given : Type 0 where
  given_text : List ℕ → Given
  given_json : Data → Given

-- what is found under each name
abbrev pub Members : Type 0
Members = List ℕ → Option Given

abbrev pub in_path : List ℕ → List ℕ → List ℕ → Option Given
in_path route path name = option_map given_text (captured name route path)

abbrev pub in_query : List (List ℕ × List ℕ) → List ℕ → Option Given
in_query pairs name = option_map given_text (query_value name pairs)

abbrev pub in_fields : List Header → List ℕ → Option Given
in_fields fields name = option_map given_text (header name fields)

abbrev pub in_body : Data → List ℕ → Option Given
in_body body name = option_map given_json (member name body)

-- the member's value, refused by the member's name where there is none
abbrev pub need : {A : Type 0} → List ℕ → Option A → Result A Refusal
need name found = some_or found (BadParameter name)

-- the member is there and good
abbrev pub required : {A : Type 0} → Members → List ℕ → (Given → Option A) → Result A Refusal
required source name kind = need name (option_and_then kind (source name))

abbrev pub if_any : {A : Type 0} → (Given → Option A) → Option Given → Option (Option A)
if_any kind None = Some None
if_any kind (Some given) = option_map Some (kind given)

-- the member is good, or there is none
abbrev pub optional : {A : Type 0} → Members → List ℕ → (Given → Option A) → Result (Option A) Refusal
optional source name kind = need name (if_any kind (source name))

-- refused by the member's name where the test fails
abbrev pub refuse_unless : Bool → List ℕ → Result (Unit {0}) Refusal
refuse_unless holds name = refuse_if (not holds) (BadParameter name)
