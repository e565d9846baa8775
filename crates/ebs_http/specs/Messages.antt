-- Messages of HTTP/1.1 in a row of bytes: their headers, lengths and bodies.
use Rattle.std.specs.Prelude.{ℕ, Bool, List, ◌&&◌, length, nat_lt, nat_le, if◌then◌else◌, Option, Some, None, not, ◌||◌, codes, find, map, ◌≡◌, ◌≤◌, ◌++◌, ◌<◌, ◌⊎◌, take, [], ◌∷◌}
use Rattle.std.specs.List.{list_all, list_any}
use Rattle.std.specs.Str.{str_eq_ignore_ascii_case, bytes_eq}
use Rattle.std.specs.Char.{is_ascii_digit}
use Rattle.std.specs.Str.Parse.{digits_value}
use Rattle.httparse.specs.Grammar.{Field, field_value, RequestHead, print_request, ReadsRequest, HasNoRequest, NeverHasRequest, EndsInTarget}
use Rattle.ebs_http.specs.declared.headers.Header.{Header}
use Rattle.ebs_http.specs.declared.message.Message.{Message}
use Rattle.ebs_http.specs.declared.message.BadKind.{BadKind}
use Rattle.ebs_http.specs.declared.message.BadKind.TheVariants.{BadHead, TooLongHead, BodyTooLong, BadLength}

-- the field has this name, in any case
abbrev pub is_named : List ℕ → Header → Bool
is_named name field = str_eq_ignore_ascii_case field.name name

-- 1 to 10 decimal digits
abbrev pub is_decimal : List ℕ → Bool
is_decimal text = nat_lt 0 (length text) && nat_le (length text) 10 && list_all is_ascii_digit text

-- the number that 1 to 10 decimal digits write
abbrev pub decimal_value : List ℕ → Option ℕ
decimal_value text = if is_decimal text then Some (digits_value 10 text) else None

-- every field of this name has this value
abbrev pub all_agree : List ℕ → List ℕ → List Header → Bool
all_agree name value fields = list_all (λ f. not (is_named name f) || bytes_eq f.value value) fields

-- the length that the first Content-Length states, which any other repeats
abbrev pub content_length : List Header → Option Header → Option ℕ
content_length fields None = Some 0
content_length fields (Some first) =
    if all_agree (codes "content-length") first.value fields then decimal_value first.value else None

-- how many bytes the body has, or None where the fields give no single length
abbrev pub body_length : List Header → Option ℕ
body_length fields =
    if list_any (is_named (codes "transfer-encoding")) fields then None
    else content_length fields (find (is_named (codes "content-length")) fields)

-- the name of a field line, and its value without the white space around it
abbrev pub header_of : Field → Header
header_of f = record { name = f.name; value = field_value f }

-- the fields of a head
abbrev pub headers_of : RequestHead → List Header
headers_of head = map header_of head.fields

-- the bytes begin with this head, then the body of m, and rest follows
pub record IsMessageUnder (bytes : List ℕ) (m : Message) (rest : List ℕ) (head : RequestHead) : Type 0 where
  pub reads : ReadsRequest bytes head (m.body ++ rest)
  pub head_fits : length (print_request head) ≤ 65536
  pub fields_fit : length head.fields ≤ 64
  pub method : m.method ≡ head.method
  pub target : m.target ≡ head.target
  pub headers : m.headers ≡ headers_of head
  pub stated : body_length (headers_of head) ≡ Some (length m.body)
  pub body_fits : length m.body ≤ 4194304

-- the bytes begin with the message m, and rest follows
abbrev pub ReadsMessage : List ℕ → Message → List ℕ → Type 0
ReadsMessage bytes m rest = (head : RequestHead) × IsMessageUnder bytes m rest head

-- the bytes begin with no message
abbrev pub HasNoMessage : List ℕ → Type 0
HasNoMessage bytes = (m : Message) (rest : List ℕ) → ¬ (ReadsMessage bytes m rest)

-- the bytes begin with a whole head of which P holds
abbrev pub HasHead : List ℕ → (RequestHead → Type 0) → Type 0
HasHead bytes P = (head : RequestHead) × (rest : List ℕ) × ReadsRequest bytes head rest × P head

-- this is why no message begins at the bytes
abbrev pub Stands : BadKind → List ℕ → Type 0
Stands BadHead bytes = NeverHasRequest bytes ⊎ HasHead bytes (λ head. 64 < length head.fields)
Stands TooLongHead bytes = (65536 ≤ length bytes) × HasNoRequest (take 65536 bytes)
Stands BadLength bytes = HasHead bytes (λ head. body_length (headers_of head) ≡ None)
Stands (BodyTooLong n) bytes = HasHead bytes (λ head. (body_length (headers_of head) ≡ Some n) × (4194304 < n))

-- fewer than 65536 bytes that end inside the target, and that nothing completes: its UTF-8 is judged at its end
pub record IsLostTarget (bytes : List ℕ) : Type 0 where
  pub ends : EndsInTarget bytes
  pub never : NeverHasRequest bytes
  pub short : length bytes < 65536

-- no kind stands but of such bytes
abbrev pub MayGoOn : List ℕ → Type 0
MayGoOn bytes = (kind : BadKind) → Stands kind bytes → IsLostTarget bytes

-- the stream is these messages one after another, and rest follows
abbrev pub Reads : List ℕ → List Message → List ℕ → Type 0
Reads stream [] rest = stream ≡ rest
Reads stream (m ∷ ms) rest = (after : List ℕ) × ReadsMessage stream m after × Reads after ms rest

-- the stream is these messages, as many as can be, and rest is what follows them
pub record Splits (stream : List ℕ) (ms : List Message) (rest : List ℕ) : Type 0 where
  pub reads : Reads stream ms rest
  pub whole : HasNoMessage rest
