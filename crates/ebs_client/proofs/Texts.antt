-- Texts in UTF-8: their bytes, in a path and in a query.
use Rattle.std.proofs.Common.{◌≡◌, ◌≢◌, ℕ, ◌+◌, ◌/◌, ◌%◌, ◌<◌, true, false, ◌==◌, List, [], ◌∷◌, ◌++◌, refl, ap, subst, ◌∙◌, arith, All, IsUtf8, ltb, inl, inr}
use Rattle.std.specs.Prelude.{map}
use Rattle.std.specs.List.{list_all, before_first, after_first}
use Rattle.std.specs.Str.Lossy.{utf8_lossy}
use Rattle.std.proofs.lemmas.Bool.{and_parts, cases_lt, lt-ltb, le-ltb}
use Rattle.std.proofs.lemmas.Bool.Decides.{nat_tests}
use Rattle.std.proofs.lemmas.List.Elements.{All-nil, All-cons, All-append, All-weaker, All-head, All-tail}
use Rattle.std.proofs.lemmas.Str.{IsUtf8-from_ascii, utf8_lossy-IsUtf8}
use Rattle.std.proofs.lemmas.Str.Ascii.{IsAscii-from_all}
use lib.Utf8.{scalar, scalars, encode, encodes, scalar_cases}
use Rattle.form_urlencoded.specs.Form.{raw_pairs, decode, extend_pairs}
use Rattle.form_urlencoded.proofs.FormLemmas.{split_once_before_at, split_once_after_at, split_once_before_none, IsBytePair, round_trip}
use Rattle.ebs_client.proofs.Pieces.{is_path_byte}

abbrev IsByte : ℕ → Type 0
IsByte b = b < 256

scalar_below : (c : ℕ) → scalar c ≡ true → c < 1114112
scalar_below c h = elim (scalar_cases c h) [
  | inl low ↦ omega arith
  | inr high ↦ high.1
]

one : (a : ℕ) → a < 256 → All IsByte (a ∷ [])
one a h = All-cons IsByte a [] h (All-nil IsByte)

next_byte : (b : ℕ) → 128 + b % 64 < 256
next_byte b = omega arith

two_bytes : (c : ℕ) → c < 2048 → All IsByte ((192 + c / 64) ∷ (128 + c % 64) ∷ [])
two_bytes c h = All-cons IsByte (192 + c / 64) ((128 + c % 64) ∷ []) (omega arith) (one (128 + c % 64) (next_byte c))

three_bytes : (c : ℕ) → c < 65536 → All IsByte ((224 + c / 4096) ∷ (128 + c / 64 % 64) ∷ (128 + c % 64) ∷ [])
three_bytes c h =
    All-cons IsByte (224 + c / 4096) ((128 + c / 64 % 64) ∷ (128 + c % 64) ∷ []) (omega arith)
    (All-cons IsByte (128 + c / 64 % 64) ((128 + c % 64) ∷ []) (next_byte (c / 64)) (one (128 + c % 64) (next_byte c)))

four_bytes : (c : ℕ) → c < 1114112 → All IsByte ((240 + c / 262144) ∷ (128 + c / 4096 % 64) ∷ (128 + c / 64 % 64) ∷ (128 + c % 64) ∷ [])
four_bytes c h =
    All-cons IsByte (240 + c / 262144) ((128 + c / 4096 % 64) ∷ (128 + c / 64 % 64) ∷ (128 + c % 64) ∷ []) (omega arith)
    (All-cons IsByte (128 + c / 4096 % 64) ((128 + c / 64 % 64) ∷ (128 + c % 64) ∷ []) (next_byte (c / 4096))
    (All-cons IsByte (128 + c / 64 % 64) ((128 + c % 64) ∷ []) (next_byte (c / 64)) (one (128 + c % 64) (next_byte c))))

encoded_bytes : (c : ℕ) → c < 1114112 → All IsByte (encode c)
unfolding encode
encoded_bytes c h = elim (cases_lt c 128) [
  | inl small ↦ let at : ltb c 128 ≡ true = lt-ltb c 128 small in rw at (one c (omega arith))
  | inr big ↦ let past : ltb c 128 ≡ false = le-ltb c 128 big in rw past (elim (cases_lt c 2048) [
    | inl low ↦ let at : ltb c 2048 ≡ true = lt-ltb c 2048 low in rw at (two_bytes c low)
    | inr higher ↦ let past2 : ltb c 2048 ≡ false = le-ltb c 2048 higher in rw past2 (elim (cases_lt c 65536) [
      | inl mid ↦ let at : ltb c 65536 ≡ true = lt-ltb c 65536 mid in rw at (three_bytes c mid)
      | inr top ↦ let past3 : ltb c 65536 ≡ false = le-ltb c 65536 top in rw past3 (four_bytes c h)
    ])
  ])
]

all_bytes : (cs : List ℕ) → scalars cs ≡ true → All IsByte (encodes cs)
all_bytes [] h = All-nil IsByte
all_bytes (c ∷ cs) h =
    let parts = and_parts _ _ h in
    All-append IsByte (encode c) (encodes cs) (encoded_bytes c (scalar_below c parts.0)) (all_bytes cs parts.1)

pub utf8_bytes : (text : List ℕ) → IsUtf8 text → All IsByte text
utf8_bytes text h = subst (All IsByte) h.1.1 (all_bytes h.0 h.1.0)

-- a path and a query fall apart at the question mark
path_byte : (b : ℕ) → is_path_byte b ≡ true → (b < 128) × (b ≢ 63)
path_byte b h = grind (arith, nat_tests)

all_in_path : (bs : List ℕ) → list_all is_path_byte bs ≡ true → All (λ b. (b < 128) × (b ≢ 63)) bs
all_in_path [] h = All-nil (λ b. (b < 128) × (b ≢ 63))
all_in_path (b ∷ bs) h = let parts = and_parts _ _ h in All-cons (λ b. (b < 128) × (b ≢ 63)) b bs (path_byte b parts.0) (all_in_path bs parts.1)

no_mark : (path : List ℕ) → list_all is_path_byte path ≡ true → All (λ b. b ≢ 63) path
no_mark path h = All-weaker (λ b. (b < 128) × (b ≢ 63)) (λ b. b ≢ 63) (λ b parts. parts.1) path (all_in_path path h)

pub plain_text : (text : List ℕ) → list_all is_path_byte text ≡ true → IsUtf8 text
plain_text text h = IsUtf8-from_ascii text (IsAscii-from_all text (All-weaker (λ b. (b < 128) × (b ≢ 63)) (λ b. b < 128) (λ b parts. parts.0) text (all_in_path text h)))

pub lossless : (path : List ℕ) → list_all is_path_byte path ≡ true → utf8_lossy path ≡ path
lossless path h = utf8_lossy-IsUtf8 path (plain_text path h)

pub path_alone : (path : List ℕ) → list_all is_path_byte path ≡ true → utf8_lossy (before_first (λ b. b == 63) path) ≡ path
path_alone path h = ap utf8_lossy (split_once_before_none 63 path (no_mark path h)) ∙ lossless path h

pub path_before : (path query : List ℕ) → list_all is_path_byte path ≡ true → utf8_lossy (before_first (λ b. b == 63) (path ++ 63 ∷ query)) ≡ path
path_before path query h = ap utf8_lossy (split_once_before_at 63 path query (no_mark path h)) ∙ lossless path h

pub query_behind : (path query : List ℕ) → list_all is_path_byte path ≡ true → after_first (λ b. b == 63) (path ++ 63 ∷ query) ≡ query
query_behind path query h = split_once_after_at 63 path query (no_mark path h)

-- pairs that are written are read again
abbrev pub Pairs : Type 0
Pairs = List (List ℕ × List ℕ)

abbrev pub IsTextPair : List ℕ × List ℕ → Type 0
IsTextPair pair = IsUtf8 pair.0 × IsUtf8 pair.1

abbrev decoded_pair : List ℕ × List ℕ → List ℕ × List ℕ
decoded_pair pair = (utf8_lossy (decode pair.0), utf8_lossy (decode pair.1))

abbrev lossy_pair : List ℕ × List ℕ → List ℕ × List ℕ
lossy_pair pair = (utf8_lossy pair.0, utf8_lossy pair.1)

in_two_steps : (raw : Pairs) → map decoded_pair raw ≡ map lossy_pair (map (λ p. (decode p.0, decode p.1)) raw)
in_two_steps [] = refl
in_two_steps (pair ∷ raw) = ap (λ ps. decoded_pair pair ∷ ps) (in_two_steps raw)

all_lossless : (pairs : Pairs) → All IsTextPair pairs → map lossy_pair pairs ≡ pairs
all_lossless [] h = refl
all_lossless (pair ∷ pairs) h =
    let here = All-head IsTextPair pair pairs h in
    rw (utf8_lossy-IsUtf8 pair.0 here.0, utf8_lossy-IsUtf8 pair.1 here.1, all_lossless pairs (All-tail IsTextPair pair pairs h)) refl

pub pairs_read : (pairs : Pairs) → All IsTextPair pairs → map decoded_pair (raw_pairs (extend_pairs [] pairs)) ≡ pairs
pairs_read pairs h =
    let bytes : All IsBytePair pairs = All-weaker IsTextPair IsBytePair (λ p texts. (utf8_bytes p.0 texts.0, utf8_bytes p.1 texts.1)) pairs h in
    in_two_steps (raw_pairs (extend_pairs [] pairs)) ∙ ap (map lossy_pair) (round_trip pairs bytes) ∙ all_lossless pairs h
