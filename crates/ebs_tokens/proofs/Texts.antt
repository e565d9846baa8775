-- The texts of tokens read back: their digits, their bytes, and the numbers at each place.
use Rattle.std.proofs.Common.{◌≡◌, ◌≢◌, ℕ, zero, suc, ◌+◌, ◌*◌, ◌/◌, ◌%◌, ◌^◌, ◌<◌, Bool, true, false, cond, ◌&&◌, ◌≤◌, IfNone, Option, Some, None, subst, List, [], ◌∷◌, ◌++◌, length, take, drop, Ok, refl, sym, ap, ◌∙◌, arith, length-append, nat_eq}
use Rattle.std.specs.Prelude.{slice_index}
use Rattle.std.specs.Result.{result_ok}
use Rattle.std.specs.Int.{w32, w64, byte_at, bytes_high_first, to_be_bytes, from_be_bytes}
use Rattle.std.specs.Cmp.Lexicographic.{pointwise, bytes_decides}
use Rattle.std.proofs.lemmas.Nat.{from_be_bytes-to_be_bytes_4, from_be_bytes-to_be_bytes_8}
use Rattle.std.specs.Bool.{Decides}
use Rattle.std.proofs.Math.Seq.{take-append_seam, drop-append_seam}
use Rattle.std.proofs.lemmas.Bool.{and_parts}
use Rattle.std.proofs.lemmas.Bool.Decides.{same_from_decides}
use Rattle.std.proofs.lemmas.List.{take-append-drop}
use Rattle.hex.specs.Hex.{IsBytes, encode_with, encode_lower, lower_digits, decode_of, decode_sized}
use Rattle.hex.proofs.HexLemmas.{length-encode_with, decode_of-encode_lower, decode_sized-twice}
use Rattle.sha2.specs.Sha256.{sha256, digest_bytes}
use Rattle.sha2.proofs.Facts256.{length-sha256}
use Rattle.ebs_model.specs.Tokens.{sealed, decoded, number_at, key_bytes, index_bytes, block_frame, page_frame, block_text, page_text}
use Rattle.ebs_model.specs.declared.keys.SnapKey.{SnapKey}

-- ---- digits

pub encode_with-append : (t a b : List ℕ) → encode_with t (a ++ b) ≡ encode_with t a ++ encode_with t b
unfolding encode_with
encode_with-append t [] b = refl
encode_with-append t (x ∷ a) b =
    ap (λ r. slice_index t (x / 16) ∷ slice_index t (x % 16) ∷ r) (encode_with-append t a b)

pub length-sealed_bytes : (secret frame : List ℕ) → length (frame ++ sha256 (secret ++ frame)) ≡ length frame + 32
length-sealed_bytes secret frame =
    length-append frame (sha256 (secret ++ frame)) ∙ ap (λ n. length frame + n) (length-sha256 (secret ++ frame))

-- ---- bytes

IsBytes-nil : IsBytes []
IsBytes-nil i = omega arith

IsBytes-cons : (b : ℕ) (rest : List ℕ) → b < 256 → IsBytes rest → IsBytes (b ∷ rest)
IsBytes-cons b rest h hs zero = h
IsBytes-cons b rest h hs (suc i) = hs i

IsBytes-append : (a b : List ℕ) → IsBytes a → IsBytes b → IsBytes (a ++ b)
IsBytes-append [] b ha hb = hb
IsBytes-append (x ∷ a) b ha hb =
    IsBytes-cons x (a ++ b) (ha 0) (IsBytes-append a b (λ i. ha (suc i)) hb)

byte_at-small : (k n : ℕ) → byte_at k n < 256
byte_at-small zero n = omega arith
byte_at-small (suc k) n = omega arith

IsBytes-high_first : (k n : ℕ) → IsBytes (bytes_high_first k n)
IsBytes-high_first zero n = IsBytes-nil
IsBytes-high_first (suc k) n =
    IsBytes-cons (byte_at k n) (bytes_high_first k n) (byte_at-small k n) (IsBytes-high_first k n)

IsBytes-digest_bytes : (h : List ℕ) (n : ℕ) → IsBytes (digest_bytes h n)
unfolding digest_bytes
IsBytes-digest_bytes h zero = IsBytes-nil
IsBytes-digest_bytes h (suc n) =
    IsBytes-append (digest_bytes h n) (to_be_bytes w32 (slice_index h n))
    (IsBytes-digest_bytes h n)
    (IsBytes-high_first 4 (slice_index h n))

IsBytes-sha256 : (m : List ℕ) → IsBytes (sha256 m)
unfolding sha256
IsBytes-sha256 m = IsBytes-digest_bytes _ 8

IsBytes-sealed : (secret frame : List ℕ) → IsBytes frame → IsBytes (frame ++ sha256 (secret ++ frame))
IsBytes-sealed secret frame h = IsBytes-append frame (sha256 (secret ++ frame)) h (IsBytes-sha256 (secret ++ frame))

IsBytes-key : (key : SnapKey) → IsBytes (key_bytes key)
IsBytes-key key =
    IsBytes-append (to_be_bytes w64 key.account) (to_be_bytes w32 key.number)
    (IsBytes-high_first 8 key.account)
    (IsBytes-high_first 4 key.number)

IsBytes-end : (index expiry : ℕ) → IsBytes (index_bytes index ++ to_be_bytes w64 expiry)
IsBytes-end index expiry =
    IsBytes-append (index_bytes index) (to_be_bytes w64 expiry)
    (IsBytes-high_first 4 index)
    (IsBytes-high_first 8 expiry)

pub IsBytes-block_frame : (key : SnapKey) (index expiry : ℕ) → IsBytes (block_frame key index expiry)
unfolding block_frame
IsBytes-block_frame key index expiry =
    IsBytes-cons 1 (key_bytes key ++ (index_bytes index ++ to_be_bytes w64 expiry)) (omega arith)
    (IsBytes-append (key_bytes key) (index_bytes index ++ to_be_bytes w64 expiry) (IsBytes-key key) (IsBytes-end index expiry))

kind-small : (changed : Bool) → cond changed 3 2 < 256
kind-small true = omega arith
kind-small false = omega arith

pub IsBytes-page_frame : (changed : Bool) (first second : SnapKey) (index expiry : ℕ) → IsBytes (page_frame changed first second index expiry)
unfolding page_frame
IsBytes-page_frame changed first second index expiry =
    let end = index_bytes index ++ to_be_bytes w64 expiry in
    IsBytes-cons (cond changed 3 2) (key_bytes first ++ (key_bytes second ++ end)) (kind-small changed)
    (IsBytes-append (key_bytes first) (key_bytes second ++ end) (IsBytes-key first)
    (IsBytes-append (key_bytes second) end (IsBytes-key second) (IsBytes-end index expiry)))

-- ---- texts read back

-- the bytes of a frame and its seal
abbrev pub sealed_bytes : List ℕ → List ℕ → List ℕ
sealed_bytes secret frame = frame ++ sha256 (secret ++ frame)

pub decode-sealed : (secret frame : List ℕ) → IsBytes frame → decode_of (sealed secret frame) ≡ Ok (sealed_bytes secret frame)
unfolding sealed
decode-sealed secret frame h = decode_of-encode_lower (sealed_bytes secret frame) (IsBytes-sealed secret frame h)

pub decode-block_text : (secret : List ℕ) (key : SnapKey) (index expiry : ℕ)
    → decode_of (block_text secret key index expiry) ≡ Ok (sealed_bytes secret (block_frame key index expiry))
decode-block_text secret key index expiry = decode-sealed secret (block_frame key index expiry) (IsBytes-block_frame key index expiry)

pub decode-page_text : (secret : List ℕ) (changed : Bool) (first second : SnapKey) (index expiry : ℕ)
    → decode_of (page_text secret changed first second index expiry)
    ≡ Ok (sealed_bytes secret (page_frame changed first second index expiry))
decode-page_text secret changed first second index expiry =
    decode-sealed secret (page_frame changed first second index expiry) (IsBytes-page_frame changed first second index expiry)

-- a text that is a token's has as many bytes as its frame and its seal
pub decode_sized-lower : (text bytes : List ℕ) (n : ℕ) → IsBytes bytes → length bytes ≡ n → text ≡ encode_lower bytes
    → decode_sized text n ≡ Ok bytes
decode_sized-lower text bytes n h len same =
    let long : length text ≡ 2 * n = ap length same ∙ length-encode_with lower_digits bytes ∙ ap (λ k. 2 * k) len in
    decode_sized-twice text n long ∙ ap decode_of same ∙ decode_of-encode_lower bytes h

pub none_sized : (text : List ℕ) (n : ℕ) (r : Option (List ℕ)) → r ≡ result_ok (decode_sized text n)
    → IfNone r ((bytes : List ℕ) → IsBytes bytes → length bytes ≡ n → text ≢ encode_lower bytes)
none_sized text n (Some x) e = tt
none_sized text n None e =
    λ bytes h len same. let found : None ≡ Some bytes = e ∙ ap result_ok (decode_sized-lower text bytes n h len same) in cc found

-- no text of the digits of so many bytes is a token's of another length
pub no_block_text : (secret : List ℕ) (key : SnapKey) (index expiry : ℕ) (text : List ℕ)
    → ((bytes : List ℕ) → IsBytes bytes → length bytes ≡ 57 → text ≢ encode_lower bytes)
    → text ≢ block_text secret key index expiry
unfolding sealed block_frame
no_block_text secret key index expiry text none =
    let frame = block_frame key index expiry in
    none (sealed_bytes secret frame) (IsBytes-sealed secret frame (IsBytes-block_frame key index expiry))
    (length-sealed_bytes secret frame)

pub no_page_text : (secret : List ℕ) (changed : Bool) (first second : SnapKey) (index expiry : ℕ) (text : List ℕ)
    → ((bytes : List ℕ) → IsBytes bytes → length bytes ≡ 69 → text ≢ encode_lower bytes)
    → text ≢ page_text secret changed first second index expiry
unfolding sealed page_frame
no_page_text secret changed first second index expiry text none =
    let frame = page_frame changed first second index expiry in
    none (sealed_bytes secret frame) (IsBytes-sealed secret frame (IsBytes-page_frame changed first second index expiry))
    (length-sealed_bytes secret frame)

-- ---- the numbers at each place

pub small_w32 : (bytes : List ℕ) → IsBytes bytes → from_be_bytes w32 bytes < 2 ^ 32
small_w32 bytes h = omega (arith, h 0, h 1, h 2, h 3)

pub small_w64 : (bytes : List ℕ) → IsBytes bytes → from_be_bytes w64 bytes < 2 ^ 64
small_w64 bytes h = omega (arith, h 0, h 1, h 2, h 3, h 4, h 5, h 6, h 7)

pub expiry-small : (n : ℕ) → from_be_bytes w64 (to_be_bytes w64 n) < 2 ^ 64
expiry-small n = small_w64 (to_be_bytes w64 n) (IsBytes-high_first 8 n)

pub index-small : (n : ℕ) → from_be_bytes w32 (index_bytes n) < 2 ^ 32
index-small n = small_w32 (index_bytes n) (IsBytes-high_first 4 n)

pub index-back : (n : ℕ) → n < 2 ^ 32 → from_be_bytes w32 (index_bytes n) ≡ n
index-back n h = from_be_bytes-to_be_bytes_4 n h

pub record BlockPlaces (bytes : List ℕ) (key : SnapKey) (index expiry : ℕ) : Type 0 where
  pub account_there : number_at w64 1 8 bytes ≡ key.account
  pub number_there : number_at w32 9 4 bytes ≡ key.number
  pub index_there : number_at w32 13 4 bytes ≡ index
  pub expiry_there : number_at w64 17 8 bytes ≡ expiry

pub block_places : (secret : List ℕ) (key : SnapKey) (index expiry : ℕ) (bytes : List ℕ)
    → key.account < 10 ^ 12 → key.number < 2 ^ 28 → index < 2 ^ 32 → expiry < 2 ^ 64
    → decode_of (block_text secret key index expiry) ≡ Ok bytes → BlockPlaces bytes key index expiry
unfolding block_frame number_at
block_places secret key index expiry bytes a n i e read =
    let same : sealed_bytes secret (block_frame key index expiry) ≡ bytes =
    ap decoded (sym (decode-block_text secret key index expiry) ∙ read) in
    subst (λ (b : List ℕ). BlockPlaces b key index expiry) same (record {
      account_there = from_be_bytes-to_be_bytes_8 key.account (omega arith);
      number_there = from_be_bytes-to_be_bytes_4 key.number (omega arith);
      index_there = index-back index i;
      expiry_there = from_be_bytes-to_be_bytes_8 expiry e;
    })

pub block_expiry : (secret : List ℕ) (key : SnapKey) (index expiry : ℕ)
    → number_at w64 17 8 (sealed_bytes secret (block_frame key index expiry)) ≡ from_be_bytes w64 (to_be_bytes w64 expiry)
unfolding block_frame number_at
block_expiry secret key index expiry = refl

pub page_index : (secret : List ℕ) (changed : Bool) (first second : SnapKey) (index expiry : ℕ)
    → number_at w32 25 4 (sealed_bytes secret (page_frame changed first second index expiry)) ≡ from_be_bytes w32 (index_bytes index)
unfolding page_frame number_at
page_index secret changed first second index expiry = refl

pub page_expiry : (secret : List ℕ) (changed : Bool) (first second : SnapKey) (index expiry : ℕ)
    → number_at w64 29 8 (sealed_bytes secret (page_frame changed first second index expiry)) ≡ from_be_bytes w64 (to_be_bytes w64 expiry)
unfolding page_frame number_at
page_expiry secret changed first second index expiry = refl

pub page_kind : (secret : List ℕ) (changed : Bool) (first second : SnapKey) (index expiry : ℕ)
    → slice_index (sealed_bytes secret (page_frame changed first second index expiry)) 0 ≡ cond changed 3 2
unfolding page_frame
page_kind secret changed first second index expiry = refl

pub record PagePlaces (bytes : List ℕ) (changed : Bool) (first second : SnapKey) (index expiry : ℕ) : Type 0 where
  pub kind_there : slice_index bytes 0 ≡ cond changed 3 2
  pub account_there : number_at w64 1 8 bytes ≡ first.account
  pub number_there : number_at w32 9 4 bytes ≡ first.number
  pub second_account_there : number_at w64 13 8 bytes ≡ second.account
  pub second_number_there : number_at w32 21 4 bytes ≡ second.number
  pub index_there : number_at w32 25 4 bytes ≡ index
  pub expiry_there : number_at w64 29 8 bytes ≡ expiry

pub page_places : (secret : List ℕ) (changed : Bool) (first second : SnapKey) (index expiry : ℕ) (bytes : List ℕ)
    → first.account < 10 ^ 12 → first.number < 2 ^ 28 → second.account < 10 ^ 12 → second.number < 2 ^ 28
    → index < 2 ^ 32 → expiry < 2 ^ 64
    → decode_of (page_text secret changed first second index expiry) ≡ Ok bytes
    → PagePlaces bytes changed first second index expiry
unfolding page_frame number_at
page_places secret changed first second index expiry bytes a n b m i e read =
    let same : sealed_bytes secret (page_frame changed first second index expiry) ≡ bytes =
    ap decoded (sym (decode-page_text secret changed first second index expiry) ∙ read) in
    subst (λ (b : List ℕ). PagePlaces b changed first second index expiry) same (record {
      kind_there = refl;
      account_there = from_be_bytes-to_be_bytes_8 first.account (omega arith);
      number_there = from_be_bytes-to_be_bytes_4 first.number (omega arith);
      second_account_there = from_be_bytes-to_be_bytes_8 second.account (omega arith);
      second_number_there = from_be_bytes-to_be_bytes_4 second.number (omega arith);
      index_there = index-back index i;
      expiry_there = from_be_bytes-to_be_bytes_8 expiry e;
    })

pub same_texts : (xs ys : List ℕ) → pointwise nat_eq xs ys ≡ true → xs ≡ ys
same_texts xs ys = (bytes_decides xs ys).0

pub texts_same : (xs ys : List ℕ) → xs ≡ ys → pointwise nat_eq xs ys ≡ true
texts_same xs ys = (bytes_decides xs ys).1

false_from : (b : Bool) → b ≢ true → b ≡ false
false_from true n = absurd (n refl)
false_from false n = refl

pub texts_differ : (xs ys : List ℕ) → xs ≢ ys → pointwise nat_eq xs ys ≡ false
texts_differ xs ys n = false_from (pointwise nat_eq xs ys) (λ e. n (same_texts xs ys e))

-- a text of digits in two parts
pub parted : (text front back : List ℕ) (n : ℕ) → length front ≡ 2 * n → 2 * n ≤ length text
    → Decides (pointwise nat_eq (take (2 * n) text) front && pointwise nat_eq (drop (2 * n) text) back) (text ≡ front ++ back)
parted text front back n len fits = (
  λ both.
      let parts = and_parts (pointwise nat_eq (take (2 * n) text) front) (pointwise nat_eq (drop (2 * n) text) back) both in
      let begins = same_texts (take (2 * n) text) front parts.0 in
      let ends = same_texts (drop (2 * n) text) back parts.1 in
      sym (take-append-drop (2 * n) text) ∙ ap (λ t. t ++ drop (2 * n) text) begins ∙ ap (λ t. front ++ t) ends,
  λ same.
      let begins : take (2 * n) text ≡ front = ap (take (2 * n)) same ∙ rw (← len) (take-append_seam front back) in
      let ends : drop (2 * n) text ≡ back = ap (drop (2 * n)) same ∙ rw (← len) (drop-append_seam front back) in
      rw (texts_same (take (2 * n) text) front begins) (texts_same (drop (2 * n) text) back ends),
)

pub sealed_parts : (secret frame text : List ℕ) → 2 * length frame ≤ length text
    → pointwise nat_eq text (sealed secret frame)
    ≡ (pointwise nat_eq (take (2 * length frame) text) (encode_lower frame)
    && pointwise nat_eq (drop (2 * length frame) text) (encode_lower (sha256 (secret ++ frame))))
unfolding sealed
sealed_parts secret frame text fits =
    let seal = sha256 (secret ++ frame) in
    let whole : encode_lower (frame ++ seal) ≡ encode_lower frame ++ encode_lower seal = encode_with-append lower_digits frame seal in
    rw whole
    (same_from_decides _ _ (bytes_decides text (encode_lower frame ++ encode_lower seal))
    (parted text (encode_lower frame) (encode_lower seal) (length frame) (length-encode_with lower_digits frame) fits))

pub sealed_long : (secret frame text : List ℕ) → length text < 2 * length frame → pointwise nat_eq text (sealed secret frame) ≡ false
unfolding sealed
sealed_long secret frame text short =
    let bytes = frame ++ sha256 (secret ++ frame) in
    texts_differ text (encode_lower bytes)
    (λ same. omega (arith, ap length same, length-encode_with lower_digits bytes, length-sealed_bytes secret frame))

-- ---- tests

pub and_then : (a b r : Bool) → a ≡ true → r ≡ b → r ≡ (a && b)
and_then true b r h same = same
and_then false b r h same = cc h

pub and_else : (a b r : Bool) → r ≡ a → r ≡ false → r ≡ (a && b)
and_else true b r same h = cc (sym h ∙ same)
and_else false b r same h = h

pub last_false : (a b c : Bool) → c ≡ false → (a && (b && c)) ≡ false
last_false true true c h = h
last_false true false c h = refl
last_false false b c h = refl

pub if_none : {A : Type 0} (P : Type 0) (found : Option A) → P → IfNone found P
if_none P (Some x) p = tt
if_none P None p = p

pub and_last : (a c : Bool) → c ≡ false → (a && c) ≡ false
and_last true c h = h
and_last false c h = refl

-- ---- lengths

pub length-sealed : (secret frame : List ℕ) → length (sealed secret frame) ≡ 2 * (length frame + 32)
unfolding sealed
length-sealed secret frame =
    length-encode_with lower_digits (frame ++ sha256 (secret ++ frame)) ∙ ap (λ n. 2 * n) (length-sealed_bytes secret frame)

pub length-block_text : (secret : List ℕ) (key : SnapKey) (index expiry : ℕ) → length (block_text secret key index expiry) ≡ 114
unfolding block_frame
length-block_text secret key index expiry = length-sealed secret (block_frame key index expiry)

pub length-page_text : (secret : List ℕ) (changed : Bool) (first second : SnapKey) (index expiry : ℕ)
    → length (page_text secret changed first second index expiry) ≡ 138
unfolding page_frame
length-page_text secret changed first second index expiry = length-sealed secret (page_frame changed first second index expiry)
