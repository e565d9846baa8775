-- The texts of tokens, and when one is good. The format is this project's own.
use Rattle.std.specs.Prelude.{ℕ, List, ◌++◌, ◌∷◌, Bool, cond, [], Result, Ok, Err, take, drop, ◌^◌, ◌&&◌, nat_lt, nat_eq, Option, None, Some}
use Rattle.std.specs.Int.{w32, w64, to_be_bytes, Width, from_be_bytes}
use Rattle.std.specs.Cmp.Lexicographic.{pointwise}
use Rattle.hex.specs.Hex.{encode_lower, decode_of}
use Rattle.hex.specs.declared.FromHexError.{FromHexError}
use Rattle.sha2.specs.Sha256.{sha256}
use Rattle.ebs_model.specs.declared.keys.SnapKey.{SnapKey}

-- in lower-case hexadecimal: a frame, and the SHA-256 of the secret followed by it
unfoldable pub sealed : List ℕ → List ℕ → List ℕ
sealed secret frame = encode_lower (frame ++ sha256 (secret ++ frame))

-- eight bytes of the account and four of the number, the greatest first
abbrev pub key_bytes : SnapKey → List ℕ
key_bytes key = to_be_bytes w64 key.account ++ to_be_bytes w32 key.number

abbrev pub index_bytes : ℕ → List ℕ
index_bytes index = to_be_bytes w32 index

-- what the token of a block states
unfoldable pub block_frame : SnapKey → ℕ → ℕ → List ℕ
block_frame key index expiry = 1 ∷ (key_bytes key ++ (index_bytes index ++ to_be_bytes w64 expiry))

-- the token of a block of a snapshot, good until its expiry
abbrev pub block_text : List ℕ → SnapKey → ℕ → ℕ → List ℕ
block_text secret key index expiry = sealed secret (block_frame key index expiry)

-- what the token of a page states: 2 in front of a list of a snapshot's blocks, 3 of changed blocks
unfoldable pub page_frame : Bool → SnapKey → SnapKey → ℕ → ℕ → List ℕ
page_frame changed first second index expiry =
    cond changed 3 2 ∷ (key_bytes first ++ (key_bytes second ++ (index_bytes index ++ to_be_bytes w64 expiry)))

-- the token of the page of a list, or of a list of changed blocks, that begins at an index
abbrev pub page_text : List ℕ → Bool → SnapKey → SnapKey → ℕ → ℕ → List ℕ
page_text secret changed first second index expiry = sealed secret (page_frame changed first second index expiry)

abbrev pub decoded : Result (List ℕ) FromHexError → List ℕ
decoded (Ok bytes) = bytes
decoded (Err e) = []

-- the number in some bytes at a place, the greatest byte first
unfoldable pub number_at : Width → ℕ → ℕ → List ℕ → ℕ
number_at width place size bytes = from_be_bytes width (take size (drop place bytes))

-- the number that the text states there
abbrev pub stated : Width → ℕ → ℕ → List ℕ → ℕ
stated width place size text = number_at width place size (decoded (decode_of text))

-- the text is the token of this snapshot and index for an expiry that isn't reached
abbrev pub is_block_token : List ℕ → SnapKey → ℕ → ℕ → List ℕ → Bool
is_block_token secret key index now text =
    let expiry = stated w64 17 8 text in
    nat_lt index (2 ^ 32) && (nat_lt now expiry && pointwise nat_eq text (block_text secret key index expiry))

-- the index at which the page begins, where the text is the token of this list for an expiry that isn't reached
abbrev pub page_start : List ℕ → Bool → SnapKey → SnapKey → ℕ → List ℕ → Option ℕ
page_start secret changed first second now text =
    let index = stated w32 25 4 text in
    let expiry = stated w64 29 8 text in
    cond (nat_lt now expiry && pointwise nat_eq text (page_text secret changed first second index expiry)) (Some index) None
