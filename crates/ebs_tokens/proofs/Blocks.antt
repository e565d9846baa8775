-- When the token of a block is good, and which block it names.
use Rattle.std.proofs.Common.{◌≡◌, ◌≢◌, ℕ, ◌+◌, ◌^◌, ◌<◌, ◌≤◌, ◌⊎◌, inl, inr, Bool, true, false, ◌&&◌, List, length, Ok, refl, sym, subst, ap, ◌∙◌, arith, nat_eq, nat_lt}
use Rattle.std.specs.Prelude.{◌↔◌}
use Rattle.std.specs.Int.{w32, w64, to_be_bytes, from_be_bytes}
use Rattle.std.specs.Cmp.Lexicographic.{pointwise}
use Rattle.std.proofs.lemmas.Bool.{and_parts}
use Rattle.std.proofs.lemmas.Bool.Decides.{Decides-ltb}
use Rattle.std.proofs.lemmas.Nat.{from_be_bytes-to_be_bytes_8}
use Rattle.hex.specs.Hex.{IsBytes, encode_lower, decode_of}
use Rattle.ebs_model.specs.Tokens.{decoded, sealed, number_at, stated, block_frame, block_text, is_block_token}
use Rattle.ebs_model.specs.declared.keys.SnapKey.{SnapKey}
use Rattle.ebs_tokens.specs.Fields.{IsBlockField, text_of_block}
use Rattle.ebs_tokens.specs.declared.block.BlockField.{BlockField}
use Rattle.ebs_tokens.proofs.Texts.{BlockPlaces, block_places, block_expiry, decode-block_text, no_block_text, same_texts, texts_same, texts_differ, last_false, expiry-small}

-- the test at an expiry
abbrev pub good_until : List ℕ → SnapKey → ℕ → ℕ → List ℕ → ℕ → Bool
good_until secret key index now text expiry =
    nat_lt index (2 ^ 32) && (nat_lt now expiry && pointwise nat_eq text (block_text secret key index expiry))

pub no_block_token : (secret : List ℕ) (key : SnapKey) (index now : ℕ) (text : List ℕ)
    → ((bytes : List ℕ) → IsBytes bytes → length bytes ≡ 57 → text ≢ encode_lower bytes)
    → is_block_token secret key index now text ≡ false
no_block_token secret key index now text none =
    let expiry = stated w64 17 8 text in
    last_false (nat_lt index (2 ^ 32)) (nat_lt now expiry) (pointwise nat_eq text (block_text secret key index expiry))
    (texts_differ text (block_text secret key index expiry) (no_block_text secret key index expiry text none))

pub block_token_at : (secret : List ℕ) (key : SnapKey) (index now : ℕ) (text bytes : List ℕ) (expiry : ℕ)
    → decode_of text ≡ Ok bytes → expiry ≡ number_at w64 17 8 bytes
    → is_block_token secret key index now text ≡ good_until secret key index now text expiry
block_token_at secret key index now text bytes expiry read there =
    let same : stated w64 17 8 text ≡ expiry = ap (λ r. number_at w64 17 8 (decoded r)) read ∙ sym there in
    ap (good_until secret key index now text) same

pub good-parts : (secret : List ℕ) (key : SnapKey) (index now : ℕ) (text : List ℕ) (expiry : ℕ)
    → good_until secret key index now text expiry ≡ true
    ↔ ((index < 2 ^ 32) × (now < expiry) × (text ≡ block_text secret key index expiry))
good-parts secret key index now text expiry =
    let same = pointwise nat_eq text (block_text secret key index expiry) in (
      λ h.
          let outer = and_parts (nat_lt index (2 ^ 32)) (nat_lt now expiry && same) h in
          let inner = and_parts (nat_lt now expiry) same outer.1 in (
            (Decides-ltb index (2 ^ 32)).0 outer.0,
            (Decides-ltb now expiry).0 inner.0,
            same_texts text (block_text secret key index expiry) inner.1,
          ),
      λ h.
          rw ((Decides-ltb index (2 ^ 32)).1 h.0, (Decides-ltb now expiry).1 h.1)
          (texts_same text (block_text secret key index expiry) h.2),
    )

-- the expiry that a token states
pub stated-expiry : (secret : List ℕ) (key : SnapKey) (index expiry : ℕ) (text : List ℕ)
    → text ≡ block_text secret key index expiry → stated w64 17 8 text < 2 ^ 64
    × (expiry < 2 ^ 64 → stated w64 17 8 text ≡ expiry)
stated-expiry secret key index expiry text same =
    let read = ap decode_of same ∙ decode-block_text secret key index expiry in
    let there : stated w64 17 8 text ≡ from_be_bytes w64 (to_be_bytes w64 expiry) =
    ap (λ r. number_at w64 17 8 (decoded r)) read ∙ block_expiry secret key index expiry in
    (subst (λ (n : ℕ). n < 2 ^ 64) (sym there) (expiry-small expiry), λ h. there ∙ from_be_bytes-to_be_bytes_8 expiry h)

pub block_token-good : (secret : List ℕ) (key : SnapKey) (index now : ℕ) (text : List ℕ)
    → (is_block_token secret key index now text ≡ true)
    ↔ ((index < 2 ^ 32) × ((expiry : ℕ) × (now < expiry) × (expiry < 2 ^ 64) × (text ≡ block_text secret key index expiry)))
block_token-good secret key index now text =
    let at = stated w64 17 8 text in (
      λ h.
          let parts = (good-parts secret key index now text at).0 h in
          (parts.0, (at, parts.1, (stated-expiry secret key index at text parts.2).0, parts.2)),
      λ h.
          let expiry = h.1.0 in
          let same : at ≡ expiry = (stated-expiry secret key index expiry text h.1.3).1 h.1.2 in
          ap (good_until secret key index now text) same
          ∙ (good-parts secret key index now text expiry).1 (h.0, h.1.1, h.1.3),
    )

-- ---- the block that a token names

pub field_places : (secret : List ℕ) (field : BlockField) (text bytes : List ℕ) → IsBlockField field
    → text ≡ text_of_block secret field → decode_of text ≡ Ok bytes
    → BlockPlaces bytes field.key field.index field.expiry.second
field_places secret field text bytes h same read =
    block_places secret field.key field.index field.expiry.second bytes h.0.0 h.0.1 h.1 h.2 (ap decode_of (sym same) ∙ read)

pub bad_key : (bytes : List ℕ) (place : ℕ) (key : SnapKey) → key.account < 10 ^ 12 → key.number < 2 ^ 28
    → number_at w64 place 8 bytes ≡ key.account → number_at w32 (place + 8) 4 bytes ≡ key.number
    → (10 ^ 12 ≤ number_at w64 place 8 bytes) ⊎ (2 ^ 28 ≤ number_at w32 (place + 8) 4 bytes) → ⊥
bad_key bytes place key a n e f (inl h) = omega arith
bad_key bytes place key a n e f (inr h) = omega arith

-- a field by its numbers
abbrev field_of : ℕ → ℕ → ℕ → ℕ → BlockField
field_of account number index second = record {
  key = record { account = account; number = number };
  index = index;
  expiry = record { second = second };
}

along : (make : ℕ → ℕ → ℕ → ℕ → BlockField) (a b c d x y z w : ℕ) → a ≡ x → b ≡ y → c ≡ z → d ≡ w → make a b c d ≡ make x y z w
along make a b c d x y z w p q r s = cc

pub same_field : (bytes : List ℕ) (f g : BlockField) → BlockPlaces bytes f.key f.index f.expiry.second
    → BlockPlaces bytes g.key g.index g.expiry.second → f ≡ g
same_field bytes f g p q =
    along field_of f.key.account f.key.number f.index f.expiry.second g.key.account g.key.number g.index g.expiry.second
    (sym p.account_there ∙ q.account_there)
    (sym p.number_there ∙ q.number_there)
    (sym p.index_there ∙ q.index_there)
    (sym p.expiry_there ∙ q.expiry_there)

pub one_block : (secret other : List ℕ) (field unlike : BlockField) → IsBlockField field → IsBlockField unlike
    → text_of_block secret field ≡ text_of_block other unlike → field ≡ unlike
one_block secret other field unlike h k same =
    let text = text_of_block secret field in
    let read = decode-block_text secret field.key field.index field.expiry.second in
    same_field _ field unlike (field_places secret field text _ h refl read) (field_places other unlike text _ k same read)

-- what stands at the places of a token's text is the text's
pub read_back : (secret text bytes : List ℕ) (key : SnapKey) (index expiry : ℕ) (field : BlockField) → IsBlockField field
    → text ≡ text_of_block secret field → decode_of text ≡ Ok bytes
    → key.account ≡ number_at w64 1 8 bytes → key.number ≡ number_at w32 9 4 bytes
    → index ≡ number_at w32 13 4 bytes → expiry ≡ number_at w64 17 8 bytes
    → pointwise nat_eq text (sealed secret (block_frame key index expiry)) ≡ true
read_back secret text bytes key index expiry field h same read a n i e =
    let found : BlockField = record { key = key; index = index; expiry = record { second = expiry } } in
    let there : BlockPlaces bytes key index expiry =
    record { account_there = sym a; number_there = sym n; index_there = sym i; expiry_there = sym e } in
    let one = same_field bytes field found (field_places secret field text bytes h same read) there in
    texts_same text (text_of_block secret found) (same ∙ ap (text_of_block secret) one)
