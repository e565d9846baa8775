-- When the token of a page is good, and which page it names.
use Rattle.std.proofs.Common.{◌≡◌, ◌≢◌, ℕ, ◌^◌, ◌<◌, ◌==◌, Bool, true, false, cond, arith, ◌&&◌, List, length, Option, Some, None, Ok, refl, sym, subst, ap, ◌∙◌, nat_eq, nat_lt}
use Rattle.std.specs.Prelude.{◌↔◌, slice_index}
use Rattle.std.specs.Int.{w32, w64, to_be_bytes, from_be_bytes}
use Rattle.std.specs.Cmp.Lexicographic.{pointwise}
use Rattle.std.proofs.lemmas.Bool.{and_parts}
use Rattle.std.proofs.lemmas.Bool.Decides.{Decides-ltb}
use Rattle.std.proofs.lemmas.Nat.{from_be_bytes-to_be_bytes_8}
use Rattle.hex.specs.Hex.{IsBytes, encode_lower, decode_of}
use Rattle.ebs_model.specs.Tokens.{decoded, sealed, number_at, stated, index_bytes, page_frame, page_text, page_start}
use Rattle.ebs_model.specs.declared.keys.SnapKey.{SnapKey}
use Rattle.ebs_tokens.specs.Fields.{IsPageField, text_of_page}
use Rattle.ebs_tokens.specs.declared.page.PageField.{PageField}
use Rattle.ebs_tokens.proofs.Texts.{sealed_bytes, PagePlaces, page_places, page_index, page_expiry, page_kind, decode-page_text, no_page_text, same_texts, texts_same, texts_differ, and_last, expiry-small, index-small, index-back}

-- the test at an index and an expiry
abbrev pub good_from : List ℕ → Bool → SnapKey → SnapKey → ℕ → List ℕ → ℕ → ℕ → Bool
good_from secret changed first second now text index expiry =
    nat_lt now expiry && pointwise nat_eq text (page_text secret changed first second index expiry)

abbrev pub start_from : List ℕ → Bool → SnapKey → SnapKey → ℕ → List ℕ → ℕ → ℕ → Option ℕ
start_from secret changed first second now text index expiry =
    cond (good_from secret changed first second now text index expiry) (Some index) None

pub no_page_start : (secret : List ℕ) (changed : Bool) (first second : SnapKey) (now : ℕ) (text : List ℕ)
    → ((bytes : List ℕ) → IsBytes bytes → length bytes ≡ 69 → text ≢ encode_lower bytes)
    → page_start secret changed first second now text ≡ None
no_page_start secret changed first second now text none =
    let index = stated w32 25 4 text in
    let expiry = stated w64 29 8 text in
    let other = page_text secret changed first second index expiry in
    ap (λ t. cond t (Some index) None)
    (and_last (nat_lt now expiry) (pointwise nat_eq text other)
    (texts_differ text other (no_page_text secret changed first second index expiry text none)))

pub page_start_at : (secret : List ℕ) (changed : Bool) (first second : SnapKey) (now : ℕ) (text bytes : List ℕ) (index expiry : ℕ)
    → decode_of text ≡ Ok bytes → index ≡ number_at w32 25 4 bytes → expiry ≡ number_at w64 29 8 bytes
    → page_start secret changed first second now text ≡ start_from secret changed first second now text index expiry
page_start_at secret changed first second now text bytes index expiry read i e =
    let index_same : stated w32 25 4 text ≡ index = ap (λ r. number_at w32 25 4 (decoded r)) read ∙ sym i in
    let expiry_same : stated w64 29 8 text ≡ expiry = ap (λ r. number_at w64 29 8 (decoded r)) read ∙ sym e in
    ap (λ n. start_from secret changed first second now text n (stated w64 29 8 text)) index_same
    ∙ ap (start_from secret changed first second now text index) expiry_same

pub good_from-parts : (secret : List ℕ) (changed : Bool) (first second : SnapKey) (now : ℕ) (text : List ℕ) (index expiry : ℕ)
    → good_from secret changed first second now text index expiry ≡ true
    ↔ ((now < expiry) × (text ≡ page_text secret changed first second index expiry))
good_from-parts secret changed first second now text index expiry =
    let other = page_text secret changed first second index expiry in (
      λ h.
          let parts = and_parts (nat_lt now expiry) (pointwise nat_eq text other) h in
          ((Decides-ltb now expiry).0 parts.0, same_texts text other parts.1),
      λ h. rw ((Decides-ltb now expiry).1 h.0) (texts_same text other h.1),
    )

some_of : (t : Bool) (here index : ℕ) → cond t (Some here) None ≡ Some index → (t ≡ true) × (here ≡ index)
some_of true here index h = (refl, cc h)
some_of false here index h = cc h

stated-page : (secret : List ℕ) (changed : Bool) (first second : SnapKey) (index expiry : ℕ) (text : List ℕ)
    → text ≡ page_text secret changed first second index expiry
    → (stated w32 25 4 text ≡ from_be_bytes w32 (index_bytes index))
    × (stated w64 29 8 text ≡ from_be_bytes w64 (to_be_bytes w64 expiry))
stated-page secret changed first second index expiry text same =
    let read = ap decode_of same ∙ decode-page_text secret changed first second index expiry in (
      ap (λ r. number_at w32 25 4 (decoded r)) read ∙ page_index secret changed first second index expiry,
      ap (λ r. number_at w64 29 8 (decoded r)) read ∙ page_expiry secret changed first second index expiry,
    )

pub page_token-good : (secret : List ℕ) (changed : Bool) (first second : SnapKey) (now index : ℕ) (text : List ℕ)
    → (page_start secret changed first second now text ≡ Some index)
    ↔ ((index < 2 ^ 32) × ((expiry : ℕ) × (now < expiry) × (expiry < 2 ^ 64) × (text ≡ page_text secret changed first second index expiry)))
page_token-good secret changed first second now index text =
    let here = stated w32 25 4 text in
    let end = stated w64 29 8 text in (
      λ h.
          let found = some_of (good_from secret changed first second now text here end) here index h in
          let parts = (good_from-parts secret changed first second now text here end).0 found.0 in
          let there = stated-page secret changed first second here end text parts.1 in (
            subst (λ (n : ℕ). n < 2 ^ 32) (sym there.0 ∙ found.1) (index-small here),
            (
              end,
              parts.0,
              subst (λ (n : ℕ). n < 2 ^ 64) (sym there.1) (expiry-small end),
              parts.1 ∙ ap (λ n. page_text secret changed first second n end) found.1,
            ),
          ),
      λ h.
          let expiry = h.1.0 in
          let there = stated-page secret changed first second index expiry text h.1.3 in
          let index_same : here ≡ index = there.0 ∙ index-back index h.0 in
          let expiry_same : end ≡ expiry = there.1 ∙ from_be_bytes-to_be_bytes_8 expiry h.1.2 in
          ap (λ n. start_from secret changed first second now text n end) index_same
          ∙ ap (start_from secret changed first second now text index) expiry_same
          ∙ ap (λ t. cond t (Some index) None) ((good_from-parts secret changed first second now text index expiry).1 (h.1.1, h.1.3)),
    )

-- ---- the page that a token names

pub field_places : (secret : List ℕ) (field : PageField) (text bytes : List ℕ) → IsPageField field
    → text ≡ text_of_page secret field → decode_of text ≡ Ok bytes
    → PagePlaces bytes field.changed field.first field.second field.index field.expiry.second
field_places secret field text bytes h same read =
    page_places secret field.changed field.first field.second field.index field.expiry.second bytes
    h.0.0 h.0.1 h.1.0 h.1.1 h.2 h.3 (ap decode_of (sym same) ∙ read)

abbrev field_of : Bool → ℕ → ℕ → ℕ → ℕ → ℕ → ℕ → PageField
field_of changed account number other own index second = record {
  changed = changed;
  first = record { account = account; number = number };
  second = record { account = other; number = own };
  index = index;
  expiry = record { second = second };
}

along : (make : Bool → ℕ → ℕ → ℕ → ℕ → ℕ → ℕ → PageField) (k l : Bool) (a b c d e f u v w x y z : ℕ)
    → k ≡ l → a ≡ u → b ≡ v → c ≡ w → d ≡ x → e ≡ y → f ≡ z → make k a b c d e f ≡ make l u v w x y z
along make k l a b c d e f u v w x y z m n o p q r s = cc

pub same_kind : (a b : Bool) (byte : ℕ) → byte ≡ cond a 3 2 → byte ≡ cond b 3 2 → a ≡ b
same_kind true true byte h k = refl
same_kind true false byte h k = absurd (omega arith)
same_kind false true byte h k = absurd (omega arith)
same_kind false false byte h k = refl

pub kind_read : (changed : Bool) (byte : ℕ) → byte ≡ cond changed 3 2 → (byte == 3) ≡ changed
kind_read true byte h = rw h refl
kind_read false byte h = rw h refl

pub same_field : (bytes : List ℕ) (f g : PageField)
    → PagePlaces bytes f.changed f.first f.second f.index f.expiry.second
    → PagePlaces bytes g.changed g.first g.second g.index g.expiry.second → f ≡ g
same_field bytes f g p q =
    along field_of f.changed g.changed
    f.first.account f.first.number f.second.account f.second.number f.index f.expiry.second
    g.first.account g.first.number g.second.account g.second.number g.index g.expiry.second
    (same_kind f.changed g.changed (slice_index bytes 0) p.kind_there q.kind_there)
    (sym p.account_there ∙ q.account_there)
    (sym p.number_there ∙ q.number_there)
    (sym p.second_account_there ∙ q.second_account_there)
    (sym p.second_number_there ∙ q.second_number_there)
    (sym p.index_there ∙ q.index_there)
    (sym p.expiry_there ∙ q.expiry_there)

pub one_page : (secret other : List ℕ) (field unlike : PageField) → IsPageField field → IsPageField unlike
    → text_of_page secret field ≡ text_of_page other unlike → field ≡ unlike
one_page secret other field unlike h k same =
    let text = text_of_page secret field in
    let read = decode-page_text secret field.changed field.first field.second field.index field.expiry.second in
    same_field _ field unlike (field_places secret field text _ h refl read) (field_places other unlike text _ k same read)

-- what stands at the places of a token's text is the text's
pub read_back : (secret text bytes : List ℕ) (changed : Bool) (first second : SnapKey) (index expiry : ℕ) (field : PageField)
    → IsPageField field → text ≡ text_of_page secret field → decode_of text ≡ Ok bytes
    → changed ≡ (slice_index bytes 0 == 3)
    → first.account ≡ number_at w64 1 8 bytes → first.number ≡ number_at w32 9 4 bytes
    → second.account ≡ number_at w64 13 8 bytes → second.number ≡ number_at w32 21 4 bytes
    → index ≡ number_at w32 25 4 bytes → expiry ≡ number_at w64 29 8 bytes
    → pointwise nat_eq text (sealed secret (page_frame changed first second index expiry)) ≡ true
read_back secret text bytes changed first second index expiry field h same read k a n b m i e =
    let found : PageField = record {
      changed = changed;
      first = first;
      second = second;
      index = index;
      expiry = record { second = expiry };
    } in
    let stands = field_places secret field text bytes h same read in
    let kind : changed ≡ field.changed = k ∙ kind_read field.changed (slice_index bytes 0) stands.kind_there in
    let there : PagePlaces bytes changed first second index expiry = record {
      kind_there = stands.kind_there ∙ ap (λ t. cond t 3 2) (sym kind);
      account_there = sym a;
      number_there = sym n;
      second_account_there = sym b;
      second_number_there = sym m;
      index_there = sym i;
      expiry_there = sym e;
    } in
    texts_same text (text_of_page secret found) (same ∙ ap (text_of_page secret) (same_field bytes field found stands there))

-- no text is a page of both lists
pub lists_apart : (secret other : List ℕ) (first second third fourth : SnapKey) (index expiry from end : ℕ)
    → page_text secret true first second index expiry ≢ page_text other false third fourth from end
lists_apart secret other first second third fourth index expiry from end same =
    let one = decode-page_text secret true first second index expiry in
    let two = decode-page_text other false third fourth from end in
    let byte = slice_index (sealed_bytes secret (page_frame true first second index expiry)) 0 in
    let kinds : true ≡ false =
    same_kind true false byte (page_kind secret true first second index expiry)
    (ap (λ r. slice_index (decoded r) 0) (sym one ∙ ap decode_of same ∙ two) ∙ page_kind other false third fourth from end) in
    cc kinds
