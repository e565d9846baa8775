-- What the router takes from a path, for a route of the table that it found: texts, each the piece where the route has its name.
use Rattle.std.proofs.Common.{◌≡◌, ℕ, suc, ◌+◌, ◌<◌, List, [], ◌∷◌, ◌++◌, length, get_or, zip, Some, Bool, true, false, refl, sym, ap, ◌∙◌, subst, arith, ltb, ◌==◌, ◌&&◌, bytes_eq, append-nil, length-append, take_at, drop_at, ltb-true, eqb-true, eq-eqb, ne_eqb, if◌then◌else◌, All, inl, inr, IsUtf8, zero-add}
use Rattle.std.specs.List.{list_all}
use Rattle.std.specs.Cmp.Lexicographic.{pointwise, pointwise_decides, bytes_decides}
use Rattle.std.specs.Str.{is_utf8}
use Rattle.std.proofs.lemmas.Bool.{and_parts, and_from}
use Rattle.std.proofs.lemmas.List.{get_or_at}
use Rattle.std.proofs.lemmas.Str.{IsUtf8-nil, IsUtf8-take, IsUtf8-drop, IsCharBoundary-before_ascii, IsCharBoundary-after_ascii, is_utf8-from_IsUtf8, IsUtf8-from_ascii}
use Rattle.std.proofs.lemmas.Str.Ascii.{IsAscii-from_all}
use Rattle.std.proofs.lemmas.List.Elements.{All-nil, All-cons}
use Rattle.matchit.specs.Router.{RouteOf}
use Rattle.matchit.specs.Seek.{first}
use Rattle.matchit.specs.Params.{walk, named}
use Rattle.matchit.proofs.OnLiterals.{matchit_on_literals}
use Rattle.matchit.specs.declared.params.Params.{Params}
use Rattle.ebs_members.specs.Sources.{parts, captured}
use Rattle.ebs_members.specs.inner.Paths.{taken, are_texts, AreCaptured}
use Rattle.ebs_rest.specs.CallOf.{Routed, rows}
use Rattle.ebs_rest.proofs.Fitting.{Fits, FitsSome, HasRow, is_plain, are_plain, fits_found}
use Rattle.ebs_rest.proofs.Walks.{names_of, walked, is_before}
use Rattle.ebs_rest.proofs.Places.{names_in, tokens_of, are_literal, piece_named}

-- a piece of a text is a text
abbrev AreTexts : List (List ℕ) → Type 0
AreTexts texts = list_all is_utf8 texts ≡ true

before_slash : (piece later : List ℕ) → IsUtf8 (piece ++ 47 ∷ later) → IsUtf8 piece × IsUtf8 (47 ∷ later)
before_slash piece later text =
    let byte : get_or (piece ++ 47 ∷ later) (length piece) 0 ≡ 47 = get_or_at piece 47 later 0 (length piece) refl in
    let size : length (piece ++ 47 ∷ later) ≡ length piece + suc (length later) = length-append piece (47 ∷ later) in
    let cut = IsCharBoundary-before_ascii (piece ++ 47 ∷ later) (length piece) (omega arith) (omega arith) in (
      subst IsUtf8 (take_at piece (47 ∷ later) (length piece) refl) (IsUtf8-take (piece ++ 47 ∷ later) (length piece) text cut),
      subst IsUtf8 (drop_at piece (47 ∷ later) (length piece) refl) (IsUtf8-drop (piece ++ 47 ∷ later) (length piece) text cut),
    )

behind_byte : (x : ℕ) (later : List ℕ) → x < 128 → IsUtf8 (x ∷ later) → IsUtf8 later
behind_byte x later low text = IsUtf8-drop (x ∷ later) 1 text (IsCharBoundary-after_ascii (x ∷ later) 0 text (omega arith) low)

pieces_are_texts : (t path : List ℕ) (pieces : List (List ℕ)) → is_plain t ≡ true → Fits t path pieces → IsUtf8 path → AreTexts pieces
pieces_are_texts [] path pieces plain fits text = rw fits.1 refl
pieces_are_texts (x ∷ t) path pieces plain fits text = elim fits [
  | inl byte ↦ pieces_are_texts t byte.1 pieces (and_parts _ _ plain).1 byte.3 (behind_byte x byte.1 byte.0 (subst IsUtf8 byte.2 text))
  | inr param ↦
      let head : is_plain (256 ∷ t) ≡ true = subst (λ (y : ℕ). is_plain (y ∷ t) ≡ true) param.0 plain in
      let whole : IsUtf8 (param.1 ++ param.2) = subst IsUtf8 param.4 text in
      let both : IsUtf8 param.1 × IsUtf8 param.2 = elim (is_before t param.2 param.3 (and_parts _ _ head).0 param.7) [
        | inl last ↦
            (subst IsUtf8 (ap (λ (r : List ℕ). param.1 ++ r) last.1 ∙ append-nil param.1) whole, subst IsUtf8 (sym last.1) IsUtf8-nil)
        | inr before ↦
            let cut = before_slash param.1 before.1 (subst IsUtf8 (ap (λ (r : List ℕ). param.1 ++ r) before.3) whole) in
            (cut.0, subst IsUtf8 (sym before.3) cut.1)
      ] in
      rw param.5 (and_from _ _ (is_utf8-from_IsUtf8 param.1 both.0) (pieces_are_texts t param.2 param.3 (and_parts _ _ plain).1 param.7 both.1))
]

-- as many pieces as parameters
abbrev params : List ℕ → ℕ
params [] = 0
params (x ∷ t) = if x == 256 then suc (params t) else params t

as_many : (t path : List ℕ) (pieces : List (List ℕ)) → Fits t path pieces → length pieces ≡ params t
as_many [] path pieces fits = ap length fits.1
as_many (x ∷ t) path pieces fits = elim fits [
  | inl byte ↦
      let low : x < 128 = byte.0 in
      let other : (x == 256) ≡ false = ne_eqb x 256 (λ e. omega arith) in
      rw other (as_many t byte.1 pieces byte.3)
  | inr param ↦
      let is : (x == 256) ≡ true = eq-eqb x 256 param.0 in
      rw is (ap length param.5 ∙ ap suc (as_many t param.2 param.3 param.7))
]

-- a row of the table agrees with itself: what it was read from has the same bytes, and the same names at the same places
abbrev is_letter : ℕ → Bool
is_letter b = ltb b 128

abbrev is_name : List ℕ → Bool
is_name name = list_all is_letter name

abbrev agrees : List ℕ → List (List ℕ) → RouteOf (List ℕ) → Bool
agrees t places route = (bytes_eq (tokens_of places) t && are_literal places) && (pointwise bytes_eq (names_in places) (names_of route.text route.names) && list_all is_name (names_in places))

abbrev is_sound : List ℕ × RouteOf (List ℕ) → Bool
is_sound row =
    (bytes_eq row.0 row.1.pattern && bytes_eq row.1.text row.1.value)
    && ((is_plain row.0 && ltb (length row.0) 18446744073709551615) && ((length row.1.names == params row.0) && agrees row.0 (parts row.1.value) row.1))

rows_sound : list_all is_sound rows ≡ true
unfolding matchit_on_literals rows
rows_sound = refl

rows_plain : are_plain rows ≡ true
unfolding matchit_on_literals rows
rows_plain = refl

sound_row : (P : List ℕ → Type 0) (route : RouteOf (List ℕ)) (rs : Routed) → list_all is_sound rs ≡ true → HasRow P route rs → (t : List ℕ) × (is_sound (t, route) ≡ true) × P t
sound_row P route [] sound h = elim h [ ]
sound_row P route ((t, r) ∷ rs) sound h =
    let both = and_parts _ _ sound in
    elim h [
      | inl here ↦ (t, subst (λ (own : RouteOf (List ℕ)). is_sound (t, own) ≡ true) here.0 both.0, here.1)
      | inr later ↦ sound_row P route rs both.1 later
    ]

-- names in ASCII are texts
all_letters : (name : List ℕ) → is_name name ≡ true → All (λ b. b < 128) name
all_letters [] h = All-nil (λ b. b < 128)
all_letters (b ∷ name) h = let both = and_parts _ _ h in All-cons (λ b. b < 128) b name (ltb-true b 128 both.0) (all_letters name both.1)

name_is_text : (name : List ℕ) → is_name name ≡ true → is_utf8 name ≡ true
name_is_text name h = is_utf8-from_IsUtf8 name (IsUtf8-from_ascii name (IsAscii-from_all name (all_letters name h)))

all_texts : (names pieces : List (List ℕ)) → list_all is_name names ≡ true → AreTexts pieces → are_texts (zip names pieces) ≡ true
all_texts [] pieces h texts = refl
all_texts (name ∷ names) [] h texts = refl
all_texts (name ∷ names) (piece ∷ pieces) h texts =
    let both = and_parts _ _ h in
    let there = and_parts _ _ texts in
    and_from _ _ (and_from _ _ (name_is_text name both.0) there.0) (all_texts names pieces both.1 there.1)

abbrev Taken : RouteOf (List ℕ) → List ℕ → List (List ℕ × List ℕ)
Taken route path = walk route.pattern route.text path route.names 0 0

pub record IsTaken (route : RouteOf (List ℕ)) (path : List ℕ) : Type 0 where
  pub text : route.text ≡ route.value
  pub texts : are_texts (Taken route path) ≡ true
  pub pieces : (name : List ℕ) → named name (Taken route path) ≡ captured name route.text path

taken_by : (t : List ℕ) (route : RouteOf (List ℕ)) (path : List ℕ) → is_sound (t, route) ≡ true → FitsSome path t → IsUtf8 path → IsTaken route path
taken_by t route path sound fits text =
    let parts_of = and_parts _ _ sound in
    let same = and_parts _ _ parts_of.0 in
    let rest = and_parts _ _ parts_of.1 in
    let shape = and_parts _ _ rest.0 in
    let more = and_parts _ _ rest.1 in
    let agree = and_parts _ _ more.1 in
    let places = and_parts _ _ agree.0 in
    let names = and_parts _ _ agree.1 in
    let own : t ≡ route.pattern = (bytes_decides t route.pattern).0 same.0 in
    let written : route.text ≡ route.value = (bytes_decides route.text route.value).0 same.1 in
    let tokens : tokens_of (parts route.value) ≡ t = (bytes_decides _ _).0 places.0 in
    let listed : names_in (parts route.value) ≡ names_of route.text route.names = (pointwise_decides bytes_decides _ _).0 names.0 in
    let count : length route.names ≡ length fits.0 = eqb-true _ _ more.0 ∙ sym (as_many t path fits.0 fits.1) in
    let small : length route.pattern < 18446744073709551615 = subst (λ (p : List ℕ). length p < 18446744073709551615) own (ltb-true _ _ shape.1) in
    let walk_is : Taken route path ≡ zip (names_of route.text route.names) fits.0 =
    walked route.pattern route.text path t path fits.0 route.names 0 0 shape.0 fits.1 count (sym own) (ap length (sym own) ∙ sym (zero-add (length t))) refl (sym (zero-add (length path))) small in
    let taken : Taken route path ≡ zip (names_in (parts route.value)) fits.0 = walk_is ∙ ap (λ (ns : List (List ℕ)). zip ns fits.0) (sym listed) in
    record {
      text = written;
      texts = ap are_texts taken ∙ all_texts (names_in (parts route.value)) fits.0 names.1 (pieces_are_texts t path fits.0 shape.0 fits.1 text);
      pieces = λ name.
          ap (named name) taken
          ∙ sym (piece_named (parts route.value) path name fits.0 places.1 (subst (λ (ts : List ℕ). Fits ts path fits.0) (sym tokens) fits.1))
          ∙ ap (λ (r : List ℕ). captured name r path) (sym written);
    }

pub found_taken : (path : List ℕ) (route : RouteOf (List ℕ)) → IsUtf8 path → first rows path ≡ Some route → IsTaken route path
found_taken path route text found =
    let row = sound_row (FitsSome path) route rows rows_sound (fits_found path 0 rows route rows_plain found) in
    taken_by row.0 route path row.1 row.2 text

-- the same of a match
pub record IsRead (params : Params) (value : List ℕ) : Type 0 where
  pub texts : are_texts (taken params) ≡ true
  pub by_name : AreCaptured params
  pub text : params.text.now ≡ value

pub read_of : (params : Params) (path value : List ℕ) (router : Routed) → router ≡ rows → IsUtf8 path
    → first router path ≡ Some (record { pattern = params.pattern.now; text = params.text.now; names = params.names.now; value = value }) → params.path.now ≡ path → IsRead params value
read_of params path value router built text found same =
    let route : RouteOf (List ℕ) = record { pattern = params.pattern.now; text = params.text.now; names = params.names.now; value = value } in
    let at_rows : first rows params.path.now ≡ Some route = subst (λ (p : List ℕ). first rows p ≡ Some route) (sym same) (subst (λ (r : Routed). first r path ≡ Some route) built found) in
    let t = found_taken params.path.now route (subst IsUtf8 (sym same) text) at_rows in
    record { texts = t.texts; by_name = t.pieces; text = t.text }
