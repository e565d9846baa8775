-- The pieces that a route's parameters take are those where the route has their names in braces.
use Rattle.std.proofs.Common.{◌≡◌, ℕ, ◌-◌, ◌<◌, List, [], ◌∷◌, ◌++◌, length, take, drop, find, zip, codes, Option, Some, None, option_map, Bool, true, false, not, cond, refl, sym, ap, ◌∙◌, subst, arith, ltb, nat_eq, ◌==◌, ◌&&◌, ◌⊎◌, bytes_eq, append-nil, All, inl, inr}
use Rattle.std.specs.List.{list_all, starts_with, ends_with}
use Rattle.std.proofs.lemmas.Bool.{and_parts, cases_Bool, ltb-true, not-true}
use Rattle.std.proofs.lemmas.List.Elements.{All-nil, All-cons}
use Rattle.std.proofs.lemmas.List.Splits.{slice_split_none, slice_split_at}
use Rattle.matchit.specs.Seek.{has_slash}
use Rattle.matchit.specs.Params.{named}
use Rattle.ebs_members.specs.Sources.{parts, is_place}
use Rattle.ebs_rest.proofs.Fitting.{Fits}

-- the name that stands in braces
abbrev closed_name : Bool → List ℕ → Option (List ℕ)
closed_name true rest = Some (take (length rest - 1) rest)
closed_name false rest = None

abbrev opened_name : Bool → List ℕ → Option (List ℕ)
opened_name true place = closed_name (ends_with nat_eq (drop 1 place) (codes "}")) (drop 1 place)
opened_name false place = None

abbrev pub name_of : List ℕ → Option (List ℕ)
name_of place = opened_name (starts_with nat_eq place (codes "{")) place

abbrev on_name : Option (List ℕ) → List (List ℕ) → List (List ℕ)
on_name None names = names
on_name (Some name) names = name ∷ names

abbrev pub names_in : List (List ℕ) → List (List ℕ)
names_in [] = []
names_in (place ∷ places) = on_name (name_of place) (names_in places)

-- the tokens of a route of these places
abbrev place_tokens : Option (List ℕ) → List ℕ → List ℕ
place_tokens None place = place
place_tokens (Some name) place = 256 ∷ []

abbrev pub tokens_of : List (List ℕ) → List ℕ
tokens_of [] = []
tokens_of (place ∷ []) = place_tokens (name_of place) place
tokens_of (place ∷ next ∷ places) = place_tokens (name_of place) place ++ 47 ∷ tokens_of (next ∷ places)

-- what isn't a name is in ASCII
abbrev is_literal : ℕ → Bool
is_literal b = not (b == 47) && ltb b 128

abbrev is_literal_place : Option (List ℕ) → List ℕ → Bool
is_literal_place None place = list_all is_literal place
is_literal_place (Some name) place = true

abbrev pub are_literal : List (List ℕ) → Bool
are_literal [] = true
are_literal (place ∷ places) = is_literal_place (name_of place) place && are_literal places

no_place : (name place : List ℕ) → name_of place ≡ None → is_place name place ≡ false
no_place name place h = elim (cases_Bool (starts_with nat_eq place (codes "{"))) [
  | inl opens ↦ elim (cases_Bool (ends_with nat_eq (drop 1 place) (codes "}"))) [
    | inl closes ↦ let no : Some (take (length (drop 1 place) - 1) (drop 1 place)) ≡ None = rw (opens, closes) at h in cc
    | inr other ↦ rw (opens, other) refl
  ]
  | inr other ↦ rw other refl
]

its_place : (name place own : List ℕ) → name_of place ≡ Some own → is_place name place ≡ bytes_eq own name
its_place name place own h = elim (cases_Bool (starts_with nat_eq place (codes "{"))) [
  | inl opens ↦ elim (cases_Bool (ends_with nat_eq (drop 1 place) (codes "}"))) [
    | inl closes ↦
        let is : Some (take (length (drop 1 place) - 1) (drop 1 place)) ≡ Some own = rw (opens, closes) at h in
        let e : take (length (drop 1 place) - 1) (drop 1 place) ≡ own = cc in
        rw (opens, closes) (ap (λ (text : List ℕ). bytes_eq text name) e)
    | inr other ↦ let no : None ≡ Some own = rw (opens, other) at h in cc
  ]
  | inr other ↦ let no : None ≡ Some own = rw other at h in cc
]

abbrev IsNamed : List ℕ → Type 0
IsNamed place = (name_of place ≡ None) ⊎ ((name : List ℕ) × (name_of place ≡ Some name))

name_cases : (found : Option (List ℕ)) → (found ≡ None) ⊎ ((name : List ℕ) × (found ≡ Some name))
name_cases None = inl refl
name_cases (Some name) = inr (name, refl)

-- bytes that stand in front of a path
fits_front : (place t path : List ℕ) (pieces : List (List ℕ)) → list_all is_literal place ≡ true → Fits (place ++ t) path pieces → (rest : List ℕ) × (path ≡ place ++ rest) × Fits t rest pieces
fits_front [] t path pieces h fits = (path, refl, fits)
fits_front (x ∷ place) t path pieces h fits =
    let parts = and_parts _ _ h in
    elim fits [
      | inl byte ↦
          let later = fits_front place t byte.1 pieces parts.1 byte.3 in
          (later.0, byte.2 ∙ ap (λ (xs : List ℕ). x ∷ xs) later.1, later.2)
      | inr param ↦
          let small : ltb x 128 ≡ true = (and_parts (not (x == 47)) (ltb x 128) parts.0).1 in
          let low : x < 128 = ltb-true x 128 small in
          let big : x ≡ 256 = param.0 in
          absurd (omega arith)
    ]

without_slash : (place : List ℕ) → list_all is_literal place ≡ true → All (λ b. (b == 47) ≡ false) place
without_slash [] h = All-nil (λ b. (b == 47) ≡ false)
without_slash (b ∷ place) h =
    let parts = and_parts _ _ h in
    All-cons (λ b. (b == 47) ≡ false) b place (not-true (b == 47) (and_parts _ _ parts.0).0) (without_slash place parts.1)

no_slash : (piece : List ℕ) → has_slash piece ≡ false → All (λ b. (b == 47) ≡ false) piece
no_slash [] h = All-nil (λ b. (b == 47) ≡ false)
no_slash (b ∷ piece) h = elim (cases_Bool (b == 47)) [
  | inl slash ↦ let no : true ≡ false = rw slash at h in cc
  | inr other ↦ let rest : has_slash piece ≡ false = rw other at h in All-cons (λ b. (b == 47) ≡ false) b piece other (no_slash piece rest)
]

last_part : (path piece : List ℕ) → path ≡ piece → All (λ b. (b == 47) ≡ false) piece → parts path ≡ piece ∷ []
last_part path piece e all = ap parts e ∙ slice_split_none (λ b. b == 47) piece all

first_part : (path piece rest : List ℕ) → path ≡ piece ++ 47 ∷ rest → All (λ b. (b == 47) ≡ false) piece → parts path ≡ piece ∷ parts rest
first_part path piece rest e all = ap parts e ∙ slice_split_at (λ b. b == 47) piece 47 rest all refl

-- the piece at the place of this name
abbrev Pairs : Type 0
Pairs = List (List ℕ × List ℕ)

abbrev piece_at : List ℕ → Pairs → Option (List ℕ)
piece_at name pairs = option_map (λ p. p.1) (find (λ p. is_place name p.0) pairs)

past_literal : (name place piece : List ℕ) (pairs : Pairs) → name_of place ≡ None → piece_at name ((place, piece) ∷ pairs) ≡ piece_at name pairs
past_literal name place piece pairs none =
    ap (λ (b : Bool). option_map (λ (p : List ℕ × List ℕ). p.1) (cond b (Some (place, piece)) (find (λ (p : List ℕ × List ℕ). is_place name p.0) pairs))) (no_place name place none)

at_param : (name place piece own : List ℕ) (pairs : Pairs) (found : Option (List ℕ)) → name_of place ≡ Some own → piece_at name pairs ≡ found
    → piece_at name ((place, piece) ∷ pairs) ≡ cond (bytes_eq own name) (Some piece) found
at_param name place piece own pairs found is later =
    ap (λ (b : Bool). option_map (λ (p : List ℕ × List ℕ). p.1) (cond b (Some (place, piece)) (find (λ (p : List ℕ × List ℕ). is_place name p.0) pairs))) (its_place name place own is)
    ∙ picked
  where
    picked : option_map (λ (p : List ℕ × List ℕ). p.1) (cond (bytes_eq own name) (Some (place, piece)) (find (λ (p : List ℕ × List ℕ). is_place name p.0) pairs)) ≡ cond (bytes_eq own name) (Some piece) found
    picked = elim (cases_Bool (bytes_eq own name)) [
      | inl same ↦ rw same refl
      | inr other ↦ rw other later
    ]

-- behind a slash in the tokens
apart : (x : ℕ) → x ≡ 47 → x ≡ 256 → ⊥
apart x e f = omega arith

past_slash : (t rest : List ℕ) (pieces : List (List ℕ)) → Fits (47 ∷ t) rest pieces → (later : List ℕ) × (rest ≡ 47 ∷ later) × Fits t later pieces
past_slash t rest pieces fits = elim fits [
  | inl byte ↦ (byte.1, byte.2, byte.3)
  | inr param ↦ absurd (apart 47 refl param.0)
]

pub piece_named : (places : List (List ℕ)) (path name : List ℕ) (pieces : List (List ℕ)) → are_literal places ≡ true → Fits (tokens_of places) path pieces
    → piece_at name (zip places (parts path)) ≡ named name (zip (names_in places) pieces)
piece_named [] path name pieces literal fits = refl
piece_named (place ∷ []) path name pieces literal fits = elim (name_cases (name_of place)) [
  | inl none ↦
      let plain : list_all is_literal place ≡ true = subst (λ (o : Option (List ℕ)). is_literal_place o place ≡ true) none (and_parts _ _ literal).0 in
      let here : Fits (place ++ []) path pieces = subst (λ (t : List ℕ). Fits t path pieces) (sym (append-nil place)) (subst (λ (o : Option (List ℕ)). Fits (place_tokens o place) path pieces) none fits) in
      let front = fits_front place [] path pieces plain here in
      let whole : path ≡ place = front.1 ∙ ap (λ (r : List ℕ). place ++ r) front.2.0 ∙ append-nil place in
      ap (λ (ps : List (List ℕ)). piece_at name (zip (place ∷ []) ps)) (last_part path place whole (without_slash place plain))
      ∙ past_literal name place place [] none
      ∙ sym (ap (λ (o : Option (List ℕ)). named name (zip (on_name o []) pieces)) none)
  | inr own ↦ elim (subst (λ (o : Option (List ℕ)). Fits (place_tokens o place) path pieces) own.1 fits) [
    | inl byte ↦ let no : 256 < 128 = byte.0 in absurd (omega arith)
    | inr param ↦
        let whole : path ≡ param.1 = param.4 ∙ ap (λ (r : List ℕ). param.1 ++ r) param.7.0 ∙ append-nil param.1 in
        ap (λ (ps : List (List ℕ)). piece_at name (zip (place ∷ []) ps)) (last_part path param.1 whole (no_slash param.1 param.6))
        ∙ at_param name place param.1 own.0 [] None own.1 refl
        ∙ sym (ap (λ (ps : List (List ℕ)). named name (zip (own.0 ∷ []) ps)) param.5)
        ∙ sym (ap (λ (o : Option (List ℕ)). named name (zip (on_name o []) pieces)) own.1)
  ]
]
piece_named (place ∷ next ∷ places) path name pieces literal fits =
    let parts_ok = and_parts _ _ literal in
    elim (name_cases (name_of place)) [
      | inl none ↦
          let plain : list_all is_literal place ≡ true = subst (λ (o : Option (List ℕ)). is_literal_place o place ≡ true) none parts_ok.0 in
          let here : Fits (place ++ 47 ∷ tokens_of (next ∷ places)) path pieces = subst (λ (o : Option (List ℕ)). Fits (place_tokens o place ++ 47 ∷ tokens_of (next ∷ places)) path pieces) none fits in
          let front = fits_front place (47 ∷ tokens_of (next ∷ places)) path pieces plain here in
          let slash = past_slash (tokens_of (next ∷ places)) front.0 pieces front.2 in
          let cut : path ≡ place ++ 47 ∷ slash.0 = front.1 ∙ ap (λ (r : List ℕ). place ++ r) slash.1 in
          ap (λ (ps : List (List ℕ)). piece_at name (zip (place ∷ next ∷ places) ps)) (first_part path place slash.0 cut (without_slash place plain))
          ∙ past_literal name place place (zip (next ∷ places) (parts slash.0)) none
          ∙ piece_named (next ∷ places) slash.0 name pieces parts_ok.1 slash.2
          ∙ sym (ap (λ (o : Option (List ℕ)). named name (zip (on_name o (names_in (next ∷ places))) pieces)) none)
      | inr own ↦ elim (subst (λ (o : Option (List ℕ)). Fits (place_tokens o place ++ 47 ∷ tokens_of (next ∷ places)) path pieces) own.1 fits) [
        | inl byte ↦ let no : 256 < 128 = byte.0 in absurd (omega arith)
        | inr param ↦
            let slash = past_slash (tokens_of (next ∷ places)) param.2 param.3 param.7 in
            let cut : path ≡ param.1 ++ 47 ∷ slash.0 = param.4 ∙ ap (λ (r : List ℕ). param.1 ++ r) slash.1 in
            ap (λ (ps : List (List ℕ)). piece_at name (zip (place ∷ next ∷ places) ps)) (first_part path param.1 slash.0 cut (no_slash param.1 param.6))
            ∙ at_param name place param.1 own.0 (zip (next ∷ places) (parts slash.0)) (named name (zip (names_in (next ∷ places)) param.3)) own.1 (piece_named (next ∷ places) slash.0 name param.3 parts_ok.1 slash.2)
            ∙ sym (ap (λ (ps : List (List ℕ)). named name (zip (own.0 ∷ names_in (next ∷ places)) ps)) param.5)
            ∙ sym (ap (λ (o : Option (List ℕ)). named name (zip (on_name o (names_in (next ∷ places))) pieces)) own.1)
      ]
    ]
