-- A route that the router finds fits the path: its bytes stand there, and each parameter takes a piece of it.
use Rattle.std.proofs.Common.{◌≡◌, ℕ, zero, suc, ◌-◌, ◌<◌, List, [], ◌∷◌, ◌++◌, length, drop, Option, Some, None, Bool, true, false, cond, refl, sym, ap, ◌∙◌, subst, arith, ltb, ◌==◌, ◌&&◌, ◌⊎◌, length-append, append-nil, nat_eq, inl, inr}
use Rattle.std.proofs.lemmas.Bool.{and_parts, and_from, and_right, cases_Bool, eqb-true, ltb-true, le-ltb}
use Rattle.std.proofs.lemmas.Bool.Decides.{nat_tests}
use Rattle.std.proofs.lemmas.List.{drop_all}
use Rattle.std.proofs.Math.Seq.{drop-append_seam}
use Rattle.std.specs.Cmp.Lexicographic.{pointwise}
use Rattle.matchit.specs.Rows.{RowsOf}
use Rattle.matchit.specs.Seek.{own, step, or_else, seek, segment, has_slash, cuts, better, longest_from, with_suffix, param_step, same_text}

-- the tokens stand for this path, and their parameters for these pieces of it
abbrev pub Fits : List ℕ → List ℕ → List (List ℕ) → Type 0
Fits [] path pieces = (path ≡ []) × (pieces ≡ [])
Fits (x ∷ t) path pieces =
    ((x < 128) × (rest : List ℕ) × (path ≡ x ∷ rest) × Fits t rest pieces)
    ⊎ ((x ≡ 256) × (piece : List ℕ) × (rest : List ℕ) × (more : List (List ℕ)) × (path ≡ piece ++ rest) × (pieces ≡ piece ∷ more) × (has_slash piece ≡ false) × Fits t rest more)

abbrev pub FitsSome : List ℕ → List ℕ → Type 0
FitsSome path t = (pieces : List (List ℕ)) × Fits t path pieces

-- a parameter is followed by a slash or by nothing, and everything else is a byte in ASCII
abbrev pub ends_piece : List ℕ → Bool
ends_piece [] = true
ends_piece (x ∷ t) = x == 47

abbrev pub is_plain : List ℕ → Bool
is_plain [] = true
is_plain (x ∷ t) = cond (x == 256) (ends_piece t) (ltb x 128) && is_plain t

abbrev pub are_plain : {K : Type 0} → RowsOf K → Bool
are_plain [] = true
are_plain ((t, k) ∷ rs) = is_plain t && are_plain rs

abbrev pub are_ends : {K : Type 0} → RowsOf K → Bool
are_ends [] = true
are_ends ((t, k) ∷ rs) = ends_piece t && are_ends rs

-- one of the rows has this key, and its tokens are like this
abbrev pub HasRow : {K : Type 0} → (List ℕ → Type 0) → K → RowsOf K → Type 0
HasRow P key [] = ⊥
HasRow P key ((t, k) ∷ rs) = ((k ≡ key) × P t) ⊎ HasRow P key rs

row_like : {K : Type 0} (P Q : List ℕ → Type 0) (key : K) (rs : RowsOf K) → ((t : List ℕ) → P t → Q t) → HasRow P key rs → HasRow Q key rs
row_like P Q key [] f h = h
row_like P Q key ((t, k) ∷ rs) f h = elim h [
  | inl here ↦ inl (here.0, f t here.1)
  | inr later ↦ inr (row_like P Q key rs f later)
]

row_before : {K : Type 0} (P Q : List ℕ → Type 0) (b : ℕ) (key : K) (rs : RowsOf K) → are_plain rs ≡ true → ((t : List ℕ) → is_plain (b ∷ t) ≡ true → P t → Q (b ∷ t)) → HasRow P key (step b rs) → HasRow Q key rs
row_before P Q b key [] plain f h = h
row_before P Q b key (([], k) ∷ rs) plain f h = inr (row_before P Q b key rs plain f h)
row_before P Q b key ((x ∷ t, k) ∷ rs) plain f h =
    let parts = and_parts _ _ plain in
    elim (cases_Bool (x == b)) [
      | inl same ↦
          let e : x ≡ b = eqb-true x b same in
          let hit : ((k ≡ key) × P t) ⊎ HasRow P key (step b rs) = rw same at h in
          elim hit [
            | inl here ↦ inl (here.0, subst (λ (y : ℕ). Q (y ∷ t)) (sym e) (f t (subst (λ (y : ℕ). is_plain (y ∷ t) ≡ true) e parts.0) here.1))
            | inr later ↦ inr (row_before P Q b key rs parts.1 f later)
          ]
      | inr other ↦
          let miss : HasRow P key (step b rs) = rw other at h in
          inr (row_before P Q b key rs parts.1 f miss)
    ]

row_with : {K : Type 0} (P : List ℕ → Type 0) (suffix : List ℕ) (key : K) (rs : RowsOf K) → HasRow P key (with_suffix suffix rs) → HasRow P key rs
row_with P suffix key [] h = h
row_with P suffix key ((t, k) ∷ rs) h = elim (cases_Bool (same_text (segment t) suffix)) [
  | inl same ↦
      let hit : ((k ≡ key) × P t) ⊎ HasRow P key (with_suffix suffix rs) = rw same at h in
      elim hit [
        | inl here ↦ inl here
        | inr later ↦ inr (row_with P suffix key rs later)
      ]
  | inr other ↦
      let miss : HasRow P key (with_suffix suffix rs) = rw other at h in
      inr (row_with P suffix key rs miss)
]

row_own : {K : Type 0} (key : K) (rs : RowsOf K) → own rs ≡ Some key → HasRow (λ t. t ≡ []) key rs
row_own key [] h = cc
row_own key (([], k) ∷ rs) h = let e : k ≡ key = cc in inl (e, refl)
row_own key ((x ∷ t, k) ∷ rs) h = inr (row_own key rs h)

-- plain rows stay plain
plain_step : {K : Type 0} (b : ℕ) (rs : RowsOf K) → are_plain rs ≡ true → are_plain (step b rs) ≡ true
plain_step b [] h = refl
plain_step b (([], k) ∷ rs) h = plain_step b rs h
plain_step b ((x ∷ t, k) ∷ rs) h =
    let parts = and_parts _ _ h in
    let tail = and_parts _ _ parts.0 in
    elim (cases_Bool (x == b)) [
      | inl same ↦ rw same (and_from _ _ tail.1 (plain_step b rs parts.1))
      | inr other ↦ rw other (plain_step b rs parts.1)
    ]

plain_with : {K : Type 0} (suffix : List ℕ) (rs : RowsOf K) → are_plain rs ≡ true → are_plain (with_suffix suffix rs) ≡ true
plain_with suffix [] h = refl
plain_with suffix ((t, k) ∷ rs) h =
    let parts = and_parts _ _ h in
    elim (cases_Bool (same_text (segment t) suffix)) [
      | inl same ↦ rw same (and_from _ _ parts.0 (plain_with suffix rs parts.1))
      | inr other ↦ rw other (plain_with suffix rs parts.1)
    ]

no_catch_all : {K : Type 0} (rs : RowsOf K) → are_plain rs ≡ true → step 257 rs ≡ []
no_catch_all [] h = refl
no_catch_all (([], k) ∷ rs) h = no_catch_all rs h
no_catch_all ((x ∷ t, k) ∷ rs) h =
    let parts = and_parts _ _ h in
    elim (cases_Bool (x == 257)) [
      | inl same ↦ let no : false ≡ true = subst (λ (y : ℕ). is_plain (y ∷ t) ≡ true) (eqb-true x 257 same) parts.0 in cc
      | inr other ↦ rw other (no_catch_all rs parts.1)
    ]

ends_after : {K : Type 0} (rs : RowsOf K) → are_plain rs ≡ true → are_ends (step 256 rs) ≡ true
ends_after [] h = refl
ends_after (([], k) ∷ rs) h = ends_after rs h
ends_after ((x ∷ t, k) ∷ rs) h =
    let parts = and_parts _ _ h in
    elim (cases_Bool (x == 256)) [
      | inl same ↦
          let head : is_plain (256 ∷ t) ≡ true = subst (λ (y : ℕ). is_plain (y ∷ t) ≡ true) (eqb-true x 256 same) parts.0 in
          rw same (and_from _ _ (and_parts _ _ head).0 (ends_after rs parts.1))
      | inr other ↦ rw other (ends_after rs parts.1)
    ]

-- the suffix behind a parameter is a slash or nothing
abbrev IsEnd : List ℕ → List ℕ → Type 0
IsEnd seg suffix = (suffix ≡ []) ⊎ ((suffix ≡ 47 ∷ []) × (cuts seg (47 ∷ []) ≡ true))

slash_segment : (x : ℕ) (t : List ℕ) → (x == 47) ≡ true → segment (x ∷ t) ≡ 47 ∷ []
slash_segment x t h = rw (eqb-true x 47 h) refl

better_nothing : (seg best : List ℕ) → better seg best [] ≡ best
better_nothing seg best = let none : ltb (length best) 0 ≡ false = le-ltb (length best) 0 (omega arith) in rw none refl

better_slash : (seg best : List ℕ) → IsEnd seg best → IsEnd seg (better seg best (47 ∷ []))
better_slash seg best h = elim (cases_Bool (ltb (length best) 1 && cuts seg (47 ∷ []))) [
  | inl longer ↦ rw longer (inr (refl, (and_parts _ _ longer).1))
  | inr other ↦ rw other h
]

longest_end : {K : Type 0} (seg best : List ℕ) (rs : RowsOf K) → are_ends rs ≡ true → IsEnd seg best → IsEnd seg (longest_from seg best rs)
longest_end seg best [] h e = e
longest_end seg best (([], k) ∷ rs) h e = longest_end seg (better seg best []) rs h (subst (IsEnd seg) (sym (better_nothing seg best)) e)
longest_end seg best ((x ∷ t, k) ∷ rs) h e =
    let parts = and_parts _ _ h in
    longest_end seg (better seg best (segment (x ∷ t))) rs parts.1
    (subst (λ (s : List ℕ). IsEnd seg (better seg best s)) (sym (slash_segment x t parts.0)) (better_slash seg best e))

-- the first piece of a path
segment_all : (piece : List ℕ) → has_slash piece ≡ false → segment piece ≡ piece
segment_all [] h = refl
segment_all (c ∷ cs) h = elim (cases_Bool (c == 47)) [
  | inl slash ↦ let no : true ≡ false = rw slash at h in cc
  | inr other ↦ let rest : has_slash cs ≡ false = rw other at h in rw other (ap (λ (xs : List ℕ). c ∷ xs) (segment_all cs rest))
]

pub segment_front : (piece rest : List ℕ) → has_slash piece ≡ false → segment (piece ++ 47 ∷ rest) ≡ piece ++ 47 ∷ []
segment_front [] rest h = refl
segment_front (c ∷ cs) rest h = elim (cases_Bool (c == 47)) [
  | inl slash ↦ let no : true ≡ false = rw slash at h in cc
  | inr other ↦ let later : has_slash cs ≡ false = rw other at h in rw other (ap (λ (xs : List ℕ). c ∷ xs) (segment_front cs rest later))
]

has_front : (piece rest : List ℕ) → has_slash (piece ++ 47 ∷ rest) ≡ true
has_front [] rest = refl
has_front (c ∷ cs) rest = elim (cases_Bool (c == 47)) [
  | inl slash ↦ rw slash refl
  | inr other ↦ rw other (has_front cs rest)
]

-- all of the path is one piece, or a piece comes before a slash
abbrev IsCut : List ℕ → Type 0
IsCut path = (has_slash path ≡ false) ⊎ ((piece : List ℕ) × (rest : List ℕ) × (path ≡ piece ++ 47 ∷ rest) × (has_slash piece ≡ false))

cut_first : (path : List ℕ) → IsCut path
cut_first [] = inl refl
cut_first (b ∷ p) = elim (cases_Bool (b == 47)) [
  | inl slash ↦ inr ([], p, ap (λ (x : ℕ). x ∷ p) (eqb-true b 47 slash), refl)
  | inr other ↦ elim (cut_first p) [
    | inl whole ↦ inl (rw other whole)
    | inr cut ↦ inr (b ∷ cut.0, cut.1, ap (λ (xs : List ℕ). b ∷ xs) cut.2, rw other cut.3)
  ]
]

less_one : (n : ℕ) → suc n - 1 ≡ n
less_one n = omega arith

last_other : (c : ℕ) (cs : List ℕ) → has_slash (c ∷ cs) ≡ false → pointwise nat_eq (47 ∷ []) (drop (length cs) (c ∷ cs)) ≡ false
last_other c [] h = elim (cases_Bool (c == 47)) [
  | inl slash ↦ let no : true ≡ false = rw slash at h in cc
  | inr other ↦ let apart : (47 == c) ≡ false = grind (arith, nat_tests) in rw apart refl
]
last_other c (d ∷ ds) h = elim (cases_Bool (c == 47)) [
  | inl slash ↦ let no : true ≡ false = rw slash at h in cc
  | inr other ↦ let rest : has_slash (d ∷ ds) ≡ false = rw other at h in last_other d ds rest
]

never_cuts : (c : ℕ) (cs : List ℕ) → has_slash (c ∷ cs) ≡ false → cuts (c ∷ cs) (47 ∷ []) ≡ false
never_cuts c cs h = rw (less_one (length cs)) (and_right (ltb 1 (suc (length cs))) _ (last_other c cs h))

-- a parameter takes a piece of the path, and the rows that go on are some of its rows
abbrev Goes : {K : Type 0} → RowsOf K → List ℕ → ℕ × RowsOf K → Type 0
Goes rs path taken =
    (taken.1 ≡ [])
    ⊎ ((piece : List ℕ) × (rest : List ℕ) × (path ≡ piece ++ rest) × (has_slash piece ≡ false) × (0 < length piece) × (taken.0 ≡ length piece) × ((taken.1 ≡ rs) ⊎ (taken.1 ≡ with_suffix (47 ∷ []) rs)))

param_is : {K : Type 0} (rs : RowsOf K) (path seg longest : List ℕ) → segment path ≡ seg → longest_from seg [] rs ≡ longest
    → param_step rs path ≡ cond (ltb 0 (length longest)) (length seg - length longest, with_suffix longest rs) (cond (has_slash path) (0, []) (length path, rs))
unfolding param_step
param_is {K} rs path seg longest e l = rw (e, l) refl

param_goes : {K : Type 0} (rs : RowsOf K) (b : ℕ) (p : List ℕ) → are_ends rs ≡ true → Goes rs (b ∷ p) (param_step rs (b ∷ p))
param_goes {K} rs b p ends = elim (cut_first (b ∷ p)) [
  | inl whole ↦ elim (longest_end (b ∷ p) [] rs ends (inl refl)) [
    | inl none ↦
        let taken : param_step rs (b ∷ p) ≡ (length (b ∷ p), rs) = param_is rs (b ∷ p) (b ∷ p) [] (segment_all (b ∷ p) whole) none ∙ rw whole refl in
        rw taken (inr (b ∷ p, [], sym (append-nil (b ∷ p)), whole, omega arith, refl, inl refl))
    | inr slash ↦ let no : false ≡ true = rw (never_cuts b p whole) at slash.1 in cc
  ]
  | inr cut ↦
      let seg : segment (b ∷ p) ≡ cut.0 ++ 47 ∷ [] = ap segment cut.2 ∙ segment_front cut.0 cut.1 cut.3 in
      let has : has_slash (b ∷ p) ≡ true = ap has_slash cut.2 ∙ has_front cut.0 cut.1 in
      elim (longest_end (cut.0 ++ 47 ∷ []) [] rs ends (inl refl)) [
        | inl none ↦
            let taken : param_step rs (b ∷ p) ≡ (0, []) = param_is rs (b ∷ p) (cut.0 ++ 47 ∷ []) [] seg none ∙ rw has refl in
            rw taken (inl refl)
        | inr slash ↦
            let size : length (cut.0 ++ 47 ∷ []) ≡ suc (length cut.0) = length-append cut.0 (47 ∷ []) ∙ omega arith in
            let long : 1 < length (cut.0 ++ 47 ∷ []) = ltb-true _ _ (and_parts _ _ slash.1).0 in
            let some : 0 < length cut.0 = omega arith in
            let taken : param_step rs (b ∷ p) ≡ (length (cut.0 ++ 47 ∷ []) - 1, with_suffix (47 ∷ []) rs) = param_is rs (b ∷ p) (cut.0 ++ 47 ∷ []) (47 ∷ []) seg slash.0 in
            let count : length (cut.0 ++ 47 ∷ []) - 1 ≡ length cut.0 = omega arith in
            rw taken (inr (cut.0, 47 ∷ cut.1, cut.2, cut.3, some, count, inr refl))
      ]
]

no_param : {K : Type 0} (p : List ℕ) → (param_step {K = K} [] p).1 ≡ []
unfolding param_step
no_param {K} p =
    elim (has_slash p) as (λ v. (cond {A = ℕ × RowsOf K} v (0, []) (length p, [])).1 ≡ []) [
      | true ↦ refl
      | false ↦ refl
    ]

seek_nothing : {K : Type 0} (skip : ℕ) (p : List ℕ) → seek {K = K} skip [] p ≡ None
unfolding seek
seek_nothing skip [] = refl
seek_nothing (suc skip) (b ∷ p) = seek_nothing skip p
seek_nothing {K} zero (b ∷ p) = rw (seek_nothing {K = K} 0 p, no_param {K = K} (b ∷ p), seek_nothing {K = K} (((param_step {K = K} [] (b ∷ p)).0) - 1) p) refl

one_found : {K : Type 0} (first second : Option K) (key : K) → or_else first second ≡ Some key → (first ≡ Some key) ⊎ (second ≡ Some key)
one_found None second key h = inr h
one_found (Some k) second key h = inl h

byte_fits : (b : ℕ) (p t : List ℕ) → is_plain (b ∷ t) ≡ true → FitsSome p t → FitsSome (b ∷ p) (b ∷ t)
byte_fits b p t plain f = elim (cases_Bool (b == 256)) [
  | inl same ↦
      let e : b ≡ 256 = eqb-true b 256 same in
      let apart : (b == 47) ≡ false = rw e refl in
      ((b ∷ []) ∷ f.0, inr (e, b ∷ [], p, f.0, refl, refl, rw apart refl, f.1))
  | inr other ↦
      let here : cond (b == 256) (ends_piece t) (ltb b 128) ≡ true = (and_parts _ _ plain).0 in
      let low : ltb b 128 ≡ true = rw other at here in
      (f.0, inl (ltb-true b 128 low, p, refl, f.1))
]

param_fits : (path piece rest t : List ℕ) → path ≡ piece ++ rest → has_slash piece ≡ false → FitsSome rest t → FitsSome path (256 ∷ t)
param_fits path piece rest t e whole f = (piece ∷ f.0, inr (refl, piece, rest, f.0, e, refl, whole, f.1))

rest_of : (b : ℕ) (p piece rest : List ℕ) → b ∷ p ≡ piece ++ rest → 0 < length piece → drop (length piece - 1) p ≡ rest
rest_of b p [] rest e some = elim some [ ]
rest_of b p (c ∷ cs) rest e some =
    let tail : p ≡ cs ++ rest = ap (drop 1) e in
    rw (less_one (length cs), tail) (drop-append_seam cs rest)

-- the rows that go on behind a parameter
abbrev GoOn : {K : Type 0} → RowsOf K → RowsOf K → Type 0
GoOn rs after = (after ≡ rs) ⊎ (after ≡ with_suffix (47 ∷ []) rs)

plain_after : {K : Type 0} (rs after : RowsOf K) → are_plain rs ≡ true → GoOn rs after → are_plain after ≡ true
plain_after rs after plain which = elim which [
  | inl all ↦ rw all plain
  | inr some ↦ rw some (plain_with (47 ∷ []) rs plain)
]

row_after : {K : Type 0} (P : List ℕ → Type 0) (key : K) (rs after : RowsOf K) → GoOn rs after → HasRow P key after → HasRow P key rs
row_after {K} P key rs after which h = elim which [
  | inl all ↦ subst (λ (r : RowsOf K). HasRow P key r) all h
  | inr some ↦ row_with P (47 ∷ []) key rs (subst (λ (r : RowsOf K). HasRow P key r) some h)
]

pub fits_found : {K : Type 0} (path : List ℕ) (skip : ℕ) (rs : RowsOf K) (key : K) → are_plain rs ≡ true → seek skip rs path ≡ Some key → HasRow (FitsSome (drop skip path)) key rs
unfolding seek
fits_found [] skip rs key plain h =
    row_like (λ t. t ≡ []) (FitsSome (drop skip [])) key rs (λ t e. subst (FitsSome (drop skip [])) (sym e) ([], (drop_all skip [] (omega arith), refl))) (row_own key rs h)
fits_found (b ∷ p) (suc skip) rs key plain h = fits_found p skip rs key plain h
fits_found {K} (b ∷ p) zero rs key plain h =
    let skip : ℕ = (param_step (step 256 rs) (b ∷ p)).0 - 1 in
    let after : RowsOf K = (param_step (step 256 rs) (b ∷ p)).1 in
    elim (one_found (seek 0 (step b rs) p) (or_else (seek skip after p) (own (step 257 rs))) key h) [
      | inl literal ↦ row_before (FitsSome p) (FitsSome (b ∷ p)) b key rs plain (byte_fits b p) (fits_found p 0 (step b rs) key (plain_step b rs plain) literal)
      | inr others ↦ elim (one_found (seek skip after p) (own (step 257 rs)) key others) [
        | inl param ↦ elim (param_goes (step 256 rs) b p (ends_after rs plain)) [
          | inl none ↦
              let no : None ≡ Some key = sym (seek_nothing {K = K} skip p) ∙ subst (λ (r : RowsOf K). seek skip r p ≡ Some key) none param in
              cc
          | inr goes ↦
              let ends : drop skip p ≡ goes.1 = ap (λ (n : ℕ). drop (n - 1) p) goes.5 ∙ rest_of b p goes.0 goes.1 goes.2 goes.4 in
              let later : HasRow (FitsSome (drop skip p)) key after = fits_found p skip after key (plain_after (step 256 rs) after (plain_step 256 rs plain) goes.6) param in
              row_before (FitsSome goes.1) (FitsSome (b ∷ p)) 256 key rs plain (λ t _ f. param_fits (b ∷ p) goes.0 goes.1 t goes.2 goes.3 f)
              (row_after (FitsSome goes.1) key (step 256 rs) after goes.6 (subst (λ (r : List ℕ). HasRow (FitsSome r) key after) ends later))
        ]
        | inr catch_all ↦
            let no : None ≡ Some key = subst (λ (r : RowsOf K). own r ≡ Some key) (no_catch_all rs plain) catch_all in
            cc
      ]
    ]
