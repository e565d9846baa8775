-- The router's search over a path of which a piece isn't known: what it finds depends on the pieces that are.
use Rattle.std.proofs.Common.{◌≡◌, ℕ, zero, suc, ◌-◌, List, [], ◌∷◌, ◌++◌, length, drop, Option, Some, None, Bool, true, false, cond, refl, sym, ap, ◌∙◌, arith, nat_eq, ltb, ◌==◌, ◌&&◌, length-append, append-nil, inl, inr}
use Rattle.std.proofs.lemmas.Bool.{and_parts, cases_Bool, eqb-true}
use Rattle.std.proofs.lemmas.Bool.Decides.{nat_tests}
use Rattle.std.proofs.Math.Seq.{drop-append_seam}
use Rattle.std.specs.Cmp.Lexicographic.{pointwise}
use Rattle.matchit.specs.Rows.{RowsOf}
use Rattle.matchit.specs.Seek.{own, step, or_else, seek, segment, has_slash, cuts, longest_from, with_suffix, param_step}

none_else : {K : Type 0} (a : Option K) → or_else a None ≡ a
none_else None = refl
none_else (Some k) = refl

no_param : {K : Type 0} (p : List ℕ) → (param_step {K = K} [] p).1 ≡ []
unfolding param_step
no_param {K} p =
    elim (has_slash p) as (λ v. (cond {A = ℕ × RowsOf K} v (0, []) (length p, [])).1 ≡ []) [
      | true ↦ refl
      | false ↦ refl
    ]

pub seek_none : {K : Type 0} (k : ℕ) (p : List ℕ) → seek {K = K} k [] p ≡ None
unfolding seek
seek_none k [] = refl
seek_none (suc k) (b ∷ p) = seek_none k p
seek_none {K} zero (b ∷ p) = rw (seek_none {K = K} 0 p, no_param {K = K} (b ∷ p), seek_none {K = K} (((param_step {K = K} [] (b ∷ p)).0) - 1) p) refl

seek_drop : {K : Type 0} (k : ℕ) (r : RowsOf K) (p : List ℕ) → seek k r p ≡ seek 0 r (drop k p)
unfolding seek
seek_drop zero r p = refl
seek_drop (suc k) r [] = refl
seek_drop (suc k) r (b ∷ p) = seek_drop k r p

-- the rows that go on after these bytes
abbrev pub walk : {K : Type 0} → List ℕ → RowsOf K → RowsOf K
walk [] rs = rs
walk (b ∷ bs) rs = walk bs (step b rs)

abbrev pub is_none : {K : Type 0} → RowsOf K → Bool
is_none [] = true
is_none (r ∷ rs) = false

-- no row has a parameter in the place of one of these bytes
abbrev pub is_plain : {K : Type 0} → List ℕ → RowsOf K → Bool
is_plain [] rs = true
is_plain (b ∷ bs) rs = (is_none (step 256 rs) && is_none (step 257 rs)) && is_plain bs (step b rs)

none_is : {K : Type 0} (rs : RowsOf K) → is_none rs ≡ true → rs ≡ []
none_is [] h = refl
none_is (r ∷ rs) h = cc

seek_byte : {K : Type 0} (b : ℕ) (p : List ℕ) (rs : RowsOf K) → step 256 rs ≡ [] → step 257 rs ≡ [] → seek 0 rs (b ∷ p) ≡ seek 0 (step b rs) p
unfolding seek
seek_byte {K} b p rs e f =
    rw (e, f, no_param {K = K} (b ∷ p), seek_none {K = K} (((param_step {K = K} [] (b ∷ p)).0) - 1) p) (none_else (seek 0 (step b rs) p))

pub seek_walk : {K : Type 0} (w p : List ℕ) (rs : RowsOf K) → is_plain w rs ≡ true → seek 0 rs (w ++ p) ≡ seek 0 (walk w rs) p
seek_walk [] p rs h = refl
seek_walk (b ∷ w) p rs h =
    let parts = and_parts _ _ h in
    let here = and_parts _ _ parts.0 in
    seek_byte b (w ++ p) rs (none_is (step 256 rs) here.0) (none_is (step 257 rs) here.1) ∙ seek_walk w p (step b rs) parts.1

-- what follows the parameter in each row is nothing, or begins with a slash
abbrev pub are_whole : {K : Type 0} → RowsOf K → Bool
are_whole [] = true
are_whole (([], k) ∷ rs) = are_whole rs
are_whole ((x ∷ t, k) ∷ rs) = (x == 47) && are_whole rs

abbrev pub any_longer : {K : Type 0} → RowsOf K → Bool
any_longer [] = false
any_longer (([], k) ∷ rs) = any_longer rs
any_longer ((x ∷ t, k) ∷ rs) = true

slash_segment : (x : ℕ) (t : List ℕ) → (x == 47) ≡ true → segment (x ∷ t) ≡ 47 ∷ []
slash_segment x t h = rw (eqb-true x 47 h) refl

still_slash : {K : Type 0} (seg : List ℕ) (rs : RowsOf K) → are_whole rs ≡ true → longest_from seg (47 ∷ []) rs ≡ 47 ∷ []
still_slash seg [] h = refl
still_slash seg (([], k) ∷ rs) h = still_slash seg rs h
still_slash seg ((x ∷ t, k) ∷ rs) h =
    let parts = and_parts _ _ h in
    rw (slash_segment x t parts.0) (still_slash seg rs parts.1)

some_slash : {K : Type 0} (seg : List ℕ) (rs : RowsOf K) → are_whole rs ≡ true → any_longer rs ≡ true → cuts seg (47 ∷ []) ≡ true → longest_from seg [] rs ≡ 47 ∷ []
some_slash seg [] h some at = cc
some_slash seg (([], k) ∷ rs) h some at = some_slash seg rs h some at
some_slash seg ((x ∷ t, k) ∷ rs) h some at =
    let parts = and_parts _ _ h in
    rw (slash_segment x t parts.0, at) (still_slash seg rs parts.1)

no_slash : {K : Type 0} (seg : List ℕ) (rs : RowsOf K) → are_whole rs ≡ true → cuts seg (47 ∷ []) ≡ false → longest_from seg [] rs ≡ []
no_slash seg [] h at = refl
no_slash seg (([], k) ∷ rs) h at = no_slash seg rs h at
no_slash seg ((x ∷ t, k) ∷ rs) h at =
    let parts = and_parts _ _ h in
    rw (slash_segment x t parts.0, at) (no_slash seg rs parts.1 at)

-- a slash after a piece cuts it off
one_less : (n : ℕ) → suc n - 1 ≡ n
one_less n = omega arith

cuts_slash : (c : ℕ) (cs : List ℕ) → cuts (c ∷ (cs ++ 47 ∷ [])) (47 ∷ []) ≡ true
cuts_slash c cs =
    let size : length (cs ++ 47 ∷ []) ≡ suc (length cs) = length-append cs (47 ∷ []) ∙ omega arith in
    let long : ltb 1 (suc (suc (length cs))) ≡ true = grind arith in
    rw (size, long, one_less (suc (length cs)), drop-append_seam cs (47 ∷ [])) refl

last_other : (c : ℕ) (cs : List ℕ) → has_slash (c ∷ cs) ≡ false → pointwise nat_eq (47 ∷ []) (drop (length cs) (c ∷ cs)) ≡ false
last_other c [] h = elim (cases_Bool (c == 47)) [
  | inl at ↦ let no : true ≡ false = rw at at h in cc
  | inr other ↦ let apart : (47 == c) ≡ false = grind (arith, nat_tests) in rw apart refl
]
last_other c (d ∷ ds) h = elim (cases_Bool (c == 47)) [
  | inl at ↦ let no : true ≡ false = rw at at h in cc
  | inr other ↦ let rest : has_slash (d ∷ ds) ≡ false = rw other at h in last_other d ds rest
]

and_false : (a b : Bool) → b ≡ false → (a && b) ≡ false
and_false true b h = h
and_false false b h = refl

never_cuts : (c : ℕ) (cs : List ℕ) → has_slash (c ∷ cs) ≡ false → cuts (c ∷ cs) (47 ∷ []) ≡ false
never_cuts c cs h = rw (one_less (length cs)) (and_false (ltb 1 (suc (length cs))) _ (last_other c cs h))

segment_all : (cs : List ℕ) → has_slash cs ≡ false → segment cs ≡ cs
segment_all [] h = refl
segment_all (c ∷ cs) h = elim (cases_Bool (c == 47)) [
  | inl at ↦ let no : true ≡ false = rw at at h in cc
  | inr other ↦ let rest : has_slash cs ≡ false = rw other at h in rw other (ap (λ xs. c ∷ xs) (segment_all cs rest))
]

segment_front : (cs rest : List ℕ) → has_slash cs ≡ false → segment (cs ++ 47 ∷ rest) ≡ cs ++ 47 ∷ []
segment_front [] rest h = refl
segment_front (c ∷ cs) rest h = elim (cases_Bool (c == 47)) [
  | inl at ↦ let no : true ≡ false = rw at at h in cc
  | inr other ↦ let later : has_slash cs ≡ false = rw other at h in rw other (ap (λ xs. c ∷ xs) (segment_front cs rest later))
]

-- a last piece is a parameter
step_last : {K : Type 0} (c : ℕ) (cs : List ℕ) (rs : RowsOf K) → are_whole rs ≡ true → has_slash (c ∷ cs) ≡ false → param_step rs (c ∷ cs) ≡ (length (c ∷ cs), rs)
unfolding param_step
step_last c cs rs whole h = rw (segment_all (c ∷ cs) h, no_slash (c ∷ cs) rs whole (never_cuts c cs h), h) refl

pub seek_last : {K : Type 0} (c : ℕ) (cs : List ℕ) (rs : RowsOf K) → step c rs ≡ [] → step 257 rs ≡ [] → are_whole (step 256 rs) ≡ true → has_slash (c ∷ cs) ≡ false
    → seek 0 rs (c ∷ cs) ≡ own (step 256 rs)
unfolding seek
seek_last {K} c cs rs e f whole h =
    let all : drop (length cs) cs ≡ [] = ap (drop (length cs)) (sym (append-nil cs)) ∙ drop-append_seam cs [] in
    let rest : seek (length cs) (step 256 rs) cs ≡ own (step 256 rs) = seek_drop (length cs) (step 256 rs) cs ∙ ap (seek 0 (step 256 rs)) all in
    rw (e, f, step_last c cs (step 256 rs) whole h, seek_none {K = K} 0 cs, one_less (length cs), rest) (none_else (own (step 256 rs)))

-- a piece before a slash is a parameter
step_front : {K : Type 0} (c : ℕ) (cs rest : List ℕ) (rs : RowsOf K) → are_whole rs ≡ true → any_longer rs ≡ true → has_slash (c ∷ cs) ≡ false
    → param_step rs (c ∷ (cs ++ 47 ∷ rest)) ≡ (length (c ∷ cs), with_suffix (47 ∷ []) rs)
unfolding param_step
step_front c cs rest rs whole some h =
    let size : length (cs ++ 47 ∷ []) ≡ suc (length cs) = length-append cs (47 ∷ []) ∙ omega arith in
    rw (segment_front (c ∷ cs) rest h, some_slash (c ∷ (cs ++ 47 ∷ [])) rs whole some (cuts_slash c cs), size, one_less (suc (length cs))) refl

pub seek_front : {K : Type 0} (c : ℕ) (cs rest : List ℕ) (rs : RowsOf K) → step c rs ≡ [] → step 257 rs ≡ [] → are_whole (step 256 rs) ≡ true → any_longer (step 256 rs) ≡ true → has_slash (c ∷ cs) ≡ false
    → seek 0 rs ((c ∷ cs) ++ 47 ∷ rest) ≡ seek 0 (with_suffix (47 ∷ []) (step 256 rs)) (47 ∷ rest)
unfolding seek
seek_front {K} c cs rest rs e f whole some h =
    let after = with_suffix (47 ∷ []) (step 256 rs) in
    let later : seek (length cs) after (cs ++ 47 ∷ rest) ≡ seek 0 after (47 ∷ rest) = seek_drop (length cs) after (cs ++ 47 ∷ rest) ∙ ap (seek 0 after) (drop-append_seam cs (47 ∷ rest)) in
    rw (e, f, step_front c cs rest (step 256 rs) whole some h, seek_none {K = K} 0 (cs ++ 47 ∷ rest), one_less (length cs), later) (none_else (seek 0 after (47 ∷ rest)))

-- where a byte leads to a route, it is that route
pub seek_byte_first : {K : Type 0} (b : ℕ) (p : List ℕ) (rs : RowsOf K) (k : K) → seek 0 (step b rs) p ≡ Some k → seek 0 rs (b ∷ p) ≡ Some k
unfolding seek
seek_byte_first b p rs k h = rw h refl

-- each row goes on with a parameter
abbrev pub are_params : {K : Type 0} → RowsOf K → Bool
are_params [] = true
are_params (([], k) ∷ rs) = are_params rs
are_params ((x ∷ t, k) ∷ rs) = (x == 256) && are_params rs

pub no_byte : {K : Type 0} (d : ℕ) (rs : RowsOf K) → are_params rs ≡ true → (256 == d) ≡ false → step d rs ≡ []
no_byte d [] h other = refl
no_byte d (([], k) ∷ rs) h other = no_byte d rs h other
no_byte d ((x ∷ t, k) ∷ rs) h other =
    let parts = and_parts _ _ h in
    rw (eqb-true x 256 parts.0, other) (no_byte d rs parts.1 other)
