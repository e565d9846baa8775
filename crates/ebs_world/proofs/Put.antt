-- A piece that is put byte by byte.
use Rattle.std.proofs.Common.{◌≡◌, inl, inr, ℕ, ◌+◌, ◌-◌, ◌<◌, List, length, get_or, Bool, true, false, cond, ltb, eqb, refl, sym, ◌∙◌, ap, arith}
use Rattle.std.proofs.lemmas.Bool.{false≢true, cases_lt, lt-ltb, le-ltb}
use Rattle.std.proofs.lemmas.Grind.{get_or_default_zero}
use Rattle.ebs_world.specs.inner.Held.{over}

pub cond_true : {A : Type 0} (b : Bool) (x y : A) → b ≡ true → cond b x y ≡ x
cond_true true x y e = refl
cond_true false x y e = absurd (false≢true e)

pub cond_false : {A : Type 0} (b : Bool) (x y : A) → b ≡ false → cond b x y ≡ y
cond_false true x y e = absurd (false≢true (sym e))
cond_false false x y e = refl

pub cond_same : {A : Type 0} (b : Bool) (x y : A) → x ≡ y → cond b x y ≡ y
cond_same true x y e = e
cond_same false x y e = refl

pub over_at : (at : ℕ) (piece : List ℕ) (f : ℕ → ℕ) (k : ℕ) → k < length piece → get_or piece k 0 ≡ over at piece f (at + k)
over_at at piece f k below =
    let here : at + k - at ≡ k = omega arith in
    sym (cond_false (ltb (at + k) at) (f (at + k)) _ (le-ltb (at + k) at (omega arith)) ∙ ap (λ (j : ℕ). get_or piece j (f (at + k))) here ∙ get_or_default_zero piece k (f (at + k)) below)

-- the byte behind those that are put
pub put_one : (at : ℕ) (piece : List ℕ) (f : ℕ → ℕ) (j i : ℕ) → j < length piece
    → cond (eqb i (at + j)) (get_or piece j 0) (cond (ltb i (at + j)) (over at piece f i) (f i)) ≡ cond (ltb i (at + (j + 1))) (over at piece f i) (f i)
put_one at piece f j i below = elim (cases_lt i (at + j)) [
  | inl before ↦ grind (arith, before, lt-ltb)
  | inr from ↦ elim (cases_lt (at + j) i) [
    | inl past ↦ grind (arith, past, le-ltb)
    | inr to ↦ here (omega (arith, from, to))
  ]
]
  where
    here : i ≡ at + j → cond (eqb i (at + j)) (get_or piece j 0) (cond (ltb i (at + j)) (over at piece f i) (f i)) ≡ cond (ltb i (at + (j + 1))) (over at piece f i) (f i)
    here is = rw is grind (arith, over_at at piece f j below)
