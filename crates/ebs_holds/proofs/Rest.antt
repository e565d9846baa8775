-- A list behind its first.
use Rattle.std.proofs.Common.{◌≡◌, ◌+◌, ◌-◌, ◌≤◌, List, [], ◌∷◌, length, arith, sym, ap, ◌∙◌}
use Rattle.std.proofs.Math.ListN.{take, drop, get_or}
use Rattle.std.proofs.Math.Seq.{take_all}

module _ {A : Type 0} where
  abbrev pub rest_of : List A → List A
  rest_of l = take (length l - 1) (drop 1 l)

  rest-cons : (x : A) (xs : List A) → rest_of (x ∷ xs) ≡ xs
  rest-cons x xs = take_all (length (x ∷ xs) - 1) xs (omega arith)

  pub fewer : (l : List A) → 1 ≤ length l → length (rest_of l) + 1 ≡ length l
  fewer [] h = absurd (omega arith)
  fewer (x ∷ xs) h = ap (λ l. length l + 1) (rest-cons x xs) ∙ omega arith

  pub first-rest : (l : List A) (x : A) → 1 ≤ length l → x ≡ get_or l 0 x → l ≡ x ∷ rest_of l
  first-rest [] x h is = absurd (omega arith)
  first-rest (y ∷ ys) x h is = λ i. sym is i ∷ sym (rest-cons y ys) i
