-- A list is ascending where each is below the next.
use Rattle.std.proofs.Common.{◌≡◌, ℕ, suc, zero, ◌+◌, ◌<◌, Bool, true, false, ◌&&◌, List, [], ◌∷◌, length, get_or, refl, sym, subst, arith}
use Rattle.std.specs.List.{AllAdjacentBelow, IsAllAdjacentAnswer}
use Rattle.ebs_row_rules.specs.Order.{rises}

module _ {X : Type 0} (below : X → X → Bool) where
  later : (b : Bool) (x y : X) (xs : List X) (k : ℕ) (d : X) → b ≡ below (get_or (x ∷ y ∷ xs) (suc k) d) (get_or (x ∷ y ∷ xs) (suc k + 1) d) → b ≡ below (get_or (y ∷ xs) k d) (get_or (y ∷ xs) (k + 1) d)
  later b x y xs k d h = let next : suc k + 1 ≡ suc (k + 1) = omega arith in subst (λ j. b ≡ below (get_or (y ∷ xs) k d) (get_or (x ∷ y ∷ xs) j d)) next h

  risen : (xs : List X) → AllAdjacentBelow (λ x y. true ≡ below x y) xs (length xs) → rises below xs ≡ true
  risen [] h = refl
  risen (x ∷ []) h = refl
  risen (x ∷ y ∷ xs) h =
      let first : true ≡ below x y = h 0 x (omega arith) in
      let rest = risen (y ∷ xs) (λ k d less. later true x y xs k d (h (suc k) d (omega (arith, less)))) in
      rw (sym first, rest) refl

  fallen : (xs : List X) (k : ℕ) → k + 1 < length xs → ((d : X) → false ≡ below (get_or xs k d) (get_or xs (k + 1) d)) → rises below xs ≡ false
  fallen [] k less h = absurd (omega (arith, less))
  fallen (x ∷ []) k less h = absurd (omega (arith, less))
  fallen (x ∷ y ∷ xs) zero less h = rw (sym (h x)) refl
  fallen (x ∷ y ∷ xs) (suc k) less h = let rest = fallen (y ∷ xs) k (omega (arith, less)) (λ d. later false x y xs k d (h d)) in both (below x y) (rises below (y ∷ xs)) rest
    where
      both : (a b : Bool) → b ≡ false → (a && b) ≡ false
      both true b e = e
      both false b e = refl

  pub answered : (xs : List X) (r : Bool) → IsAllAdjacentAnswer (λ x y b. b ≡ below x y) xs r → r ≡ rises below xs
  answered xs true h = sym (risen xs h)
  answered xs false h = sym (fallen xs h.0 h.1 h.2)
