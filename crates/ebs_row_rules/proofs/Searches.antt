-- A search of a list in ascending key.
use Rattle.std.proofs.Common.{◌≡◌, ℕ, zero, suc, ◌<◌, ◌≤◌, Bool, true, false, ◌&&◌, List, [], ◌∷◌, length, get_or, None, Some, Result, Ok, Err, refl, ap, subst, ◌⊎◌, ⊎_elim, arith}
use Rattle.std.specs.Prelude.{◌==◌}
use Rattle.std.specs.List.{find}
use Rattle.std.specs.List.Sorted.{IsBinarySearchResult, IsPartitionPoint}
use Rattle.std.specs.Result.{MatchResult}
use Rattle.std.specs.Ordering.{nat_cmp, is_lt, ordering_index, MatchOrdering}
use Rattle.std.specs.declared.cmp.Ordering.TheVariants.{Less, Greater}
use Rattle.std.specs.Cmp.{ranks}
use Rattle.std.specs.FinMap.{nat_cmp-IsAntisymmetric}
use Rattle.std.proofs.lemmas.Bool.{ne_eqb}
use Rattle.ebs_row_rules.specs.Order.{ascends}

pub both_true : (a b : Bool) → (a && b) ≡ true → (a ≡ true) × (b ≡ true)
both_true true b h = (refl, h)
both_true false b h = absurd cc

less : (a b : ℕ) → is_lt (nat_cmp a b) ≡ true → a < b
less a b h = grind arith

higher : (a b x : ℕ) → a ≤ b → ordering_index (nat_cmp a x) ≤ ordering_index (nat_cmp b x)
higher a b x le = grind arith

module _ {X : Type 0} (n : X → ℕ) where
  first_below : (x : X) (xs : List X) → ascends nat_cmp n (x ∷ xs) ≡ true → (k : ℕ) (d : X) → k < length xs → n x < n (get_or xs k d)
  first_below x [] up k d l = absurd (omega (arith, l))
  first_below x (y ∷ ys) up zero d l = less (n x) (n y) (both_true _ _ up).0
  first_below x (y ∷ ys) up (suc k) d l =
      let parts : (is_lt (nat_cmp (n x) (n y)) ≡ true) × (ascends nat_cmp n (y ∷ ys) ≡ true) = both_true _ _ up in
      let next : n y < n (get_or ys k d) = first_below y ys parts.1 k d (omega (arith, l)) in omega (arith, less (n x) (n y) parts.0, next)

  tail_up : (x : X) (xs : List X) → ascends nat_cmp n (x ∷ xs) ≡ true → ascends nat_cmp n xs ≡ true
  tail_up x [] up = refl
  tail_up x (y ∷ ys) up = (both_true _ _ up).1

  pub pairs : (xs : List X) → ascends nat_cmp n xs ≡ true → (i j : ℕ) (d : X) → i < j → j < length xs → n (get_or xs i d) < n (get_or xs j d)
  pairs [] up i j d l m = absurd (omega (arith, m))
  pairs (y ∷ ys) up i zero d l m = absurd (omega (arith, l))
  pairs (y ∷ ys) up zero (suc j) d l m = first_below y ys up j d (omega (arith, m))
  pairs (y ∷ ys) up (suc i) (suc j) d l m = pairs ys (tail_up y ys up) i j d (omega (arith, l)) (omega (arith, m))

  found : (xs : List X) → ascends nat_cmp n xs ≡ true → (x i : ℕ) (d : X) → i < length xs → n (get_or xs i d) ≡ x → find (λ y. n y == x) xs ≡ Some (get_or xs i d)
  found [] up x i d l e = absurd (omega (arith, l))
  found (y ∷ ys) up x zero d l e = subst (λ z. find (λ y. n y == z) (y ∷ ys) ≡ Some y) e (grind arith)
  found (y ∷ ys) up x (suc i) d l e =
      let under = first_below y ys up i d (omega (arith, l)) in
      let other : n y ≡ x → ⊥ = λ same. absurd (omega (arith, under, e, same)) in
      rw (ne_eqb (n y) x other) (found ys (tail_up y ys up) x i d (omega (arith, l)) e)

  none : (xs : List X) (x : ℕ) → ((k : ℕ) (d : X) → k < length xs → n (get_or xs k d) ≡ x → ⊥) → find (λ y. n y == x) xs ≡ None
  none [] x h = refl
  none (y ∷ ys) x h = rw (ne_eqb (n y) x (h 0 y (omega arith))) (none ys x (λ k d l. h (suc k) d (omega (arith, l))))

  ordered : (xs : List X) → ascends nat_cmp n xs ≡ true → (a b : ℕ) (d : X) → a ≤ b → b < length xs → n (get_or xs a d) ≤ n (get_or xs b d)
  ordered xs up a b d le lt = ⊎_elim (λ e. omega (arith, ap (λ j. n (get_or xs j d)) e)) (λ l. omega (arith, pairs xs up a b d l lt)) (split a b le)
    where
      split : (a b : ℕ) → a ≤ b → (a ≡ b) ⊎ (a < b)
      split a b le = grind arith

  apart : (xs : List X) (x i : ℕ) → IsPartitionPoint (λ y. nat_cmp (n y) x ≡ Less) (λ y. nat_cmp (n y) x ≡ Greater) xs i → (k : ℕ) (d : X) → k < length xs → n (get_or xs k d) ≡ x → ⊥
  apart xs x i parted k d l same =
      ⊎_elim
      (λ low. let under : n (get_or xs k d) < x = subst (λ o. MatchOrdering o (n (get_or xs k d) < x) (n (get_or xs k d) ≡ x) (x < n (get_or xs k d))) (parted.0 k d (omega arith) low) (ranks (n (get_or xs k d)) x) in omega (arith, under, same))
      (λ high. let over : x < n (get_or xs k d) = subst (λ o. MatchOrdering o (n (get_or xs k d) < x) (n (get_or xs k d) ≡ x) (x < n (get_or xs k d))) (parted.1 k d high l) (ranks (n (get_or xs k d)) x) in omega (arith, over, same))
      (sides k i)
    where
      sides : (k i : ℕ) → (k < i) ⊎ (i ≤ k)
      sides k i = grind arith

  pub looked_up : (xs : List X) (x : ℕ) (r : Result ℕ ℕ) → ascends nat_cmp n xs ≡ true → IsBinarySearchResult (λ y. nat_cmp (n y) x) xs r
      → MatchResult r (λ i. (d : X) → i < length xs → find (λ y. n y == x) xs ≡ Some (get_or xs i d)) (λ i. find (λ y. n y == x) xs ≡ None)
  looked_up xs x (Ok i) up h = λ d l. found xs up x i d l (nat_cmp-IsAntisymmetric (n (get_or xs i d)) x (h d))
  looked_up xs x (Err i) up h =
      none xs x (apart xs x i (h (λ a b d le lt. higher (n (get_or xs a d)) (n (get_or xs b d)) x (ordered xs up a b d le lt))))
