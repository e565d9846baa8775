-- Rows of one account stand side by side.
use Rattle.std.proofs.Common.{◌≡◌, ℕ, zero, suc, ◌+◌, ◌-◌, ◌<◌, ◌≤◌, Bool, true, false, List, [], ◌∷◌, ◌++◌, length, get_or, take, drop, refl, sym, ◌∙◌, ap, subst, arith}
use Rattle.std.specs.Prelude.{◌==◌, nat_lt, nat_le}
use Rattle.std.specs.List.{filter}
use Rattle.std.specs.List.Sorted.{IsNonDecreasingBy, IsPartitionPoint}
use Rattle.std.specs.Ordering.{is_lt}
use Rattle.std.specs.declared.cmp.Ordering.{Ordering}
use Rattle.std.proofs.lemmas.List.{length-take, length-drop, get_or-take, get_or-drop, append-nil, take_all, take-append-drop}
use Rattle.std.proofs.lemmas.List.Elements.{filter-append}
use Rattle.std.proofs.lemmas.List.Sorted.{IsNonDecreasingBy-from_all_adjacent}
use Rattle.ebs_row_rules.specs.Order.{rises, ascends}
use Rattle.ebs_row_rules.specs.Counts.{rows_of}
use Rattle.ebs_row_rules.proofs.Searches.{both_true}

module _ {X : Type 0} where
  none_of : (p : X → Bool) (ys : List X) → ((k : ℕ) (d : X) → k < length ys → p (get_or ys k d) ≡ false) → filter p ys ≡ []
  none_of p [] h = refl
  none_of p (y ∷ ys) h = rw (h 0 y (omega arith)) (none_of p ys (λ k d l. h (suc k) d (omega (arith, l))))

  all_of : (p : X → Bool) (ys : List X) → ((k : ℕ) (d : X) → k < length ys → p (get_or ys k d) ≡ true) → filter p ys ≡ ys
  all_of p [] h = refl
  all_of p (y ∷ ys) h = rw (h 0 y (omega arith)) (ap (λ zs. y ∷ zs) (all_of p ys (λ k d l. h (suc k) d (omega (arith, l)))))

  adjacent : (below : X → X → Bool) (xs : List X) → rises below xs ≡ true → (k : ℕ) (d : X) → k + 1 < length xs → below (get_or xs k d) (get_or xs (k + 1) d) ≡ true
  adjacent below [] up k d l = absurd (omega (arith, l))
  adjacent below (x ∷ []) up k d l = absurd (omega (arith, l))
  adjacent below (x ∷ y ∷ xs) up zero d l = (both_true _ _ up).0
  adjacent below (x ∷ y ∷ xs) up (suc k) d l =
      let next : suc (k + 1) ≡ suc k + 1 = omega arith in
      subst (λ j. below (get_or (y ∷ xs) k d) (get_or (x ∷ y ∷ xs) j d) ≡ true) next (adjacent below (y ∷ xs) (both_true _ _ up).1 k d (omega (arith, l)))

  pub owners_rise : {K : Type 0} (cmp : K → K → Ordering) (key : X → K) (owner : X → ℕ) → ((a b : X) → is_lt (cmp (key a) (key b)) ≡ true → owner a ≤ owner b) → (xs : List X) → ascends cmp key xs ≡ true → IsNonDecreasingBy owner xs
  owners_rise cmp key owner grouped xs up = IsNonDecreasingBy-from_all_adjacent owner xs (λ k d l. grouped (get_or xs k d) (get_or xs (k + 1) d) (adjacent (λ a b. is_lt (cmp (key a) (key b))) xs up k d l))

  pub side_by_side : (owner : X → ℕ) (a : ℕ) (xs rest : List X) (i m : ℕ) → i ≤ length xs → m ≤ length rest → rest ≡ take (length xs - i) (drop i xs)
      → IsPartitionPoint (λ y. nat_lt (owner y) a ≡ true) (λ y. nat_lt (owner y) a ≡ false) xs i
      → IsPartitionPoint (λ y. nat_le (owner y) a ≡ true) (λ y. nat_le (owner y) a ≡ false) rest m
      → take m rest ≡ rows_of owner a xs
  side_by_side owner a xs rest i m li lm whole low high =
      sym (ap (filter p) (sym (take-append-drop i xs)) ∙ filter-append p (take i xs) (drop i xs) ∙ ap (λ ys. ys ++ filter p (drop i xs)) first ∙ ap (filter p) (sym is)
      ∙ ap (filter p) (sym (take-append-drop m rest)) ∙ filter-append p (take m rest) (drop m rest) ∙ (λ j. mid j ++ last j) ∙ append-nil (take m rest))
    where
      p : X → Bool
      p y = owner y == a

      is : rest ≡ drop i xs
      is = whole ∙ take_all (length xs - i) (drop i xs) (omega (arith, length-drop i xs))

      first : filter p (take i xs) ≡ []
      first = none_of p (take i xs) (λ k d l.
          let inside : k < i = omega (arith, l, length-take i xs) in
          below (owner (get_or (take i xs) k d)) (ap (λ y. nat_lt (owner y) a) (get_or-take i xs k d inside) ∙ low.0 k d (omega arith) inside))
        where
          below : (n : ℕ) → nat_lt n a ≡ true → (n == a) ≡ false
          below n h = grind arith

      mid : filter p (take m rest) ≡ take m rest
      mid = all_of p (take m rest) (λ k d l.
          let inside : k < m = omega (arith, l, length-take m rest) in
          let at : get_or (take m rest) k d ≡ get_or xs (i + k) d = get_or-take m rest k d inside ∙ ap (λ ys. get_or ys k d) is ∙ get_or-drop i xs k d in
          between (owner (get_or (take m rest) k d))
          (ap (λ y. nat_lt (owner y) a) at ∙ low.1 (i + k) d (omega arith) (omega (arith, inside, lm, ap length is, length-drop i xs)))
          (ap (λ y. nat_le (owner y) a) (get_or-take m rest k d inside) ∙ high.0 k d (omega arith) inside))
        where
          between : (n : ℕ) → nat_lt n a ≡ false → nat_le n a ≡ true → (n == a) ≡ true
          between n h g = grind arith

      last : filter p (drop m rest) ≡ []
      last = none_of p (drop m rest) (λ k d l.
          above (owner (get_or (drop m rest) k d)) (ap (λ y. nat_le (owner y) a) (get_or-drop m rest k d) ∙ high.1 (m + k) d (omega arith) (omega (arith, l, length-drop m rest))))
        where
          above : (n : ℕ) → nat_le n a ≡ false → (n == a) ≡ false
          above n h = grind arith
