-- What a search finds in an ascending list.
use Rattle.std.proofs.Common.{◌≡◌, ℕ, suc, zero, ◌<◌, ◌≤◌, Bool, true, false, ◌||◌, cond, eqb, ltb, is_some, List, [], ◌∷◌, length, get_or, Option, Some, None, Result, Ok, Err, MatchResult, refl, sym, ap, ◌∙◌, arith, ⊎_elim}
use Rattle.std.specs.List.{find, list_any}
use Rattle.std.specs.Result.{is_ok}
use Rattle.std.specs.List.Sorted.{IsSearchInRange, IsBinarySearchResult, IsNonDecreasingBy}
use Rattle.std.specs.Ordering.{nat_cmp, ordering_index}
use Rattle.std.proofs.lemmas.Bool.{and_parts, ltb-true, cases_lt}
use Rattle.std.proofs.lemmas.Bool.Decides.{nat_tests}
use Rattle.std.proofs.lemmas.Cmp.{ranked}
use Rattle.std.proofs.lemmas.List.Sums.{AllPass-from_list_all}
use Rattle.std.proofs.lemmas.List.Recursion.{found_at, found_nowhere}
use Rattle.ebs_node_rules.specs.inner.Nodes.{ascends}

module _ {X : Type 0} (key : X → ℕ) where
  -- the key at a place is below each behind it
  pub rises : (xs : List X) (i j : ℕ) (d : X) → ascends key xs ≡ true → i < j → j < length xs → key (get_or xs i d) < key (get_or xs j d)
  rises [] i j d a l h = absurd (omega arith)
  rises (x ∷ xs) zero zero d a l h = absurd (omega arith)
  rises (x ∷ xs) zero (suc j) d a l h = ltb-true _ _ (AllPass-from_list_all (λ y. ltb (key x) (key y)) xs (and_parts _ _ a).0 j d (omega arith))
  rises (x ∷ xs) (suc i) zero d a l h = absurd (omega arith)
  rises (x ∷ xs) (suc i) (suc j) d a l h = rises xs i j d (and_parts _ _ a).1 (omega arith) (omega arith)

  abbrev at_key : ℕ → List X → Option X
  at_key k xs = find (λ x. eqb (key x) k) xs

  module _ (xs : List X) (a : ascends key xs ≡ true) (k : ℕ) where
    comparisons_rise : IsNonDecreasingBy (λ x. ordering_index (nat_cmp (key x) k)) xs
    comparisons_rise i j d le in_range =
        let up : key (get_or xs i d) ≤ key (get_or xs j d) = grind (arith, rises xs i j d a, λ (same : i ≡ j). ap (λ n. key (get_or xs n d)) same) in
        grind (arith, nat_tests)

    -- what stands where the search ended
    abbrev Ends : Result ℕ ℕ → Type 0
    Ends r = MatchResult r (λ i. (d : X) → at_key k xs ≡ Some (get_or xs i d)) (λ i. at_key k xs ≡ None)

    differs : (m : ℕ) → m < k → eqb m k ≡ false
    differs m h = grind (arith, nat_tests)

    above : (m : ℕ) → k < m → eqb m k ≡ false
    above m h = grind (arith, nat_tests)

    tied : (m : ℕ) → m ≡ k → eqb m k ≡ true
    tied m h = grind (arith, nat_tests)

    nowhere : (ys : List X) → ((j : ℕ) (d : X) → j < length ys → eqb (key (get_or ys j d)) k ≡ false) → at_key k ys ≡ None
    nowhere [] h = refl
    nowhere (y ∷ ys) h = found_nowhere (at_key k) (λ x. eqb (key x) k) Some None refl (λ x xs. refl) (y ∷ ys) y (λ j l. h j y l)

    pub searched : (r : Result ℕ ℕ) → IsSearchInRange r (length xs) → IsBinarySearchResult (λ x. nat_cmp (key x) k) xs r → Ends r
    searched (Ok i) in_range equal = λ d.
        let here : key (get_or xs i d) ≡ k = ranked _ k _ (sym (equal d)) in
        found_at (at_key k) (λ x. eqb (key x) k) Some None refl (λ x xs. refl) xs i d in_range
        (λ j l. differs _ (let up = rises xs j i d a l in_range in omega (arith, up, here)))
        (tied _ here)
    searched (Err i) in_range parted = nowhere xs (λ j d l. ⊎_elim
        (λ (below : j < i). differs _ (ranked _ k _ (sym ((parted comparisons_rise).0 j d (omega arith) below))))
        (λ (from : i ≤ j). above _ (ranked _ k _ (sym ((parted comparisons_rise).1 j d from l))))
        (cases_lt j i))

    is_found : (ys : List X) → is_some (at_key k ys) ≡ list_any (λ x. eqb (key x) k) ys
    is_found [] = refl
    is_found (y ∷ ys) = by (eqb (key y) k) (is_found ys)
      where
        by : (b : Bool) → is_some (at_key k ys) ≡ list_any (λ x. eqb (key x) k) ys → is_some (cond b (Some y) (at_key k ys)) ≡ (b || list_any (λ x. eqb (key x) k) ys)
        by true h = refl
        by false h = h

    -- a search finds something where an item has the key
    pub searched_any : (r : Result ℕ ℕ) → IsSearchInRange r (length xs) → IsBinarySearchResult (λ x. nat_cmp (key x) k) xs r → is_ok r ≡ list_any (λ x. eqb (key x) k) xs
    searched_any (Ok i) in_range equal = first xs in_range (λ d. searched (Ok i) in_range equal d) ∙ is_found xs
      where
        first : (ys : List X) → i < length ys → ((d : X) → at_key k ys ≡ Some (get_or ys i d)) → true ≡ is_some (at_key k ys)
        first [] l h = absurd (omega arith)
        first (y ∷ ys) l h = sym (ap is_some (h y))
    searched_any (Err i) in_range parted = sym (ap is_some (searched (Err i) in_range parted)) ∙ is_found xs

  -- an item is found at its own key
  pub found_itself : (xs : List X) (i : ℕ) (d : X) → ascends key xs ≡ true → i < length xs → at_key (key (get_or xs i d)) xs ≡ Some (get_or xs i d)
  found_itself xs i d a l =
      let k = key (get_or xs i d) in
      found_at (at_key k) (λ x. eqb (key x) k) Some None refl (λ x xs. refl) xs i d l
      (λ j h. differs xs a k _ (rises xs j i d a h l))
      (tied xs a k _ refl)
