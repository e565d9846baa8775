-- Nothing is listed beyond the indexes that an array can have.
use Rattle.std.proofs.Common.{◌≡◌, ℕ, zero, suc, ◌≤◌, ◌<◌, arith, Bool, true, false, cond, ◌||◌, List, [], ◌∷◌, map, Option, None, Some, is_some, refl, sym, ap, ◌∙◌}
use Rattle.std.proofs.lemmas.Bool.Decides.{nat_tests}
use Rattle.std.specs.Prelude.{nat_le}
use Rattle.std.specs.List.{AllByRecursion, filter}
use Rattle.std.specs.Map.{keys_of}
use Rattle.std.specs.Ordering.{nat_cmp}
use Rattle.std.specs.FinMap.{FinMap, get, entries, find, get-entries, contains_key-keys}
use Rattle.ebs_model.specs.Lists.{differ, either_keys, from_index, changed_from, page_of, next_of}
use Rattle.ebs_listing.proofs.Ascending.{all-members, has-either}

below-all : (start limit index : ℕ) → limit ≤ start → index < limit → nat_le start index ≡ false
below-all start limit index h less = grind (arith, nat_tests)

-- nothing passes a test for the start where each number is below the limit
none-passes : {A : Type 0} (f : A → ℕ) (start limit : ℕ) → limit ≤ start → (xs : List A) → AllByRecursion (λ i. i < limit) (map f xs) → filter (λ x. nat_le start (f x)) xs ≡ []
none-passes f start limit h [] all = refl
none-passes f start limit h (x ∷ xs) all = ap (λ b. cond b (x ∷ filter (λ x. nat_le start (f x)) xs) (filter (λ x. nat_le start (f x)) xs)) (below-all start limit (f x) h all.0) ∙ none-passes f start limit h xs all.1

module _ {X : Type 0} (limit start : ℕ) (beyond : limit ≤ start) where
  is-found : (o : Option X) → is_some o ≡ true → (Q : Type 0) → ((x : X) → o ≡ Some x → Q) → Q
  is-found None e Q h = cc
  is-found (Some x) e Q h = h x refl

  keys-below : (m : FinMap nat_cmp X) → ((i : ℕ) (x : X) → get m i ≡ Some x → i < limit) → AllByRecursion (λ i. i < limit) (keys_of (entries m))
  keys-below m small = all-members (λ i. i < limit) (keys_of (entries m)) (λ q e. is-found (get m q) (contains_key-keys m q ∙ e) (q < limit) (small q))

  pub from-beyond : (m : FinMap nat_cmp X) → ((i : ℕ) (x : X) → get m i ≡ Some x → i < limit) → from_index m start ≡ []
  from-beyond m small = none-passes (λ e. e.0) start limit beyond (entries m) (keys-below m small)

  module _ (f g : FinMap nat_cmp X) (one : (i : ℕ) (x : X) → get f i ≡ Some x → i < limit) (two : (i : ℕ) (x : X) → get g i ≡ Some x → i < limit) where
    either : (q : ℕ) (a b : Option X) → get f q ≡ a → get g q ≡ b → (is_some a || is_some b) ≡ true → q < limit
    either q (Some x) b e d t = one q x e
    either q None (Some y) e d t = two q y d
    either q None None e d t = cc

    either-below : AllByRecursion (λ i. i < limit) (either_keys f g)
    either-below = all-members (λ i. i < limit) (either_keys f g) (λ q e. either q (find nat_cmp q (entries f)) (find nat_cmp q (entries g)) (get-entries f q) (get-entries g q) (sym (has-either q (entries f) (entries g)) ∙ e))

    pub changed-beyond : (stamp : X → ℕ) → changed_from stamp f g start ≡ []
    changed-beyond stamp =
        ap (λ is. filter (λ p. differ stamp p.first p.second) (map (λ i. record { index = i; first = get f i; second = get g i }) is))
        (none-passes (λ i. i) start limit beyond (either_keys f g) (itself (either_keys f g) either-below))
      where
        itself : (is : List ℕ) → AllByRecursion (λ i. i < limit) is → AllByRecursion (λ i. i < limit) (map (λ i. i) is)
        itself [] h = tt
        itself (i ∷ is) h = (h.0, itself is h.1)

-- a page of nothing
pub page-nothing : {A B : Type 0} (f : A → B) (most : ℕ) (xs : List A) → xs ≡ [] → [] ≡ map f (page_of most xs)
page-nothing f most xs e = at most ∙ ap (λ l. map f (page_of most l)) (sym e)
  where
    at : (n : ℕ) → [] ≡ map f (page_of n [])
    at zero = refl
    at (suc n) = refl

pub next-nothing : {A : Type 0} (f : A → ℕ) (most : ℕ) (xs : List A) → xs ≡ [] → None ≡ next_of f most xs
next-nothing f most xs e = at most ∙ ap (next_of f most) (sym e)
  where
    at : (n : ℕ) → None ≡ next_of f n []
    at zero = refl
    at (suc n) = refl

-- no number below the limit is at least the limit
pub at_least : (limit n : ℕ) → (n < limit → ⊥) → limit ≤ n
at_least limit n h = by (nat_le limit n) refl
  where
    by : (b : Bool) → nat_le limit n ≡ b → limit ≤ n
    by true e = grind (arith, nat_tests)
    by false e = absurd (h (grind (arith, nat_tests)))
