-- The oldest of so many newest ones.
use Rattle.std.proofs.Common.{◌≡◌, ℕ, ◌+◌, ◌-◌, ◌≤◌, Bool, true, false, cond, ◌&&◌, List, [], ◌∷◌, length, map, get_or, refl, sym, ap, ◌∙◌}
use Rattle.std.specs.Prelude.{nat_le}
use Rattle.std.specs.Ordering.{is_lt}
use Rattle.std.specs.Cmp.{IsStrictWeakOrder, IsTotalOrder}
use Rattle.std.specs.List.{filter, count_by}
use Rattle.std.specs.List.Sorted.{IsPermutation, IsSorted}
use Rattle.std.proofs.lemmas.Cmp.{nat_cmp_total, on_total, then_total}
use Rattle.std.proofs.lemmas.List.Sorted.{sum_by-IsPermutation, ranks_by}
use Rattle.std.proofs.lemmas.List.Sums.{sum_by-cons}
use Rattle.ebs_model.specs.inner.Orders.{snaps_total}
use Rattle.ebs_model.specs.declared.policy.Made.{Made}
use Rattle.ebs_lifecycle.specs.declared.ranks.Rank.{Rank}
use Rattle.ebs_model.specs.Retention.{is_before, newer}
use Rattle.ebs_lifecycle.specs.Retention.{rank_of, rank_cmp, keys_of}
use Rattle.ebs_lifecycle.proofs.Newest.{at_least}

ranks_total : IsTotalOrder rank_cmp
ranks_total = then_total (on_total (λ r. r.start.second) nat_cmp_total) (on_total (λ r. r.key) snaps_total)

abbrev below : Rank → Rank → Bool
below a b = is_lt (rank_cmp a b)

weak : IsStrictWeakOrder below
weak = ranks_by ranks_total (λ r. r)

-- the newer ones of those, by their ranks
ranked : (m : Made) (made : List Made) → count_by (λ r. below (rank_of m) r) (map rank_of made) ≡ newer made m
ranked m [] = refl
ranked m (one ∷ made) =
    sum_by-cons (λ r. cond (below (rank_of m) r) 1 0) (rank_of one) (map rank_of made)
    ∙ ap (λ n. cond (is_before m one) 1 0 + n) (ranked m made) ∙ sym (sum_by-cons (λ other. cond (is_before m other) 1 0) one made)

pub oldest : (made : List Made) (ranks sorted : List Rank) (n : ℕ) (x : Rank) → ranks ≡ map rank_of made → IsPermutation ranks sorted → IsSorted rank_cmp sorted
    → 1 ≤ n → n ≤ length sorted → x ≡ get_or sorted (length sorted - n) x → (m : Made) → is_lt (rank_cmp (rank_of m) x) ≡ nat_le n (newer made m)
oldest made ranks sorted n x is moved up pos fits at m =
    ap (λ r. below (rank_of m) r) at
    ∙ at_least below weak (rank_of m) x sorted n pos fits up
    ∙ ap (λ k. nat_le n k) (sum_by-IsPermutation (λ r. cond (below (rank_of m) r) 1 0) ranks sorted moved ∙ ap (λ rs. count_by (λ r. below (rank_of m) r) rs) is ∙ ranked m made)

-- a filter of what another filter left
filter_twice : {X : Type 0} (p q : X → Bool) (xs : List X) → filter q (filter p xs) ≡ filter (λ x. p x && q x) xs
filter_twice p q [] = refl
filter_twice {X} p q (x ∷ xs) = by (p x) (filter_twice p q xs)
  where
    by : (a : Bool) → filter q (filter p xs) ≡ filter (λ y. p y && q y) xs → filter q (cond a (x ∷ filter p xs) (filter p xs)) ≡ cond (a && q x) (x ∷ filter (λ y. p y && q y) xs) (filter (λ y. p y && q y) xs)
    by true again = ap (λ t. cond (q x) (x ∷ t) t) again
    by false again = again

pub keys_twice : (p q : Made → Bool) (picked made : List Made) → picked ≡ filter p made → keys_of q picked ≡ keys_of (λ m. p m && q m) made
keys_twice p q picked made e = ap (λ ms. map (λ m. m.key) ms) (ap (λ ms. filter q ms) e ∙ filter_twice p q made)
