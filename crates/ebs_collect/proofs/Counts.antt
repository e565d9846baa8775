-- The blocks of a node from an index on.
use Rattle.std.proofs.Common.{arith, ◌≡◌, ◌⊎◌, inl, inr, ℕ, zero, suc, ◌+◌, ◌<◌, ◌≤◌, ◌^◌, true, false, cond, Option, Some, None, is_some, refl, sym, ap, ◌∙◌}
use Rattle.std.specs.Prelude.{nat_le}
use Rattle.std.proofs.lemmas.Bool.Decides.{nat_tests}
use Rattle.std.specs.Ordering.{nat_cmp}
use Rattle.std.specs.Cmp.{nat_cmp_total}
use Rattle.std.specs.FinMap as map
use Rattle.std.specs.FinMap.{same_map, nat_cmp-IsAntisymmetric, get-retain_keys, get-empty, len-insert, len-empty}
use Rattle.ebs_model.specs.declared.array.Block.{Block}
use Rattle.ebs_lineage.specs.Owned.{Blocks, IsLeastFrom}
use Rattle.ebs_lineage.specs.Lines.{AreSmall}
use Rattle.ebs_lineage.proofs.Changes.{insert-here, insert-other}
use Rattle.ebs_collect.specs.Backlogs.{from_index}

says_le : (i q : ℕ) → i ≤ q → nat_le i q ≡ true
says_le i q h = grind (arith, nat_tests)

says_gt : (i q : ℕ) → q < i → nat_le i q ≡ false
says_gt i q h = grind (arith, nat_tests)

three : (a b : ℕ) → (a < b) ⊎ (a ≡ b) ⊎ (b < a)
three a b = grind arith

get-from : (m : Blocks) (i q : ℕ) → map.get (from_index m i) q ≡ cond (nat_le i q) (map.get m q) None
get-from m i q = get-retain_keys m (nat_le i) q (λ x e. ap (nat_le i) (sym (nat_cmp-IsAntisymmetric q x e)))

pub from-at : (m : Blocks) (i q : ℕ) → i ≤ q → map.get (from_index m i) q ≡ map.get m q
from-at m i q h = get-from m i q ∙ ap (λ b. cond b (map.get m q) None) (says_le i q h)

pub from-below : (m : Blocks) (i q : ℕ) → q < i → map.get (from_index m i) q ≡ None
from-below m i q h = get-from m i q ∙ ap (λ b. cond b (map.get m q) None) (says_gt i q h)

above_or : (a b : ℕ) → (a ≤ b) ⊎ (b < a)
above_or a b = grind arith

pub from-same : (m n : Blocks) (i : ℕ) → ((q : ℕ) → i ≤ q → map.get m q ≡ map.get n q) → from_index m i ≡ from_index n i
from-same m n i same = same_map nat_cmp_total nat_cmp-IsAntisymmetric _ _ (λ q. elim (above_or i q) [
  | inl h ↦ from-at m i q h ∙ same q h ∙ sym (from-at n i q h)
  | inr h ↦ from-below m i q h ∙ sym (from-below n i q h)
])

pub from-zero : (m : Blocks) → from_index m 0 ≡ m
from-zero m = same_map nat_cmp_total nat_cmp-IsAntisymmetric _ _ (λ q. from-at m 0 q (omega arith))

pub from-none : (m : Blocks) (i : ℕ) → ((q : ℕ) → i ≤ q → map.get m q ≡ None) → map.len (from_index m i) ≡ 0
from-none m i none = ap map.len (same_map nat_cmp_total nat_cmp-IsAntisymmetric (from_index m i) map.empty (λ q. elim (above_or i q) [
  | inl h ↦ from-at m i q h ∙ none q h ∙ sym (get-empty nat_cmp q)
  | inr h ↦ from-below m i q h ∙ sym (get-empty nat_cmp q)
])) ∙ len-empty nat_cmp Block

-- the least of them and those above it
module _ (m : Blocks) (i k : ℕ) (v : Block) (least : IsLeastFrom (map.get m) i (Some (k, v))) where
  begins : (q : ℕ) → (q < k) ⊎ (q ≡ k) ⊎ (k < q) → map.get (from_index m i) q ≡ map.get (map.insert (from_index m (k + 1)) k v) q
  begins q (inl low) = elim (above_or i q) [
    | inl h ↦ from-at m i q h ∙ least.2 q h low ∙ sym (insert-other (from_index m (k + 1)) k v q (λ e. let same : q ≡ k = e in omega arith) ∙ from-below m (k + 1) q (omega arith))
    | inr h ↦ from-below m i q h ∙ sym (insert-other (from_index m (k + 1)) k v q (λ e. let same : q ≡ k = e in omega arith) ∙ from-below m (k + 1) q (omega arith))
  ]
  begins q (inr (inl e)) = ap (map.get (from_index m i)) e ∙ from-at m i k least.0 ∙ least.1 ∙ sym (insert-here (from_index m (k + 1)) k v) ∙ ap (map.get (map.insert (from_index m (k + 1)) k v)) (sym e)
  begins q (inr (inr high)) = let above : i ≤ k = least.0 in from-at m i q (omega arith) ∙ sym (insert-other (from_index m (k + 1)) k v q (λ e. let same : q ≡ k = e in omega arith) ∙ from-at m (k + 1) q (omega arith))

  pub one-more : map.len (from_index m i) ≡ map.len (from_index m (k + 1)) + 1
  one-more =
      ap map.len (same_map nat_cmp_total nat_cmp-IsAntisymmetric _ _ (λ q. begins q (three q k)))
      ∙ len-insert nat_cmp_total (from_index m (k + 1)) k v
      ∙ ap (λ o. cond (is_some o) (map.len (from_index m (k + 1))) (map.len (from_index m (k + 1)) + 1)) (from-below m (k + 1) k (omega arith))

-- further on there are no more
from-step : (m : Blocks) (i : ℕ) → map.len (from_index m (i + 1)) ≤ map.len (from_index m i)
from-step m i = by (map.get m i) refl
  where
    at : (q : ℕ) → map.get m i ≡ None → (q < i) ⊎ (q ≡ i) ⊎ (i < q) → map.get (from_index m i) q ≡ map.get (from_index m (i + 1)) q
    at q none (inl low) = from-below m i q low ∙ sym (from-below m (i + 1) q (omega (arith, low)))
    at q none (inr (inl e)) = ap (map.get (from_index m i)) e ∙ from-at m i i (omega arith) ∙ none ∙ sym (from-below m (i + 1) i (omega arith)) ∙ ap (map.get (from_index m (i + 1))) (sym e)
    at q none (inr (inr high)) = from-at m i q (omega (arith, high)) ∙ sym (from-at m (i + 1) q (omega (arith, high)))

    by : (o : Option Block) → map.get m i ≡ o → map.len (from_index m (i + 1)) ≤ map.len (from_index m i)
    by None e =
        let same = ap map.len (same_map nat_cmp_total nat_cmp-IsAntisymmetric (from_index m i) (from_index m (i + 1)) (λ q. at q e (three q i))) in
        omega (arith, same)
    by (Some v) e = let more = one-more m i i v (omega arith, e, λ q low high. absurd (omega (arith, low, high))) in omega (arith, more)

next_is : (i : ℕ) → i + 1 ≡ suc i
next_is i = omega arith

pub from-within : (m : Blocks) (i : ℕ) → map.len (from_index m i) ≤ map.len m
from-within m zero = omega (arith, ap map.len (from-zero m))
from-within m (suc i) = omega (arith, from-step m i, ap (λ (k : ℕ). map.len (from_index m k)) (next_is i), from-within m i)

-- without any left there is none
pub none-left : (m : Blocks) (i : ℕ) → map.len (from_index m i) ≡ 0 → (q : ℕ) → i ≤ q → map.get m q ≡ None
none-left m i none q h = sym (from-at m i q h) ∙ ap (λ (n : Blocks). map.get n q) (map.empty_of_len (from_index m i) none) ∙ get-empty nat_cmp q

-- beyond 32 bits there is none
pub none-far : (m : Blocks) (i : ℕ) → AreSmall m → 2 ^ 32 ≤ i → map.len (from_index m i) ≡ 0
none-far m i small far = from-none m i (λ q h. by q h (map.get m q) refl)
  where
    by : (q : ℕ) → i ≤ q → (o : Option Block) → map.get m q ≡ o → map.get m q ≡ None
    by q h None e = e
    by q h (Some b) e = let near : q < 2 ^ 32 = small q b e in absurd (omega (arith, far, near, h))
