-- A list has one ascending order.
use Rattle.std.proofs.Common.{◌≡◌, ℕ, suc, ◌+◌, ◌<◌, Bool, true, false, cond, true≢false, arith, List, [], ◌∷◌, length, map, get_or, refl, sym, ap, subst, ◌∙◌}
use Rattle.std.specs.Ordering.{is_lt}
use Rattle.std.specs.Cmp.{IsStrictWeakOrder}
use Rattle.std.specs.List.{sum_by, count_by, filter}
use Rattle.std.specs.List.Sorted.{IsSorted, IsSortedBy}
use Rattle.std.specs.declared.cmp.Ordering.{Ordering}
use Rattle.std.specs.declared.cmp.Ordering.TheVariants.{Less, Equal, Greater}
use Rattle.std.specs.Ordering.{ordering_reverse}
use Rattle.std.proofs.lemmas.List.{get_or-map, length-map}
use Rattle.std.proofs.lemmas.List.Sums.{sum_by-cons}
use Rattle.std.proofs.lemmas.List.Kept.{IsSortedBy-filter}
use Rattle.std.proofs.lemmas.List.Sorted.{sum_by-IsPermutation, ranks_by}
use Rattle.ebs_model.specs.declared.keys.SnapKey.{SnapKey}
use Rattle.ebs_model.specs.declared.keys.AnyKey.{AnyKey}
use Rattle.ebs_model.specs.declared.keys.AnyKey.TheVariants.{Snap}
use Rattle.ebs_model.specs.declared.policy.Made.{Made}
use Rattle.ebs_model.specs.Keys.{snap_cmp}
use Rattle.ebs_model.specs.inner.Orders.{snaps_total, exact_snaps}
use Rattle.ebs_lifecycle.specs.Retention.{AreInOrder, Ascend, keys_of}

module _ {K : Type 0} (lt : K → K → Bool) (o : IsStrictWeakOrder lt) (same : (a b : K) → lt a b ≡ false → lt b a ≡ false → a ≡ b) where
  abbrev below : K → List K → ℕ
  below b xs = count_by (λ k. lt k b) xs

  more : (b a : K) (rest : List K) (q : Bool) → lt a b ≡ q → below b (a ∷ rest) ≡ cond q 1 0 + below b rest
  more b a rest q t = sum_by-cons (λ k. cond (lt k b) 1 0) a rest ∙ ap (λ q. cond q 1 0 + below b rest) t

  not_itself : (a : K) → lt a a ≡ false
  not_itself a = by (lt a a) refl
    where
      by : (q : Bool) → lt a a ≡ q → q ≡ false
      by true e = absurd (true≢false (sym e ∙ o.one_way a a e))
      by false e = refl

  tail_sorted : (a : K) (rest : List K) → IsSortedBy lt (a ∷ rest) → IsSortedBy lt rest
  tail_sorted a rest up k e low high =
      let n : suc k + 1 ≡ suc (k + 1) = omega arith in
      subst (λ i. lt (get_or (a ∷ rest) i e) (get_or rest k e) ≡ false) n (up (suc k) e (omega arith) (omega (arith, high)))

  -- none of a sorted list is below what its first isn't below
  none_below : (b a : K) (rest : List K) → lt a b ≡ false → IsSortedBy lt (a ∷ rest) → below b (a ∷ rest) ≡ 0
  none_below b a [] h up = more b a [] false h
  none_below b a (c ∷ rest) h up =
      let first : lt c a ≡ false = up 0 a (omega arith) (omega arith) in
      let here = more b a (c ∷ rest) false h in
      let others = none_below b c rest (o.chain c a b first h) (tail_sorted a (c ∷ rest) up) in
      omega (arith, here, others)

  not_below : (a b : K) (rest others : List K) → IsSortedBy lt (a ∷ rest) → below a (a ∷ rest) ≡ below a (b ∷ others) → lt b a ≡ false
  not_below a b rest others up e = by (lt b a) refl
    where
      by : (q : Bool) → lt b a ≡ q → q ≡ false
      by true t =
          let none = none_below a a rest (not_itself a) up in
          let one = more a b others true t in
          absurd (omega (arith, none, one, e))
      by false t = refl

  -- sorted lists with the same elements are one
  pub one_order : (xs ys : List K) → IsSortedBy lt xs → IsSortedBy lt ys → ((f : K → ℕ) → sum_by f xs ≡ sum_by f ys) → xs ≡ ys
  one_order [] [] up rise h = refl
  one_order [] (b ∷ ys) up rise h = let e = h (λ k. 1) in let c = sum_by-cons (λ (k : K). 1) b ys in absurd (omega (arith, e, c))
  one_order (a ∷ xs) [] up rise h = let e = h (λ k. 1) in let c = sum_by-cons (λ (k : K). 1) a xs in absurd (omega (arith, e, c))
  one_order (a ∷ xs) (b ∷ ys) up rise h =
      let first : a ≡ b = same a b (not_below b a ys xs rise (sym (h (λ k. cond (lt k b) 1 0)))) (not_below a b xs ys up (h (λ k. cond (lt k a) 1 0))) in
      let rest : xs ≡ ys = one_order xs ys (tail_sorted a xs up) (tail_sorted b ys rise) (λ f.
      let e = h f in let c = sum_by-cons f a xs in let d = sum_by-cons f b ys in let g : f a ≡ f b = ap f first in omega (arith, e, c, d, g)) in
      λ i. first i ∷ rest i

-- ---- keys

abbrev pub before : SnapKey → SnapKey → Bool
before a b = is_lt (snap_cmp a b)

pub keys_weak : IsStrictWeakOrder before
keys_weak = ranks_by snaps_total (λ k. k)

equal : (x y : Ordering) → y ≡ ordering_reverse x → is_lt x ≡ false → is_lt y ≡ false → x ≡ Equal
equal Less y e h g = absurd (true≢false h)
equal Equal y e h g = refl
equal Greater y e h g = absurd (true≢false (sym (ap is_lt e) ∙ g))

pub same_key : (a b : SnapKey) → before a b ≡ false → before b a ≡ false → a ≡ b
same_key a b h g = exact_snaps a b (equal (snap_cmp a b) (snap_cmp b a) (snaps_total.antisymm b a) h g)

abbrev earlier : Made → Made → Bool
earlier a b = before a.key b.key

made_weak : IsStrictWeakOrder earlier
made_weak = ranks_by snaps_total (λ m. m.key)

keys_ascend : (xs : List Made) → IsSortedBy earlier xs → IsSorted snap_cmp (map (λ m. m.key) xs)
keys_ascend xs up k d low high =
    let e : Made = record { key = d; start = record { second = 0 }; locked = false; archived = false } in
    let len = length-map xs (λ (m : Made). m.key) in
    let inside : k + 1 < length xs = omega (arith, high, len) in
    let here = get_or-map (λ (m : Made). m.key) xs k e d (omega (arith, inside)) in
    let next = get_or-map (λ (m : Made). m.key) xs (k + 1) e d inside in
    (λ i. before (next i) (here i)) ∙ up k e low inside

-- keys that ascend are in order as they stand
pub in_there : (test : Made → Bool) (made : List Made) (ids : List AnyKey) → AreInOrder (keys_of test made) ids → Ascend made → ids ≡ map Snap (keys_of test made)
in_there test made ids (sorted, is, rises, moved) up =
    let keys = keys_of test made in
    is ∙ ap (map Snap) (sym (one_order before keys_weak same_key keys sorted (keys_ascend (filter test made) (IsSortedBy-filter earlier made_weak test made up)) rises (λ f. sym (sum_by-IsPermutation f keys sorted moved))))
