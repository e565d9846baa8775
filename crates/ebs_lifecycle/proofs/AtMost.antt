-- A count leaves at most so many.
use Rattle.std.proofs.Common.{◌≡◌, ℕ, ◌+◌, ◌<◌, ◌≤◌, ◌⊎◌, inl, inr, Bool, true, false, cond, true≢false, not, ◌&&◌, arith, List, [], ◌∷◌, refl, sym, ap, ◌∙◌}
use Rattle.std.specs.Prelude.{nat_le}
use Rattle.std.specs.Ordering.{nat_cmp, ordering_then, ordering_reverse, is_lt}
use Rattle.std.specs.Cmp.{IsStrictWeakOrder, IsTotalOrder}
use Rattle.std.specs.List.{count_by}
use Rattle.std.specs.declared.cmp.Ordering.{Ordering}
use Rattle.std.specs.declared.cmp.Ordering.TheVariants.{Less, Equal, Greater}
use Rattle.std.proofs.lemmas.Bool.Decides.{nat_tests}
use Rattle.std.proofs.lemmas.Cmp.{nat_cmp_total, on_total, then_total}
use Rattle.std.proofs.lemmas.List.Sums.{sum_by-cons}
use Rattle.std.proofs.lemmas.List.Sorted.{ranks_by}
use Rattle.ebs_model.specs.declared.policy.Made.{Made}
use Rattle.ebs_model.specs.Keys.{snap_cmp}
use Rattle.ebs_model.specs.inner.Orders.{snaps_total, exact_snaps}
use Rattle.ebs_model.specs.Rows.{is_key}
use Rattle.ebs_model.specs.Retention.{is_before, newer}
use Rattle.ebs_model.proofs.RowLaws.{key_itself}
use Rattle.ebs_lifecycle.specs.RetentionLaws.{AreDistinct, AtMostStay}

-- what a test counts of a list
counts : {K : Type 0} (p : K → Bool) (a : K) (rest : List K) (b : Bool) → p a ≡ b → count_by p (a ∷ rest) ≡ cond b 1 0 + count_by p rest
counts p a rest b t = sum_by-cons (λ k. cond (p k) 1 0) a rest ∙ ap (λ b. cond b 1 0 + count_by p rest) t

fewer : {K : Type 0} (p q : K → Bool) → ((y : K) → p y ≡ true → q y ≡ true) → (xs : List K) → count_by p xs ≤ count_by q xs
fewer p q h [] = omega arith
fewer p q h (a ∷ rest) = by (p a) (q a) refl refl (fewer p q h rest)
  where
    by : (b c : Bool) → p a ≡ b → q a ≡ c → count_by p rest ≤ count_by q rest → count_by p (a ∷ rest) ≤ count_by q (a ∷ rest)
    by true true t u le = let e = counts p a rest true t in let f = counts q a rest true u in omega (arith, e, f, le)
    by true false t u le = absurd (true≢false (sym (h a t) ∙ u))
    by false true t u le = let e = counts p a rest false t in let f = counts q a rest true u in omega (arith, e, f, le)
    by false false t u le = let e = counts p a rest false t in let f = counts q a rest false u in omega (arith, e, f, le)

first_is : (a b : Bool) → (a && b) ≡ true → a ≡ true
first_is true b e = refl
first_is false b e = absurd (true≢false (sym e))

module _ {K : Type 0} (lt : K → K → Bool) (o : IsStrictWeakOrder lt) (q : K → Bool) where
  abbrev under : K → K → Bool
  under x y = q y && lt y x

  not_itself : (a : K) → lt a a ≡ false
  not_itself a = by (lt a a) refl
    where
      by : (b : Bool) → lt a a ≡ b → b ≡ false
      by true e = absurd (true≢false (sym e ∙ o.one_way a a e))
      by false e = refl

  -- the least of those that pass
  abbrev Least : List K → Type 0
  Least xs = (count_by q xs ≡ 0) ⊎ ((x : K) × ((q x ≡ true) × (count_by (under x) xs ≡ 0)))

  below_both : (a x y : K) → lt a x ≡ true → under a y ≡ true → under x y ≡ true
  below_both a x y t e = by (q y) (lt y a) (lt y x) refl refl e
    where
      by : (b c d : Bool) → lt y a ≡ c → lt y x ≡ d → (b && c) ≡ true → (b && d) ≡ true
      by true true true u v e = refl
      by true true false u v e = absurd (true≢false (sym u ∙ o.chain y x a v (o.one_way a x t)))
      by true false d u v e = absurd (true≢false (sym e))
      by false c d u v e = absurd (true≢false (sym e))

  least : (xs : List K) → Least xs
  least [] = inl refl
  least (a ∷ rest) = by (q a) refl (least rest)
    where
      new : q a ≡ true → count_by (under a) rest ≤ 0 → Least (a ∷ rest)
      new t none =
          let e = counts (under a) a rest false ((λ i. t i && not_itself a i)) in
          inr (a, (t, omega (arith, e, none)))

      old : (x : K) → q x ≡ true → under x a ≡ false → count_by (under x) rest ≡ 0 → Least (a ∷ rest)
      old x t u none = let e = counts (under x) a rest false u in inr (x, (t, omega (arith, e, none)))

      either : q a ≡ true → (x : K) → q x ≡ true → count_by (under x) rest ≡ 0 → (b : Bool) → lt a x ≡ b → Least (a ∷ rest)
      either t x u none true v = let less = fewer (under a) (under x) (λ y. below_both a x y v) rest in new t (omega (arith, less, none))
      either t x u none false v = old x u (λ i. t i && v i) none

      by : (b : Bool) → q a ≡ b → Least rest → Least (a ∷ rest)
      by true t (inl none) = let less = fewer (under a) q (λ y. first_is (q y) (lt y a)) rest in new t (omega (arith, less, none))
      by true t (inr (x, (u, none))) = either t x u none (lt a x) refl
      by false t (inl none) = let e = counts q a rest false t in inl (omega (arith, e, none))
      by false t (inr (x, (u, none))) = old x u (ap (λ b. b && lt a x) t) none

  abbrev ties : K → K → Bool
  ties x y = not (lt y x) && not (lt x y)

  -- each that passes is below x, above it or ties with it
  parts : (x : K) (xs : List K) → count_by q xs ≤ count_by (under x) xs + (count_by (λ y. lt x y) xs + count_by (ties x) xs)
  parts x [] = omega arith
  parts x (a ∷ rest) = by (q a) (lt a x) (lt x a) refl refl refl (parts x rest)
    where
      by : (b c d : Bool) → q a ≡ b → lt a x ≡ c → lt x a ≡ d → count_by q rest ≤ count_by (under x) rest + (count_by (λ y. lt x y) rest + count_by (ties x) rest)
          → count_by q (a ∷ rest) ≤ count_by (under x) (a ∷ rest) + (count_by (λ y. lt x y) (a ∷ rest) + count_by (ties x) (a ∷ rest))
      by b c d t u v le =
          let e = counts q a rest b t in
          let f = counts (under x) a rest (b && c) (λ i. t i && u i) in
          let g = counts (λ y. lt x y) a rest d v in
          let h = counts (ties x) a rest (not c && not d) (λ i. not (u i) && not (v i)) in
          omega (arith, e, f, g, h, le, bits b c d)
        where
          bits : (b c d : Bool) → cond b 1 0 ≤ cond (b && c) 1 0 + (cond d 1 0 + cond (not c && not d) 1 0)
          bits true true d = omega arith
          bits true false true = omega arith
          bits true false false = omega arith
          bits false c d = omega arith

-- ---- snapshots

rank_total : IsTotalOrder (λ (a b : Made). ordering_then (nat_cmp a.start.second b.start.second) (snap_cmp a.key b.key))
rank_total = then_total (on_total (λ (m : Made). m.start.second) nat_cmp_total) (on_total (λ (m : Made). m.key) snaps_total)

weak : IsStrictWeakOrder is_before
weak = ranks_by rank_total (λ m. m)

equal : (x y : Ordering) → y ≡ ordering_reverse x → is_lt x ≡ false → is_lt y ≡ false → x ≡ Equal
equal Less y e h g = absurd (true≢false h)
equal Equal y e h g = refl
equal Greater y e h g = absurd (true≢false (sym (ap is_lt e) ∙ g))

then_equal : (x y : Ordering) → ordering_then x y ≡ Equal → y ≡ Equal
then_equal Less y e = cc
then_equal Equal y e = e
then_equal Greater y e = cc

both_no : (a b : Bool) → (not a && not b) ≡ true → (a ≡ false) × (b ≡ false)
both_no true b e = absurd (true≢false (sym e))
both_no false true e = absurd (true≢false (sym e))
both_no false false e = (refl, refl)

abbrev tied : Made → Made → Bool
tied x y = ties is_before weak (λ m. true) x y

tied_key : (x y : Made) → tied x y ≡ true → x.key ≡ y.key
tied_key x y e =
    let no = both_no (is_before y x) (is_before x y) e in
    exact_snaps x.key y.key (then_equal _ _ (equal _ _ (rank_total.antisymm y x) no.1 no.0))

one_at_most : (x : Made) (made : List Made) → AreDistinct made → count_by (tied x) made ≤ 1
one_at_most x [] distinct = omega arith
one_at_most x (m ∷ made) distinct = by (tied x m) refl (one_at_most x made distinct.1)
  where
    alike : x.key ≡ m.key → (y : Made) → tied x y ≡ true → is_key m.key y.key ≡ true
    alike same y e = (λ i. is_key (sym same i) (sym (tied_key x y e) i)) ∙ key_itself x.key

    by : (b : Bool) → tied x m ≡ b → count_by (tied x) made ≤ 1 → count_by (tied x) (m ∷ made) ≤ 1
    by true t few =
        let e = counts (tied x) m made true t in
        let none = fewer (tied x) (λ y. is_key m.key y.key) (alike (tied_key x m t)) made in
        omega (arith, e, none, distinct.0)
    by false t few = let e = counts (tied x) m made false t in omega (arith, e, few)

few_newer : (n k : ℕ) → not (nat_le n k) ≡ true → k < n
few_newer n k e = by (nat_le n k) refl e
  where
    by : (b : Bool) → nat_le n k ≡ b → not b ≡ true → k < n
    by true t u = absurd (true≢false (sym u))
    by false t u = grind (arith, nat_tests)

module _ (n : ℕ) (made : List Made) (distinct : AreDistinct made) where
  abbrev stays : Made → Bool
  stays m = not (nat_le n (newer made m))

  few_stay : Least is_before weak stays made → count_by stays made ≤ n
  few_stay (inl none) = omega (arith, none)
  few_stay (inr (x, (stay, none))) =
      let all = parts is_before weak stays x made in
      let ties_few = one_at_most x made distinct in
      let few = few_newer n (newer made x) stay in
      omega (arith, all, ties_few, few, none)

pub at_most : AtMostStay
at_most n made now distinct = few_stay n made distinct (least is_before weak (stays n made distinct) made)
