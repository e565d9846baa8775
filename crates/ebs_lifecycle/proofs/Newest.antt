-- How many of a sorted list are above something.
use Rattle.std.proofs.Common.{◌≡◌, ℕ, suc, ◌+◌, ◌-◌, ◌<◌, ◌≤◌, Bool, true, false, cond, true≢false, arith, List, [], ◌∷◌, length, get_or, refl, sym, ap, ◌∙◌, subst, inl, inr}
use Rattle.std.specs.Prelude.{nat_le}
use Rattle.std.specs.Cmp.{IsStrictWeakOrder}
use Rattle.std.specs.List.{count_by}
use Rattle.std.specs.List.Sorted.{IsSortedBy}
use Rattle.std.proofs.lemmas.Bool.{cases_lt}
use Rattle.std.proofs.lemmas.Bool.Decides.{nat_tests}
use Rattle.std.proofs.lemmas.List.Sums.{count_by-le-length, sum_by-cons}

pub le_true : (a b : ℕ) → a ≤ b → nat_le a b ≡ true
le_true a b h = grind (arith, nat_tests)

pub le_false : (a b : ℕ) → b < a → nat_le a b ≡ false
le_false a b h = grind (arith, nat_tests)

pub le_is : (a b : ℕ) → nat_le a b ≡ true → a ≤ b
le_is a b e = grind (arith, nat_tests)

module _ {K : Type 0} (lt : K → K → Bool) (o : IsStrictWeakOrder lt) (x d : K) where
  abbrev above : List K → ℕ
  above xs = count_by (λ r. lt x r) xs

  abbrev from_end : ℕ → List K → K
  from_end n xs = get_or xs (length xs - n) d

  -- what isn't below the first is above what the first is above
  higher : (a b : K) → lt b a ≡ false → lt x a ≡ true → lt x b ≡ true
  higher a b h t = by (lt x b) refl
    where
      by : (q : Bool) → lt x b ≡ q → q ≡ true
      by true e = refl
      by false e = absurd (true≢false (sym t ∙ o.chain x b a e h))

  more : (a : K) (rest : List K) → lt x a ≡ true → above (a ∷ rest) ≡ 1 + above rest
  more a rest t = sum_by-cons (λ r. cond (lt x r) 1 0) a rest ∙ ap (λ q. cond q 1 0 + above rest) t

  same : (a : K) (rest : List K) → lt x a ≡ false → above (a ∷ rest) ≡ 0 + above rest
  same a rest t = sum_by-cons (λ r. cond (lt x r) 1 0) a rest ∙ ap (λ q. cond q 1 0 + above rest) t

  tail_sorted : (a : K) (rest : List K) → IsSortedBy lt (a ∷ rest) → IsSortedBy lt rest
  tail_sorted a rest up k e low high =
      let n : suc k + 1 ≡ suc (k + 1) = omega arith in
      subst (λ i. lt (get_or (a ∷ rest) i e) (get_or rest k e) ≡ false) n (up (suc k) e (omega arith) (omega (arith, high)))

  -- in a sorted list whose first is above x all are
  all_above : (a : K) (rest : List K) → IsSortedBy lt (a ∷ rest) → lt x a ≡ true → above (a ∷ rest) ≡ 1 + length rest
  all_above a [] up t = more a [] t
  all_above a (b ∷ bs) up t =
      let first : lt b a ≡ false = up 0 d (omega arith) (omega arith) in
      let all = all_above b bs (tail_sorted a (b ∷ bs) up) (higher a b first t) in
      let m = more a (b ∷ bs) t in
      omega (arith, m, all)

  at_first : (a : K) (rest : List K) (n : ℕ) → n ≡ 1 + length rest → from_end n (a ∷ rest) ≡ a
  at_first a rest n e = let z : suc (length rest) - n ≡ 0 = omega (arith, e) in ap (λ i. get_or (a ∷ rest) i d) z

  in_rest : (a : K) (rest : List K) (n : ℕ) → n ≤ length rest → from_end n (a ∷ rest) ≡ from_end n rest
  in_rest a rest n part = let z : suc (length rest) - n ≡ suc (length rest - n) = omega (arith, part) in ap (λ i. get_or (a ∷ rest) i d) z

  -- the whole list
  whole : (a : K) (rest : List K) (n : ℕ) → IsSortedBy lt (a ∷ rest) → n ≡ 1 + length rest → (q : Bool) → lt x a ≡ q → lt x (from_end n (a ∷ rest)) ≡ nat_le n (above (a ∷ rest))
  whole a rest n up e true t = ap (λ r. lt x r) (at_first a rest n e) ∙ t ∙ sym (let all = all_above a rest up t in le_true n (above (a ∷ rest)) (omega (arith, e, all)))
  whole a rest n up e false t = ap (λ r. lt x r) (at_first a rest n e) ∙ t ∙ sym (let s = same a rest t in let l = count_by-le-length (λ r. lt x r) rest in le_false n (above (a ∷ rest)) (omega (arith, e, s, l)))

  -- fewer than all
  among : (a : K) (rest : List K) (n : ℕ) → IsSortedBy lt (a ∷ rest) → n ≤ length rest → lt x (from_end n rest) ≡ nat_le n (above rest) → (q : Bool) → lt x a ≡ q
      → lt x (from_end n (a ∷ rest)) ≡ nat_le n (above (a ∷ rest))
  among a rest n up part again false t = ap (λ r. lt x r) (in_rest a rest n part) ∙ again ∙ ap (λ m. nat_le n m) (let s = same a rest t in omega (arith, s))
  among a rest n up part again true t =
      let all = all_above a rest up t in
      let m = more a rest t in
      let few : n ≤ above rest = omega (arith, part, all, m) in
      ap (λ r. lt x r) (in_rest a rest n part) ∙ again ∙ le_true n (above rest) few ∙ sym (le_true n (above (a ∷ rest)) (omega (arith, few, m)))

  -- so many or more are above x exactly where the one that many places from the end is
  pub at_least : (xs : List K) (n : ℕ) → 1 ≤ n → n ≤ length xs → IsSortedBy lt xs → lt x (from_end n xs) ≡ nat_le n (above xs)
  at_least [] n pos fits up = absurd (omega (arith, pos, fits))
  at_least (a ∷ rest) n pos fits up =
      elim (cases_lt (length rest) n) [
        | inl all ↦ whole a rest n up (omega (arith, all, fits)) (lt x a) refl
        | inr part ↦ among a rest n up part (at_least rest n pos part (tail_sorted a rest up)) (lt x a) refl
      ]
