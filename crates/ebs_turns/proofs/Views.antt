-- Views of which one changes.
use Rattle.std.proofs.Common.{◌≡◌, ◌≢◌, ◌⊎◌, ℕ, zero, suc, ◌+◌, ◌*◌, ◌≤◌, List, [], ◌∷◌, ◌++◌, length, set, refl, ap, sym, ◌∙◌, subst, ⊎_elim, inl, inr, arith, sum_by}
use mathlib.Core.Option.{some, some-injective, some-ne-none}
use lib.ListN.{get_elem?}
use mathlib.Core.Logic.{dite}
use native.Mathlib.Decide.{ℕ_discrete}
use Rattle.atomic_table.proofs.Lists.{at_set, set_else}
use Rattle.std.proofs.lemmas.List.Sums.{sum_by-cons}

module _ {V : Type 0} where
  pub each_set : (P : ℕ → V → Type 0) (vs : List V) (i : ℕ) (w : V) → P i w → ((j : ℕ) (u : V) → j ≢ i → get_elem? vs j ≡ some u → P j u)
      → (j : ℕ) (u : V) → get_elem? (set vs i w) j ≡ some u → P j u
  each_set P vs i w here others j u e = ⊎_elim (λ (t : (j ≡ i) × (w ≡ u)). subst (λ (x : ℕ × V). P x.0 x.1) (λ k. (sym t.0 k, t.1 k)) here)
      (λ (t : (j ≢ i) × (get_elem? vs j ≡ some u)). others j u t.0 t.1) (at_set vs i j w u e)

  -- a fact of each two seats, which does not tell the two apart
  pub pairs_set : (P : V → V → Type 0) (vs : List V) (i : ℕ) (w : V) → ((u : V) (v : V) → P u v → P v u) → ((j : ℕ) (u : V) → j ≢ i → get_elem? vs j ≡ some u → P w u)
      → ((j k : ℕ) (u v : V) → j ≢ k → get_elem? vs j ≡ some u → get_elem? vs k ≡ some v → P u v)
      → (j k : ℕ) (u v : V) → j ≢ k → get_elem? (set vs i w) j ≡ some u → get_elem? (set vs i w) k ≡ some v → P u v
  pairs_set P vs i w turn mine old j k u v apart e f =
      ⊎_elim (λ (t : (j ≡ i) × (w ≡ u)). ⊎_elim (λ (q : (k ≡ i) × (w ≡ v)). absurd (apart (t.0 ∙ sym q.0)))
      (λ (q : (k ≢ i) × (get_elem? vs k ≡ some v)). subst (λ (x : V). P x v) t.1 (mine k v q.0 q.1)) (at_set vs i k w v f))
      (λ (t : (j ≢ i) × (get_elem? vs j ≡ some u)). ⊎_elim (λ (q : (k ≡ i) × (w ≡ v)). subst (λ (x : V). P u x) q.1 (turn w u (mine j u t.0 t.1)))
      (λ (q : (k ≢ i) × (get_elem? vs k ≡ some v)). old j k u v apart t.1 q.1) (at_set vs i k w v f)) (at_set vs i j w u e)

  pub sum_set : (f : V → ℕ) (vs : List V) (i : ℕ) (v w : V) → get_elem? vs i ≡ some v → sum_by f (set vs i w) + f v ≡ sum_by f vs + f w
  sum_set f [] i v w e = absurd (some-ne-none v (sym e))
  sum_set f (x ∷ xs) zero v w e = let a = sum_by-cons f w xs in let b = sum_by-cons f x xs in let c : f x ≡ f v = ap f (some-injective x v e) in omega arith
  sum_set f (x ∷ xs) (suc i) v w e = let a = sum_by-cons f x (set xs i w) in let b = sum_by-cons f x xs in let c = sum_set f xs i v w e in omega arith

  pub sum_le : (f g : V → ℕ) (vs : List V) → ((j : ℕ) (v : V) → get_elem? vs j ≡ some v → f v ≤ 2 * g v) → sum_by f vs ≤ 2 * sum_by g vs
  sum_le f g [] h = omega arith
  sum_le f g (x ∷ xs) h = let a = sum_by-cons f x xs in let b = sum_by-cons g x xs in let c = sum_le f g xs (λ j v e. h (suc j) v e) in let d = h 0 x refl in omega arith

  pub sum_at : (f : V → ℕ) (vs : List V) (i : ℕ) (v : V) → get_elem? vs i ≡ some v → f v ≤ sum_by f vs
  sum_at f [] i v e = absurd (some-ne-none v (sym e))
  sum_at f (x ∷ xs) zero v e = let b = sum_by-cons f x xs in let c : f x ≡ f v = ap f (some-injective x v e) in omega arith
  sum_at f (x ∷ xs) (suc i) v e = let b = sum_by-cons f x xs in let c = sum_at f xs i v e in omega arith

  -- two seats that count all have none beside them
  pub sum_two : (f : V → ℕ) (vs : List V) (i j : ℕ) (v w : V) → i ≢ j → get_elem? vs i ≡ some v → get_elem? vs j ≡ some w → f v + f w ≤ sum_by f vs
  sum_two f [] i j v w n e d = absurd (some-ne-none v (sym e))
  sum_two f (x ∷ xs) zero zero v w n e d = absurd (n refl)
  sum_two f (x ∷ xs) zero (suc j) v w n e d = let b = sum_by-cons f x xs in let c : f x ≡ f v = ap f (some-injective x v e) in let q = sum_at f xs j w d in omega arith
  sum_two f (x ∷ xs) (suc i) zero v w n e d = let b = sum_by-cons f x xs in let c : f x ≡ f w = ap f (some-injective x w d) in let q = sum_at f xs i v e in omega arith
  sum_two f (x ∷ xs) (suc i) (suc j) v w n e d = let b = sum_by-cons f x xs in let q = sum_two f xs i j v w (λ k. n (ap suc k)) e d in omega arith

  pub set_at : (vs : List V) (i : ℕ) (v w : V) → get_elem? vs i ≡ some v → get_elem? (set vs i w) i ≡ some w
  set_at [] i v w e = absurd (some-ne-none v (sym e))
  set_at (x ∷ xs) zero v w e = refl
  set_at (x ∷ xs) (suc i) v w e = set_at xs i v w e

  -- a seat of which P holds is still there
  pub persists : (P : V → Type 0) (vs : List V) (i : ℕ) (v w : V) → get_elem? vs i ≡ some v → (P v → P w) → (j : ℕ) (u : V) → get_elem? vs j ≡ some u → P u
      → (k : ℕ) × (z : V) × (get_elem? (set vs i w) k ≡ some z) × P z
  persists P vs i v w at on j u e p = dite (ℕ_discrete j i)
      (λ same. (i, w, set_at vs i v w at, on (subst P (some-injective u v (sym e ∙ (ap (get_elem? vs) same ∙ at))) p)))
      (λ other. (j, u, set_else vs i j w other ∙ e, p))

  snoc_cases : (vs : List V) (a u : V) (j : ℕ) → get_elem? (vs ++ a ∷ []) j ≡ some u → ((j ≢ length vs) × (get_elem? vs j ≡ some u)) ⊎ ((j ≡ length vs) × (a ≡ u))
  snoc_cases [] a u zero e = inr (refl, some-injective a u e)
  snoc_cases [] a u (suc j) e = absurd (some-ne-none u (sym e))
  snoc_cases (x ∷ xs) a u zero e = inl ((λ h. omega arith), e)
  snoc_cases (x ∷ xs) a u (suc j) e = ⊎_elim (λ t. let n = t.0 in inl ((λ h. n (omega arith)), t.1)) (λ t. inr (ap suc t.0, t.1)) (snoc_cases xs a u j e)

  pub each_push : (P : ℕ → V → Type 0) (vs : List V) (a : V) → P (length vs) a → ((j : ℕ) (u : V) → get_elem? vs j ≡ some u → P j u) → (j : ℕ) (u : V) → get_elem? (vs ++ a ∷ []) j ≡ some u → P j u
  each_push P vs a here others j u e = ⊎_elim (λ (t : (j ≢ length vs) × (get_elem? vs j ≡ some u)). others j u t.1) (λ (t : (j ≡ length vs) × (a ≡ u)). subst (λ (x : ℕ × V). P x.0 x.1) (λ k. (sym t.0 k, t.1 k)) here) (snoc_cases vs a u j e)

  pub pairs_push : (P : V → V → Type 0) (vs : List V) (a : V) → ((u : V) (v : V) → P u v → P v u) → ((j : ℕ) (u : V) → get_elem? vs j ≡ some u → P a u)
      → ((j k : ℕ) (u v : V) → j ≢ k → get_elem? vs j ≡ some u → get_elem? vs k ≡ some v → P u v)
      → (j k : ℕ) (u v : V) → j ≢ k → get_elem? (vs ++ a ∷ []) j ≡ some u → get_elem? (vs ++ a ∷ []) k ≡ some v → P u v
  pairs_push P vs a turn mine old j k u v apart e f =
      ⊎_elim (λ (t : (j ≢ length vs) × (get_elem? vs j ≡ some u)). ⊎_elim (λ (q : (k ≢ length vs) × (get_elem? vs k ≡ some v)). old j k u v apart t.1 q.1)
      (λ (q : (k ≡ length vs) × (a ≡ v)). subst (λ (x : V). P u x) q.1 (turn a u (mine j u t.1))) (snoc_cases vs a v k f))
      (λ (t : (j ≡ length vs) × (a ≡ u)). ⊎_elim (λ (q : (k ≢ length vs) × (get_elem? vs k ≡ some v)). subst (λ (x : V). P x v) t.1 (mine k v q.1))
      (λ (q : (k ≡ length vs) × (a ≡ v)). absurd (apart (t.0 ∙ sym q.0))) (snoc_cases vs a v k f)) (snoc_cases vs a u j e)
