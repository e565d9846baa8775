-- Finite maps by key, through their edits.
use Rattle.std.proofs.Common.{◌≡◌, ◌⊎◌, inl, inr, Bool, true, false, cond, Some, None, Ordering, refl, sym, ap, ◌∙◌}
use Rattle.std.proofs.lemmas.Bool.{false≢true}
use Rattle.std.specs.Ordering.{eq_by_cmp}
use Rattle.std.specs.Cmp.{IsTotalOrder}
use Rattle.std.specs.FinMap.{FinMap, get, insert, remove, IsAntisymmetric, same_map, get-insert, get-remove}
use Rattle.ebs_tables.proofs.MapEdits.{is_same, tied}

module _ {K : Type 0} {R : K → K → Ordering} (o : IsTotalOrder R) (same : IsAntisymmetric R) where
  pub cases : (q k : K) → ((eq_by_cmp R q k ≡ true) × (q ≡ k)) ⊎ ((eq_by_cmp R q k ≡ false) × (q ≡ k → ⊥))
  cases q k = by (eq_by_cmp R q k) refl
    where
      by : (b : Bool) → eq_by_cmp R q k ≡ b → ((eq_by_cmp R q k ≡ true) × (q ≡ k)) ⊎ ((eq_by_cmp R q k ≡ false) × (q ≡ k → ⊥))
      by true e = inl (e, is_same same q k e)
      by false e = inr (e, λ s. false≢true (sym e ∙ ap (λ x. eq_by_cmp R x k) s ∙ tied o k))

module _ {K X : Type 0} {R : K → K → Ordering} (o : IsTotalOrder R) (same : IsAntisymmetric R) where
  pub at_key : (m : FinMap R X) (k : K) (v : X) (q : K) → q ≡ k → get (insert m k v) q ≡ Some v
  at_key m k v q e = get-insert o m k v q ∙ ap (λ x. cond (eq_by_cmp R x k) (Some v) (get m q)) e ∙ ap (λ b. cond b (Some v) (get m q)) (tied o k)

  pub off_key : (m : FinMap R X) (k : K) (v : X) (q : K) → eq_by_cmp R q k ≡ false → get (insert m k v) q ≡ get m q
  off_key m k v q e = get-insert o m k v q ∙ ap (λ b. cond b (Some v) (get m q)) e

  pub got : (m : FinMap R X) (k : K) (v : X) (q : K) (x : X) → get (insert m k v) q ≡ Some x → ((eq_by_cmp R q k ≡ true) × (q ≡ k) × (v ≡ x)) ⊎ ((eq_by_cmp R q k ≡ false) × (q ≡ k → ⊥) × (get m q ≡ Some x))
  got m k v q x h = elim (cases o same q k) [
    | inl t ↦ inl (t.0, t.1, let is : Some v ≡ Some x = sym (at_key m k v q t.1) ∙ h in cc)
    | inr t ↦ inr (t.0, t.1, sym (off_key m k v q t.0) ∙ h)
  ]

  pub left : (m : FinMap R X) (k q : K) (x : X) → get (remove m k) q ≡ Some x → ((q ≡ k → ⊥) × (get m q ≡ Some x))
  left m k q x h = elim (cases o same q k) [
    | inl t ↦ absurd (let none : None ≡ Some x = sym (get-remove o m k q ∙ ap (λ b. cond b None (get m q)) t.0) ∙ h in cc)
    | inr t ↦ (t.1, sym (get-remove o m k q ∙ ap (λ b. cond b None (get m q)) t.0) ∙ h)
  ]

  pub stays : (m : FinMap R X) (k q : K) → (q ≡ k → ⊥) → get (remove m k) q ≡ get m q
  stays m k q off = elim (cases o same q k) [
    | inl t ↦ absurd (off t.1)
    | inr t ↦ get-remove o m k q ∙ ap (λ b. cond b None (get m q)) t.0
  ]

  -- nothing was there
  pub without : (m : FinMap R X) (k : K) → get m k ≡ None → remove m k ≡ m
  without m k none = same_map o same (remove m k) m (λ q. at q (cases o same q k))
    where
      at : (q : K) → ((eq_by_cmp R q k ≡ true) × (q ≡ k)) ⊎ ((eq_by_cmp R q k ≡ false) × (q ≡ k → ⊥)) → get (remove m k) q ≡ get m q
      at q (inl t) = get-remove o m k q ∙ ap (λ b. cond b None (get m q)) t.0 ∙ sym (ap (get m) t.1 ∙ none)
      at q (inr t) = stays m k q t.1

  pub gone_at : (m : FinMap R X) (k : K) → get (remove m k) k ≡ None
  gone_at m k = get-remove o m k k ∙ ap (λ b. cond b None (get m k)) (tied o k)
