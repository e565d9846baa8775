-- Changes of a finite map that change nothing.
use Rattle.std.proofs.Common.{◌≡◌, ℕ, ◌<◌, ◌⊎◌, inl, inr, arith, Bool, true, false, cond, Option, Some, None, Less, Equal, Greater, Ordering, refl, sym, ap, ◌∙◌, is_some}
use Rattle.std.proofs.lemmas.Bool.{false≢true}
use Rattle.std.proofs.lemmas.Cmp.{tied_itself}
use Rattle.std.specs.Ordering.{nat_cmp, eq_by_cmp, is_eq}
use Rattle.std.specs.Cmp.{IsTotalOrder}
use Rattle.std.specs.FinMap.{FinMap, nat_cmp-IsAntisymmetric, get, contains_key, insert, remove, IsAntisymmetric, same_map, get-insert, get-remove}

module _ {K : Type 0} {R : K → K → Ordering} (same : IsAntisymmetric R) where
  pub is_same : (q k : K) → eq_by_cmp R q k ≡ true → q ≡ k
  is_same q k e = same q k (tie (R q k) e)
    where
      tie : (r : Ordering) → is_eq r ≡ true → r ≡ Equal
      tie Equal e = refl
      tie Less e = absurd (false≢true e)
      tie Greater e = absurd (false≢true e)

module _ {K X : Type 0} {R : K → K → Ordering} (o : IsTotalOrder R) (same : IsAntisymmetric R) where
  -- what is written is there already
  pub insert-known : (m : FinMap R X) (k : K) (v : X) → get m k ≡ Some v → insert m k v ≡ m
  insert-known m k v h = same_map o same _ _ (λ q. get-insert o m k v q ∙ at q (eq_by_cmp R q k) refl)
    where
      at : (q : K) (b : Bool) → eq_by_cmp R q k ≡ b → cond b (Some v) (get m q) ≡ get m q
      at q true e = sym h ∙ ap (get m) (sym (is_same same q k e))
      at q false e = refl

  -- a new key that is taken out again
  pub remove-insert : (m : FinMap R X) (k : K) (v : X) → contains_key m k ≡ false → remove (insert m k v) k ≡ m
  remove-insert m k v h = same_map o same _ _ (λ q. get-remove o (insert m k v) k q ∙ ap (cond (eq_by_cmp R q k) None) (get-insert o m k v q) ∙ at q (eq_by_cmp R q k) refl)
    where
      none : (x : Option X) → is_some x ≡ false → None ≡ x
      none None e = refl
      none (Some x) e = absurd (false≢true (sym e))

      at : (q : K) (b : Bool) → eq_by_cmp R q k ≡ b → cond b None (cond b (Some v) (get m q)) ≡ get m q
      at q true e = none (get m k) h ∙ ap (get m) (sym (is_same same q k e))
      at q false e = refl

is_marked : (o : Option (Unit {0})) → is_some o ≡ true → o ≡ Some tt
is_marked None e = absurd (false≢true e)
is_marked (Some u) e = refl

pub marked_again : {K : Type 0} {R : K → K → Ordering} (o : IsTotalOrder R) (same : IsAntisymmetric R) (m : FinMap R (Unit {0})) (k : K) → contains_key m k ≡ true → insert m k tt ≡ m
marked_again o same m k h = insert-known o same m k tt (is_marked (get m k) h)

-- what is found after an insert is what was inserted or what was there
pub get-inserted : {K X : Type 0} {R : K → K → Ordering} (o : IsTotalOrder R) (m : FinMap R X) (k : K) (v : X) (q : K) (x : X) → get (insert m k v) q ≡ Some x → (x ≡ v) ⊎ (get m q ≡ Some x)
get-inserted {X = X} {R = R} o m k v q x e = from (eq_by_cmp R q k) (sym (get-insert o m k v q) ∙ e)
  where
    from : (b : Bool) → cond b (Some v) (get m q) ≡ Some x → (x ≡ v) ⊎ (get m q ≡ Some x)
    from true e = inl (cc)
    from false e = inr e

-- a lesser number is another
pub apart : (a b : ℕ) → a < b → eq_by_cmp nat_cmp a b ≡ false
apart a b h = by (eq_by_cmp nat_cmp a b) refl
  where
    by : (t : Bool) → eq_by_cmp nat_cmp a b ≡ t → eq_by_cmp nat_cmp a b ≡ false
    by true e = let same : a ≡ b = is_same nat_cmp-IsAntisymmetric a b e in absurd (omega arith)
    by false e = e

pub tied : {K : Type 0} {R : K → K → Ordering} (o : IsTotalOrder R) (k : K) → eq_by_cmp R k k ≡ true
tied {R = R} o k = ap is_eq (tied_itself o k)

module _ {K X : Type 0} {R : K → K → Ordering} (o : IsTotalOrder R) (same : IsAntisymmetric R) where
  -- an insert that is taken back
  pub remove-back : (m : FinMap R X) (k : K) (v : X) → None ≡ get m k → remove (insert m k v) k ≡ m
  remove-back m k v h = remove-insert o same m k v (sym (ap is_some h))

  pub insert-back : (m : FinMap R X) (k : K) (v w : X) → Some w ≡ get m k → insert (insert m k v) k w ≡ m
  insert-back m k v w h = same_map o same _ _ (λ q.
      get-insert o (insert m k v) k w q ∙ ap (cond (eq_by_cmp R q k) (Some w)) (get-insert o m k v q) ∙ at q (eq_by_cmp R q k) refl)
    where
      at : (q : K) (b : Bool) → eq_by_cmp R q k ≡ b → cond b (Some w) (cond b (Some v) (get m q)) ≡ get m q
      at q true e = h ∙ ap (get m) (sym (is_same same q k e))
      at q false e = refl

  -- a value that is taken out and written again
  pub put_back : (m : FinMap R X) (k : K) (v : X) → get m k ≡ Some v → insert (remove m k) k v ≡ m
  put_back m k v h = same_map o same _ _ (λ q.
      get-insert o (remove m k) k v q ∙ ap (cond (eq_by_cmp R q k) (Some v)) (get-remove o m k q) ∙ at q (eq_by_cmp R q k) refl)
    where
      at : (q : K) (b : Bool) → eq_by_cmp R q k ≡ b → cond b (Some v) (cond b None (get m q)) ≡ get m q
      at q true e = sym h ∙ ap (get m) (sym (is_same same q k e))
      at q false e = refl
