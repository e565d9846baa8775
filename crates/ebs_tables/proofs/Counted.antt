-- How many keys of a finite map pass a test, through its edits.
use Rattle.std.proofs.Common.{◌≡◌, ℕ, ◌+◌, ◌-◌, Bool, true, false, cond, not, arith, List, [], ◌∷◌, length, Some, None, Less, Equal, Greater, Ordering, is_some, refl, sym, ap, ◌∙◌, zero-add, Option}
use Rattle.std.proofs.lemmas.List.Sums.{sum_by-cons}
use Rattle.std.specs.List.{count_by}
use Rattle.std.specs.Cmp.{IsTotalOrder}
use Rattle.std.specs.FinMap.Entries.{put, by_order}
use Rattle.std.specs.FinMap.{FinMap, get, contains_key, insert, remove, entries, IsAntisymmetric, get-remove, entries-insert, len-insert, len-entries, len, len-remove}
use Rattle.ebs_tables.proofs.MapEdits.{put_back, tied}

swap : (a b n m : ℕ) → n ≡ a + m → b + n ≡ a + (b + m)
swap a b n m h = omega arith

module _ {K X : Type 0} (R : K → K → Ordering) where
  abbrev is_new : K → List (K × X) → Bool
  is_new k [] = true
  is_new k (e ∷ es) = by_order (R k e.0) true false (is_new k es)

  abbrev pub count_keys : (K → Bool) → List (K × X) → ℕ
  count_keys p es = count_by (λ e. p e.0) es

  cons : (p : K → Bool) (e : K × X) (es : List (K × X)) → count_keys p (e ∷ es) ≡ cond (p e.0) 1 0 + count_keys p es
  cons p e es = sum_by-cons (λ (x : K × X). cond (p x.0) 1 0) e es

  count-put : (p : K → Bool) (k : K) (v : X) (es : List (K × X)) → count_keys p (put R k v es) ≡ cond (is_new k es) (cond (p k) 1 0) 0 + count_keys p es
  count-put p k v [] = cons p (k, v) []
  count-put p k v (e ∷ es) = by (R k e.0) (count-put p k v es)
    where
      by : (r : Ordering) → count_keys p (put R k v es) ≡ cond (is_new k es) (cond (p k) 1 0) 0 + count_keys p es → count_keys p (by_order r ((k, v) ∷ e ∷ es) ((e.0, v) ∷ es) (e ∷ put R k v es)) ≡ cond (by_order r true false (is_new k es)) (cond (p k) 1 0) 0 + count_keys p (e ∷ es)
      by Less h = cons p (k, v) (e ∷ es)
      by Equal h = cons p (e.0, v) es ∙ sym (cons p e es) ∙ sym (zero-add _)
      by Greater h = cons p e (put R k v es) ∙ swap _ _ _ _ h ∙ ap (λ n. cond (is_new k es) (cond (p k) 1 0) 0 + n) (sym (cons p e es))

  length-put : (k : K) (v : X) (es : List (K × X)) → length (put R k v es) ≡ cond (is_new k es) 1 0 + length es
  length-put k v [] = refl
  length-put k v (e ∷ es) = by (R k e.0) (length-put k v es)
    where
      by : (r : Ordering) → length (put R k v es) ≡ cond (is_new k es) 1 0 + length es → length (by_order r ((k, v) ∷ e ∷ es) ((e.0, v) ∷ es) (e ∷ put R k v es)) ≡ cond (by_order r true false (is_new k es)) 1 0 + length (e ∷ es)
      by Less h = omega arith
      by Equal h = omega arith
      by Greater h = omega arith

cond_new : (new known : Bool) (n : ℕ) → cond new 1 0 + n ≡ cond known n (n + 1) → new ≡ not known
cond_new true true n h = absurd (omega arith)
cond_new true false n h = refl
cond_new false true n h = refl
cond_new false false n h = absurd (omega arith)

module _ {K X : Type 0} {R : K → K → Ordering} (o : IsTotalOrder R) (p : K → Bool) where
  new-known : (m : FinMap R X) (k : K) (v : X) → is_new R k (entries m) ≡ not (contains_key m k)
  new-known m k v =
      cond_new _ _ (length (entries m)) (sym (length-put R k v (entries m)) ∙ ap length (sym (entries-insert o m k v)) ∙ sym (len-entries (insert m k v)) ∙ len-insert o m k v ∙ ap (λ n. cond (contains_key m k) n (n + 1)) (len-entries m))

  -- a new key counts, and a value in the place of another doesn't
  pub count-insert : (m : FinMap R X) (k : K) (v : X) → count_keys R p (entries (insert m k v)) ≡ cond (contains_key m k) 0 (cond (p k) 1 0) + count_keys R p (entries m)
  count-insert m k v =
      ap (count_keys R p) (entries-insert o m k v) ∙ count-put R p k v (entries m)
      ∙ ap (λ b. cond b (cond (p k) 1 0) 0 + count_keys R p (entries m)) (new-known m k v) ∙ ap (λ n. n + count_keys R p (entries m)) (turned (contains_key m k))
    where
      turned : (b : Bool) → ◌≡◌ {A = ℕ} (cond (not b) (cond (p k) 1 0) 0) (cond b 0 (cond (p k) 1 0))
      turned true = refl
      turned false = refl

  module _ (same : IsAntisymmetric R) where
    -- a key that is taken out counts no more
    pub count-remove : (m : FinMap R X) (k : K) (v : X) → get m k ≡ Some v → count_keys R p (entries m) ≡ cond (p k) 1 0 + count_keys R p (entries (remove m k))
    count-remove m k v h =
        ap (λ x. count_keys R p (entries x)) (sym (put_back o same m k v h)) ∙ count-insert (remove m k) k v
        ∙ ap (λ b. cond b 0 (cond (p k) 1 0) + count_keys R p (entries (remove m k))) (ap is_some (get-remove o m k k ∙ ap (λ b. cond b None (get m k)) (tied o k)))

module _ {K X : Type 0} {R : K → K → Ordering} (o : IsTotalOrder R) where
  pub len-new : (m : FinMap R X) (k : K) (v : X) → contains_key m k ≡ false → len (insert m k v) ≡ len m + 1
  len-new m k v h = len-insert o m k v ∙ ap (λ b. cond b (len m) (len m + 1)) h

  pub len-known : (m : FinMap R X) (k : K) (v : X) → contains_key m k ≡ true → len (insert m k v) ≡ len m
  len-known m k v h = len-insert o m k v ∙ ap (λ b. cond b (len m) (len m + 1)) h

  module _ (same : IsAntisymmetric R) where
    -- one less where something was found
    pub len-left : (m : FinMap R X) (k : K) (found : Option X) → found ≡ get m k → len m ≡ cond (is_some found) (len (remove m k) + 1) (len (remove m k))
    len-left m k None h = sym (len-remove o m k ∙ ap (λ b. cond b (len m - 1) (len m)) (sym (ap is_some h)))
    len-left m k (Some v) h =
        ap len (sym (put_back o same m k v (sym h)))
        ∙ len-new (remove m k) k v (ap is_some (get-remove o m k k ∙ ap (λ b. cond b None (get m k)) (tied o k)))
