-- Slots, key by key.
use Rattle.std.proofs.Common.{Result, Ok, Err, OnOk, OnErr, ◌≡◌, Bool, true, false, cond, List, [], ◌∷◌, Option, Some, None, Ordering, is_some, refl, sym, ap, ◌∙◌}
use Rattle.std.proofs.lemmas.Bool.{false≢true}
use Rattle.std.proofs.lemmas.Map.Keys.{IsDistinct-from_sorted, IsDistinct-head, IsDistinct-tail}
use Rattle.std.specs.Ordering.{eq_by_cmp}
use Rattle.std.specs.Cmp.{IsTotalOrder, IsEquivalence, eq_by_cmp_equiv}
use Rattle.std.specs.Map.{lookup, keys_of}
use Rattle.std.proofs.Common.{◌+◌, ◌≤◌, length, arith, zero-add}
use Rattle.std.specs.List.{AllByRecursion, IsDistinct, filter, count_by}
use Rattle.std.specs.List.Sorted.{IsStrictlySortedBy}
use Rattle.std.proofs.lemmas.List.Sums.{sum_by-cons}
use Rattle.std.specs.FinMap.{FinMap, get, insert, remove, empty, entries, IsAntisymmetric, same_map, get-insert, get-remove, get-empty, len, len-entries}
use Rattle.ebs_tables.specs.Full.{kept, filled, full, slot_test}
use Rattle.ebs_tables.proofs.MapEdits.{is_same}
use Rattle.ebs_tables.proofs.TreeMaps.{get-seen, get-lookup, entries-sorted, entries-seen}

abbrev pub flat : {V : Type 0} → Option (Option V) → Option V
flat None = None
flat (Some v) = v

module _ {K V : Type 0} (E : K → K → Bool) (o : IsEquivalence E) where
  gone : (q k : K) → E q k ≡ true → (es : List (K × Option V)) → AllByRecursion (λ y. E k y ≡ false) (keys_of es) → lookup (E q) (filled es) ≡ None
  gone q k t [] h = refl
  gone q k t ((x, None) ∷ es) h = gone q k t es h.1
  gone q k t ((x, Some v) ∷ es) h = ap (λ b. cond b (Some v) (lookup (E q) (filled es))) (o.congr q k x t ∙ h.0) ∙ gone q k t es h.1

  head : (q k : K) (v : Option V) (es : List (K × Option V)) (b : Bool) → E q k ≡ b → (b ≡ true → lookup (E q) (filled es) ≡ None) → lookup (E q) (kept k v (filled es)) ≡ cond b v (lookup (E q) (filled es))
  head q k None es true e h = h refl
  head q k None es false e h = refl
  head q k (Some v) es b e h = ap (λ b. cond b (Some v) (lookup (E q) (filled es))) e

  found : (b : Bool) (v : Option V) (x : Option (Option V)) → cond b v (flat x) ≡ flat (cond b (Some v) x)
  found true v x = refl
  found false v x = refl

  lookup-filled : (q : K) (es : List (K × Option V)) → IsDistinct E (keys_of es) → lookup (E q) (filled es) ≡ flat (lookup (E q) es)
  lookup-filled q [] d = refl
  lookup-filled q (e ∷ es) d =
      head q e.0 e.1 es (E q e.0) refl (λ t. gone q e.0 t es (IsDistinct-head E e.0 (keys_of es) d))
      ∙ ap (cond (E q e.0) e.1) (lookup-filled q es (IsDistinct-tail E e.0 (keys_of es) d))
      ∙ found (E q e.0) e.1 (lookup (E q) es)

module _ {K V : Type 0} {R : K → K → Ordering} (o : IsTotalOrder R) where
  pub get-full : (m : FinMap R (Option V)) (q : K) → get (full m) q ≡ flat (get m q)
  unfolding full
  get-full m q =
      get-seen o (filled (entries m)) q
      ∙ lookup-filled (eq_by_cmp R) (eq_by_cmp_equiv o) q (entries m) (IsDistinct-from_sorted R (keys_of (entries m)) (entries-sorted R m))
      ∙ ap flat (sym (get-lookup R m q))

  flat_cond : (b : Bool) (x y : Option (Option V)) → flat (cond b x y) ≡ cond b (flat x) (flat y)
  flat_cond true x y = refl
  flat_cond false x y = refl

  get-set : (m : FinMap R (Option V)) (k : K) (v : Option V) (q : K) → get (full (insert m k v)) q ≡ cond (eq_by_cmp R q k) v (get (full m) q)
  get-set m k v q = get-full (insert m k v) q ∙ ap flat (get-insert o m k v q) ∙ flat_cond (eq_by_cmp R q k) _ _ ∙ ap (cond (eq_by_cmp R q k) v) (sym (get-full m q))

  module _ (same : IsAntisymmetric R) where
    pub full-some : (m : FinMap R (Option V)) (k : K) (v : V) → full (insert m k (Some v)) ≡ insert (full m) k v
    full-some m k v = same_map o same _ _ (λ q. get-set m k (Some v) q ∙ sym (get-insert o (full m) k v q))

    pub full-none : (m : FinMap R (Option V)) (k : K) → full (insert m k None) ≡ remove (full m) k
    full-none m k = same_map o same _ _ (λ q. get-set m k None q ∙ sym (get-remove o (full m) k q))

    pub full-remove : (m : FinMap R (Option V)) (k : K) → full (remove m k) ≡ remove (full m) k
    full-remove m k = same_map o same _ _ (λ q.
        get-full (remove m k) q ∙ ap flat (get-remove o m k q) ∙ flat_cond (eq_by_cmp R q k) None (get m q) ∙ ap (cond (eq_by_cmp R q k) None) (sym (get-full m q)) ∙ sym (get-remove o (full m) k q))

    pub full-empty : full (empty {X = Option V} {R = R}) ≡ empty
    full-empty = same_map o same _ _ (λ q. get-full empty q ∙ ap flat (get-empty R q) ∙ sym (get-empty R q))

    -- nothing is taken out
    pub remove-none : (m : FinMap R V) (k : K) → get m k ≡ None → remove m k ≡ m
    remove-none m k h = same_map o same _ _ (λ q. get-remove o m k q ∙ at q (eq_by_cmp R q k) refl)
      where
        at : (q : K) (b : Bool) → eq_by_cmp R q k ≡ b → cond b None (get m q) ≡ get m q
        at q true e = sym h ∙ sym (ap (get m) (is_same same q k e))
        at q false e = refl

  -- the ready keys
  pub ready-insert : (m : FinMap R (Option V)) (k : K) (v : Option V) (q : K) → is_some (get (insert m k v) q) ≡ cond (eq_by_cmp R q k) true (is_some (get m q))
  ready-insert m k v q = ap is_some (get-insert o m k v q) ∙ by (eq_by_cmp R q k)
    where
      by : (b : Bool) → is_some (cond b (Some v) (get m q)) ≡ cond b true (is_some (get m q))
      by true = refl
      by false = refl

  -- a key that was ready
  pub ready-same : (m : FinMap R (Option V)) (k : K) (v : Option V) → is_some (get m k) ≡ true → (same : IsAntisymmetric R) (q : K) → is_some (get (insert m k v) q) ≡ is_some (get m q)
  ready-same m k v h same q = ready-insert m k v q ∙ by (eq_by_cmp R q k) refl
    where
      by : (b : Bool) → eq_by_cmp R q k ≡ b → cond b true (is_some (get m q)) ≡ is_some (get m q)
      by true e = sym h ∙ sym (ap (λ x. is_some (get m x)) (is_same same q k e))
      by false e = refl

pub none_of : {V : Type 0} (x : Option V) → is_some x ≡ false → x ≡ None
none_of None e = refl
none_of (Some v) e = absurd (false≢true (sym e))

-- what comes with Ok, where the other can't be
pub surely : {A F V : Type 0} (r : Result A F) (x : Option V) (P : Type 0) → OnErr r (x ≡ None) → is_some x ≡ true → OnOk r P → P
surely (Ok a) x P absent h p = p
surely (Err e) x P absent h p = absurd (false≢true (sym (ap is_some absent) ∙ h))

pub on_err : {A F : Type 0} (r : Result A F) (P : Type 0) → P → OnErr r P
on_err (Ok a) P p = tt
on_err (Err e) P p = p

pub none_some : {A : Type 0} {x : A} → None ≡ Some x → ⊥
none_some e = cc

-- the entries that have a value
module _ {K V : Type 0} where
  all-filled : (P : K → Type 0) (es : List (K × Option V)) → AllByRecursion P (keys_of es) → AllByRecursion P (keys_of (filled es))
  all-filled P [] h = tt
  all-filled P ((k, None) ∷ es) h = all-filled P es h.1
  all-filled P ((k, Some v) ∷ es) h = (h.0, all-filled P es h.1)

  sorted-filled : (R : K → K → Ordering) (es : List (K × Option V)) → IsStrictlySortedBy R (keys_of es) → IsStrictlySortedBy R (keys_of (filled es))
  unfolding IsStrictlySortedBy
  sorted-filled R [] h = tt
  sorted-filled R ((k, None) ∷ es) h = sorted-filled R es h.1
  sorted-filled R ((k, Some v) ∷ es) h = (all-filled _ es h.0, sorted-filled R es h.1)

  pub entries-full : {R : K → K → Ordering} (o : IsTotalOrder R) (m : FinMap R (Option V)) → entries (full m) ≡ filled (entries m)
  unfolding full
  entries-full {R = R} o m = entries-seen o (filled (entries m)) (sorted-filled R (entries m) (entries-sorted R m))

  pub filled-shorter : (es : List (K × Option V)) → length (filled es) ≤ length es
  filled-shorter [] = omega arith
  filled-shorter ((k, None) ∷ es) = let h = filled-shorter es in omega (arith, h)
  filled-shorter ((k, Some v) ∷ es) = let h = filled-shorter es in omega (arith, h)

  pub full-shorter : {R : K → K → Ordering} (o : IsTotalOrder R) (m : FinMap R (Option V)) → len (full m) ≤ len m
  full-shorter o m =
      let values = len-entries (full m) ∙ ap length (entries-full o m) in
      let ready = len-entries m in
      let shorter = filled-shorter (entries m) in
      omega (arith, values, ready, shorter)

  pub count-filled : (p : K × V → Bool) (es : List (K × Option V)) → count_by (λ e. slot_test p e.0 e.1) es ≡ count_by p (filled es)
  count-filled p [] = refl
  count-filled p ((k, None) ∷ es) = sum_by-cons (λ (e : K × Option V). cond (slot_test p e.0 e.1) 1 0) (k, None) es ∙ zero-add _ ∙ count-filled p es
  count-filled p ((k, Some v) ∷ es) =
      sum_by-cons (λ (e : K × Option V). cond (slot_test p e.0 e.1) 1 0) (k, Some v) es
      ∙ ap (λ n. cond (p (k, v)) 1 0 + n) (count-filled p es)
      ∙ sym (sum_by-cons (λ (e : K × V). cond (p e) 1 0) (k, v) (filled es))

  pub filter-filled : (p : K → Bool) (es : List (K × Option V)) → filled (filter (λ e. p e.0) es) ≡ filter (λ e. p e.0) (filled es)
  filter-filled p [] = refl
  filter-filled p ((k, None) ∷ es) = elim (p k) as (λ b. filled (cond b ((k, None) ∷ filter (λ e. p e.0) es) (filter (λ e. p e.0) es)) ≡ filter (λ e. p e.0) (filled es)) [ true ↦ filter-filled p es | false ↦ filter-filled p es ]
  filter-filled p ((k, Some v) ∷ es) =
      elim (p k) as (λ b. filled (cond b ((k, Some v) ∷ filter (λ e. p e.0) es) (filter (λ e. p e.0) es)) ≡ cond b ((k, v) ∷ filter (λ e. p e.0) (filled es)) (filter (λ e. p e.0) (filled es))) [
        | true ↦ ap (λ t. (k, v) ∷ t) (filter-filled p es)
        | false ↦ filter-filled p es
      ]

-- a key that has a value is ready
ready_flat : {V : Type 0} (x : Option (Option V)) (v : V) → flat x ≡ Some v → is_some x ≡ true
ready_flat None v e = absurd (none_some e)
ready_flat (Some x) v e = refl

pub ready-some : {K V : Type 0} {R : K → K → Ordering} (o : IsTotalOrder R) (m : FinMap R (Option V)) (k : K) (v : V) → get (full m) k ≡ Some v → is_some (get m k) ≡ true
ready-some o m k v h = ready_flat (get m k) v (sym (get-full o m k) ∙ h)
