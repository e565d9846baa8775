-- How many blocks wait.
use Rattle.std.proofs.Common.{◌≡◌, ℕ, ◌+◌, ◌*◌, ◌<◌, ◌≤◌, ◌⊎◌, inl, inr, cond, List, [], ◌∷◌, length, Option, Some, None, Less, Equal, Greater, Ordering, refl, sym, ap, ◌∙◌, arith, zero-add, add-zero}
use Rattle.std.proofs.lemmas.List.Sums.{sum_by-cons}
use Rattle.std.specs.List.{sum_by, AllByRecursion}
use Rattle.std.specs.List.Sorted.{IsStrictlySortedBy}
use Rattle.std.specs.Map.{keys_of}
use Rattle.std.specs.Ordering.{nat_cmp, is_eq}
use Rattle.std.specs.Cmp.{nat_cmp_total}
use Rattle.std.specs.FinMap.Entries.{put, by_order}
use Rattle.std.specs.FinMap as map
use Rattle.std.specs.FinMap.{same_map, nat_cmp-IsAntisymmetric, find, get-entries, entries-insert, len-entries, len-empty, get-empty}
use Rattle.ebs_lineage.specs.declared.place.Place.{Place}
use Rattle.ebs_lineage.specs.Places.{Places}
use Rattle.ebs_tables.proofs.TreeMaps.{entries-sorted}
use Rattle.ebs_tables.proofs.MapEdits.{tied, put_back}
use Rattle.ebs_lineage.proofs.Changes.{unequal}
use Rattle.ebs_collect.specs.Stack.{waiting_in}
use Rattle.ebs_collect.proofs.Maps.{none_some, removed-here}

less-is : (a b : ℕ) → nat_cmp a b ≡ Less → a < b
less-is a b e = grind arith

above_or : (a b : ℕ) → (a ≤ b) ⊎ (b < a)
above_or a b = grind arith

module _ {X : Type 0} (f : X → ℕ) where
  abbrev pub part : Option X → ℕ
  part None = 0
  part (Some x) = f x

  abbrev pub total : List (ℕ × X) → ℕ
  total es = sum_by (λ e. f e.1) es

  none_under : (k l : ℕ) (es : List (ℕ × X)) → AllByRecursion (λ y. nat_cmp l y ≡ Less) (keys_of es) → k ≤ l → find nat_cmp k es ≡ None
  none_under k l [] h b = refl
  none_under k l (e ∷ es) h b =
      let above : l < e.0 = less-is l e.0 h.0 in
      ap (λ t. cond t (Some e.1) (find nat_cmp k es)) (unequal k e.0 (λ s. let same : k ≡ e.0 = s in omega arith)) ∙ none_under k l es h.1 b

  -- a put adds what is put, and gives up what stood there
  total-put : (k : ℕ) (v : X) (es : List (ℕ × X)) → IsStrictlySortedBy nat_cmp (keys_of es) → total (put nat_cmp k v es) + part (find nat_cmp k es) ≡ total es + f v
  unfolding IsStrictlySortedBy
  total-put k v [] up = add-zero _ ∙ sum_by-cons (λ (d : ℕ × X). f d.1) (k, v) [] ∙ add-zero (f v) ∙ sym (zero-add (f v))
  total-put k v (e ∷ es) up = by (nat_cmp k e.0) refl (total-put k v es up.1)
    where
      by : (r : Ordering) → nat_cmp k e.0 ≡ r → total (put nat_cmp k v es) + part (find nat_cmp k es) ≡ total es + f v
          → total (by_order r ((k, v) ∷ e ∷ es) ((e.0, v) ∷ es) (e ∷ put nat_cmp k v es)) + part (cond (is_eq r) (Some e.1) (find nat_cmp k es)) ≡ total (e ∷ es) + f v
      by Less is more =
          let low : k < e.0 = less-is k e.0 is in
          let none = ap part (none_under k e.0 es up.0 (omega arith)) in
          let a = sum_by-cons (λ (d : ℕ × X). f d.1) (k, v) (e ∷ es) in
          let z : part (find nat_cmp k es) ≡ 0 = none in
          omega (arith, a, z)
      by Equal is more =
          let a = sum_by-cons (λ (d : ℕ × X). f d.1) (e.0, v) es in
          let b = sum_by-cons (λ (d : ℕ × X). f d.1) e es in
          omega (arith, a, b)
      by Greater is more =
          let a = sum_by-cons (λ (d : ℕ × X). f d.1) e (put nat_cmp k v es) in
          let b = sum_by-cons (λ (d : ℕ × X). f d.1) e es in
          omega (arith, a, b, more)

  pub total-insert : (m : map.FinMap nat_cmp X) (k : ℕ) (v : X) → total (map.entries (map.insert m k v)) + part (map.get m k) ≡ total (map.entries m) + f v
  total-insert m k v = (λ i. total (entries-insert nat_cmp_total m k v i) + part (get-entries m k i)) ∙ total-put k v (map.entries m) (entries-sorted nat_cmp m)

  found-first : (e : ℕ × X) (es : List (ℕ × X)) → find nat_cmp e.0 (e ∷ es) ≡ Some e.1
  found-first e es = ap (λ t. cond t (Some e.1) (find nat_cmp e.0 es)) (tied nat_cmp_total e.0)

  found-later : (e : ℕ × X) (es : List (ℕ × X)) (q : ℕ) → (q ≡ e.0 → ⊥) → find nat_cmp q (e ∷ es) ≡ find nat_cmp q es
  found-later e es q h = ap (λ t. cond t (Some e.1) (find nat_cmp q es)) (unequal q e.0 h)

  -- as many as there are numbers, each of so few
  abbrev AreWithin : ℕ → List (ℕ × X) → Type 0
  AreWithin low es = (q : ℕ) (x : X) → find nat_cmp q es ≡ Some x → (low ≤ q) × (q < 18446744073709551616) × (f x < 18446744073709551616)

  within_rest : (low : ℕ) (e : ℕ × X) (es : List (ℕ × X)) → AllByRecursion (λ y. nat_cmp e.0 y ≡ Less) (keys_of es) → AreWithin low (e ∷ es) → AreWithin (e.0 + 1) es
  within_rest low e es up within q x is = elim (above_or q e.0) [
    | inl h ↦ none_some x (sym (none_under q e.0 es up h) ∙ is)
    | inr h ↦ let found = within q x (found-later e es q (λ s. let same : q ≡ e.0 = s in omega arith) ∙ is) in (omega arith, found.1, found.2)
  ]

  few_of : (low : ℕ) (es : List (ℕ × X)) → IsStrictlySortedBy nat_cmp (keys_of es) → AreWithin low es → low ≤ 18446744073709551616 → total es + low * 18446744073709551615 ≤ 340282366920938463444927863358058659840
  unfolding IsStrictlySortedBy
  few_of low [] up within h = omega arith
  few_of low (e ∷ es) up within h =
      let here = within e.0 e.1 (found-first e es) in
      let high : e.0 < 18446744073709551616 = here.1 in
      let rest = few_of (e.0 + 1) es up.1 (within_rest low e es up.0 within) (omega arith) in
      let sum = sum_by-cons (λ (d : ℕ × X). f d.1) e es in
      let least : low ≤ e.0 = here.0 in
      let few : f e.1 < 18446744073709551616 = here.2 in
      omega (arith, rest, sum, least, few)

  pub total-few : (m : map.FinMap nat_cmp X) → ((q : ℕ) (x : X) → map.get m q ≡ Some x → (q < 18446744073709551616) × (f x < 18446744073709551616)) → total (map.entries m) < 340282366920938463463374607431768211456
  total-few m within =
      let most = few_of 0 (map.entries m) (entries-sorted nat_cmp m) (λ q x is. let found = within q x (get-entries m q ∙ is) in (omega arith, found.0, found.1)) (omega arith) in
      omega (arith, most)

-- ---- the blocks that wait

pub added-waiting : (places : Places) (n : ℕ) (v : Place) → map.get places n ≡ None → waiting_in (map.insert places n v) ≡ waiting_in places + v.left
added-waiting places n v new = sym (add-zero _ ∙ refl) ∙ (λ i. waiting_in (map.insert places n v) + part (λ (p : Place). p.left) (sym new i)) ∙ total-insert (λ (p : Place). p.left) places n v

pub moved-waiting : (places : Places) (n : ℕ) (p v : Place) → map.get places n ≡ Some p → waiting_in (map.insert places n v) + p.left ≡ waiting_in places + v.left
moved-waiting places n p v here = (λ i. waiting_in (map.insert places n v) + part (λ (q : Place). q.left) (sym here i)) ∙ total-insert (λ (q : Place). q.left) places n v

pub without-waiting : (places : Places) (n : ℕ) (p : Place) → map.get places n ≡ Some p → waiting_in places ≡ waiting_in (map.remove places n) + p.left
without-waiting places n p here = ap waiting_in (sym (put_back nat_cmp_total nat_cmp-IsAntisymmetric places n p here)) ∙ added-waiting (map.remove places n) n p (removed-here places n)

none_sum : (es : List (ℕ × Place)) → length es ≡ 0 → sum_by (λ e. e.1.left) es ≡ 0
none_sum [] h = refl
none_sum (e ∷ es) h = absurd (omega arith)

pub nothing-waiting : (places : Places) → ((n : ℕ) (p : Place) → map.get places n ≡ Some p → ⊥) → waiting_in places ≡ 0
nothing-waiting places none = ap waiting_in (same_map nat_cmp_total nat_cmp-IsAntisymmetric places map.empty (λ q. by q (map.get places q) refl)) ∙ none_sum (map.entries map.empty) (sym (len-entries map.empty) ∙ len-empty nat_cmp Place)
  where
    by : (q : ℕ) (o : Option Place) → map.get places q ≡ o → map.get places q ≡ map.get (map.empty {R = nat_cmp}) q
    by q None e = e ∙ sym (get-empty nat_cmp q)
    by q (Some p) e = absurd (none q p e)
