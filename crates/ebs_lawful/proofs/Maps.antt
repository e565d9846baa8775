-- What holds of each entry of a map, through its edits; and what is found in lists of entries.
use Rattle.std.proofs.Common.{◌≡◌, Bool, true, false, cond, ◌&&◌, List, [], ◌∷◌, Option, Some, None, refl, sym, subst, ◌∙◌}
use Rattle.std.proofs.lemmas.Map.Keys.{IsDistinct-from_sorted}
use Rattle.std.proofs.lemmas.Map.Views.{lookup-from_Contains}
use Rattle.std.proofs.lemmas.List.Elements.{All-contains_itself, recursion_from_All}
use Rattle.std.specs.declared.cmp.Ordering.{Ordering}
use Rattle.std.specs.List.{Contains, AllByRecursion, filter}
use Rattle.std.specs.Map.{keys_of}
use Rattle.std.specs.Ordering.{eq_by_cmp}
use Rattle.std.specs.Cmp.{IsTotalOrder, eq_by_cmp_equiv}
use Rattle.std.specs.FinMap.{FinMap, IsAntisymmetric, get, insert, remove, empty, entries, get-insert, get-remove, get-empty}
use Rattle.ebs_tables.proofs.MapEdits.{is_same}
use Rattle.ebs_tables.proofs.TreeMaps.{get-lookup, entries-sorted}

pub some_is : {A : Type 0} (x y : A) → ◌≡◌ {A = Option A} (Some x) (Some y) → x ≡ y
some_is x y e = cc

pub none_some : {A : Type 0} {B : Type 0} {x : A} → ◌≡◌ {A = Option A} None (Some x) → B
none_some e = absurd (cc)

pub both_of : (a b : Bool) → (a && b) ≡ true → (a ≡ true) × (b ≡ true)
both_of true true e = (refl, refl)
both_of true false e = absurd (cc)
both_of false b e = absurd (cc)

module _ {K X : Type 0} {R : K → K → Ordering} (P : K → X → Type 0) where
  abbrev pub Each : FinMap R X → Type 0
  Each m = (q : K) (x : X) → get m q ≡ Some x → P q x

  module _ (o : IsTotalOrder R) (exact : IsAntisymmetric R) (m : FinMap R X) (each : Each m) (k : K) where
    pub each-insert : (v : X) → P k v → Each (insert m k v)
    each-insert v new q x e = by (eq_by_cmp R q k) refl (sym (get-insert o m k v q) ∙ e)
      where
        by : (b : Bool) → eq_by_cmp R q k ≡ b → cond b (Some v) (get m q) ≡ Some x → P q x
        by true t h = subst (λ (j : K). P j x) (sym (is_same exact q k t)) (subst (P k) (some_is v x h) new)
        by false t h = each q x h

    pub each-remove : Each (remove m k)
    each-remove q x e = by (eq_by_cmp R q k) (sym (get-remove o m k q) ∙ e)
      where
        by : (b : Bool) → cond b None (get m q) ≡ Some x → P q x
        by true h = none_some h
        by false h = each q x h

pub each-empty : {K X : Type 0} (R : K → K → Ordering) (P : K → X → Type 0) → Each {R = R} P empty
each-empty {X = X} R P q x e = none_some (sym (get-empty {X = X} R q) ∙ e)

pub each-entry : {K X : Type 0} {R : K → K → Ordering} (o : IsTotalOrder R) (m : FinMap R X) (P : K × X → Type 0) → ((e : K × X) → get m e.0 ≡ Some e.1 → P e) → AllByRecursion P (entries m)
each-entry {K = K} {X = X} {R = R} o m P h = each (entries m) (recursion_from_All (Contains (entries m)) (entries m) (All-contains_itself (entries m)))
  where
    found : (k : K) (v : X) → Contains (entries m) (k, v) → get m k ≡ Some v
    found k v there = get-lookup R m k ∙ lookup-from_Contains (eq_by_cmp_equiv o) k v (entries m) (IsDistinct-from_sorted R (keys_of (entries m)) (entries-sorted R m)) there

    each : (xs : List (K × X)) → AllByRecursion (Contains (entries m)) xs → AllByRecursion P xs
    each [] all = tt
    each (x ∷ xs) all = (h x (found x.0 x.1 all.0), each xs all.1)

-- of those that pass a test
pub filtered : {X : Type 0} (P : X → Type 0) (test : X → Bool) (xs : List X) → AllByRecursion P xs → AllByRecursion (λ x. P x × (test x ≡ true)) (filter test xs)
filtered P test [] all = tt
filtered P test (x ∷ xs) all = by (test x) refl (filtered P test xs all.1)
  where
    by : (b : Bool) → test x ≡ b → AllByRecursion (λ x. P x × (test x ≡ true)) (filter test xs) → AllByRecursion (λ x. P x × (test x ≡ true)) (cond b (x ∷ filter test xs) (filter test xs))
    by true t rest = ((all.0, t), rest)
    by false t rest = rest
