-- What is true of each entry of a list.
use Rattle.std.proofs.Common.{◌≡◌, ℕ, suc, zero, ◌<◌, arith, Bool, true, false, cond, List, [], ◌∷◌, map, take, Option, Some, None, sym, ap, subst, ◌∙◌, refl}
use Rattle.std.proofs.lemmas.Bool.{false≢true}
use Rattle.std.specs.List.{AllByRecursion, filter, slice_get}
use Rattle.std.specs.Map.{keys_of}
use Rattle.std.specs.Ordering.{nat_cmp}
use Rattle.std.specs.Cmp.{nat_cmp_total}
use Rattle.std.specs.FinMap.{FinMap, find, get, entries, get-entries}
use Rattle.ebs_model.specs.Lists.{Pair, from_index, changed_from, differ, either_keys}
use Rattle.ebs_tables.proofs.MapEdits.{tied}
use Rattle.ebs_listing.specs.Sides.{IsAscendingIndex}
use Rattle.ebs_listing.proofs.Ascending.{apart, all-mapped, entries-ascend}

module _ {A : Type 0} (P : A → Type 0) where
  pub all-kept : (p : A → Bool) (xs : List A) → AllByRecursion P xs → AllByRecursion (λ x. P x × (p x ≡ true)) (filter p xs)
  all-kept p [] h = tt
  all-kept p (x ∷ xs) h = by (p x) refl (all-kept p xs h.1)
    where
      by : (b : Bool) → p x ≡ b → AllByRecursion (λ x. P x × (p x ≡ true)) (filter p xs) → AllByRecursion (λ x. P x × (p x ≡ true)) (cond b (x ∷ filter p xs) (filter p xs))
      by true e more = ((h.0, e), more)
      by false e more = more

  pub all-taken : (n : ℕ) (xs : List A) → AllByRecursion P xs → AllByRecursion P (take n xs)
  all-taken zero xs h = tt
  all-taken (suc n) [] h = tt
  all-taken (suc n) (x ∷ xs) h = (h.0, all-taken n xs h.1)

  pub all-got : (xs : List A) (n : ℕ) (x : A) → AllByRecursion P xs → slice_get xs n ≡ Some x → P x
  all-got [] n x h e = absurd (cc)
  all-got (y ∷ ys) zero x h e = let is : y ≡ x = cc in subst P is h.0
  all-got (y ∷ ys) (suc n) x h e = all-got ys n x h.1 e

pub all-shown : {A B : Type 0} (P : B → Type 0) (f : A → B) (xs : List A) → AllByRecursion (λ x. P (f x)) xs → AllByRecursion P (map f xs)
all-shown P f [] h = tt
all-shown P f (x ∷ xs) h = (h.0, all-shown P f xs h.1)

pub all-of : {A : Type 0} (P : A → Type 0) → ((x : A) → P x) → (xs : List A) → AllByRecursion P xs
all-of P h [] = tt
all-of P h (x ∷ xs) = (h x, all-of P h xs)

module _ {X : Type 0} where
  found-each : (es : List (ℕ × X)) → IsAscendingIndex (keys_of es) → AllByRecursion (λ e. find nat_cmp e.0 es ≡ Some e.1) es
  found-each [] up = tt
  found-each (d ∷ es) up = (
    ap (λ t. cond t (Some d.1) (find nat_cmp d.0 es)) (tied nat_cmp_total d.0),
    later es up.0 (found-each es up.1),
  )
    where
      later : (fs : List (ℕ × X)) → AllByRecursion (λ j. d.0 < j) (keys_of fs) → AllByRecursion (λ e. find nat_cmp e.0 es ≡ Some e.1) fs → AllByRecursion (λ e. find nat_cmp e.0 (d ∷ es) ≡ Some e.1) fs
      later [] above h = tt
      later (f ∷ fs) above h =
          let less : d.0 < f.0 = above.0 in
          (ap (λ t. cond t (Some d.1) (find nat_cmp f.0 es)) (apart f.0 d.0 (λ e. omega arith)) ∙ h.0, later fs above.1 h.1)

  -- an entry is what is found at its index
  pub entries-found : (m : FinMap nat_cmp X) → AllByRecursion (λ e. get m e.0 ≡ Some e.1) (entries m)
  entries-found m = all-mapped _ _ (λ e is. get-entries m e.0 ∙ is) (entries m) (found-each (entries m) (entries-ascend m))

  pub from-found : (m : FinMap nat_cmp X) (i : ℕ) → AllByRecursion (λ e. get m e.0 ≡ Some e.1) (from_index m i)
  from-found m i = all-mapped _ _ (λ e h. h.0) (from_index m i) (all-kept (λ e. get m e.0 ≡ Some e.1) _ (entries m) (entries-found m))

  -- a change is what both have at its index
  abbrev pub IsChange : (X → ℕ) → FinMap nat_cmp X → FinMap nat_cmp X → Pair X → Type 0
  IsChange stamp f g p = ((p.first ≡ get f p.index) × (p.second ≡ get g p.index)) × (differ stamp p.first p.second ≡ true)

  pub changes-found : (stamp : X → ℕ) (f g : FinMap nat_cmp X) (i : ℕ) → AllByRecursion (IsChange stamp f g) (changed_from stamp f g i)
  changes-found stamp f g i = all-kept (λ p. (p.first ≡ get f p.index) × (p.second ≡ get g p.index)) _ _ (all-shown _ _ (filter _ (either_keys f g)) (all-of _ (λ k. (refl, refl)) _))

  -- so one of them has a block there
  pub either-has : (stamp : X → ℕ) (f g : FinMap nat_cmp X) (p : Pair X) (Q : Type 0) → IsChange stamp f g p → ((x : X) → get f p.index ≡ Some x → Q) → ((x : X) → get g p.index ≡ Some x → Q) → Q
  either-has stamp f g p Q h one two = by p.first p.second (sym h.0.0) (sym h.0.1) h.1
    where
      by : (a b : Option X) → get f p.index ≡ a → get g p.index ≡ b → differ stamp a b ≡ true → Q
      by None None e d t = absurd (false≢true t)
      by None (Some y) e d t = two y d
      by (Some x) b e d t = one x e
