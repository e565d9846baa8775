-- Maps that are made of lists in ascending order.
use Rattle.std.proofs.Common.{◌≡◌, true, List, [], ◌∷◌, map, Some, refl, subst}
use Rattle.std.specs.declared.cmp.Ordering.{Ordering}
use Rattle.std.specs.declared.cmp.Ordering.TheVariants.{Less, Equal, Greater}
use Rattle.std.specs.List.{AllByRecursion}
use Rattle.std.specs.List.Sorted.{IsStrictlySortedBy}
use Rattle.std.specs.Map.{keys_of}
use Rattle.std.specs.Ordering.{is_lt}
use Rattle.std.specs.Cmp.{IsTotalOrder}
use Rattle.std.specs.FinMap.{FinMap, get, entries, from_entries}
use Rattle.ebs_tables.proofs.TreeMaps.{entries-seen}
use Rattle.ebs_row_rules.specs.Order.{ascends}
use Rattle.ebs_lawful.proofs.Maps.{each-entry}
use Rattle.ebs_lawful_points.proofs.Parts.{two}

pub is_less : (r : Ordering) → is_lt r ≡ true → r ≡ Less
is_less Less e = refl
is_less Equal e = absurd (cc)
is_less Greater e = absurd (cc)

unmapped : {X Y : Type 0} (P : Y → Type 0) (f : X → Y) (xs : List X) → AllByRecursion P (map f xs) → AllByRecursion (λ x. P (f x)) xs
unmapped P f [] all = tt
unmapped P f (x ∷ xs) all = (all.0, unmapped P f xs all.1)

module _ {K X Y : Type 0} {cmp : K → K → Ordering} (o : IsTotalOrder cmp) (key : X → K) (f : X → Y) where
  abbrev made : List X → List (K × Y)
  made xs = map {B = K × Y} (λ x. (key x, f x)) xs

  above : (k : K) (x : X) (xs : List X) → cmp k (key x) ≡ Less → ascends cmp key (x ∷ xs) ≡ true → AllByRecursion (λ y. cmp k y ≡ Less) (keys_of (made (x ∷ xs)))
  above k x [] l up = (l, tt)
  above k x (y ∷ ys) l up =
      let both = two (is_lt (cmp (key x) (key y))) (ascends cmp key (y ∷ ys)) up in
      (l, above k y ys (o.trans k (key x) (key y) l (is_less (cmp (key x) (key y)) both.0)) both.1)

  pub sorted : (xs : List X) → ascends cmp key xs ≡ true → IsStrictlySortedBy cmp (keys_of (map {B = K × Y} (λ x. (key x, f x)) xs))
  unfolding IsStrictlySortedBy
  sorted [] up = tt
  sorted (x ∷ []) up = (tt, tt)
  sorted (x ∷ y ∷ ys) up =
      let both = two (is_lt (cmp (key x) (key y))) (ascends cmp key (y ∷ ys)) up in
      (above (key x) y ys (is_less (cmp (key x) (key y)) both.0) both.1, sorted (y ∷ ys) both.1)

  pub entries-are : (xs : List X) → ascends cmp key xs ≡ true → entries (from_entries {R = cmp} (map {B = K × Y} (λ x. (key x, f x)) xs)) ≡ map (λ x. (key x, f x)) xs
  entries-are xs up = entries-seen o (made xs) (sorted xs up)

  -- each is found at its key
  pub each-found : (xs : List X) → ascends cmp key xs ≡ true → AllByRecursion (λ x. get (from_entries {R = cmp} (map {B = K × Y} (λ x. (key x, f x)) xs)) (key x) ≡ Some (f x)) xs
  each-found xs up =
      let m : FinMap cmp Y = from_entries (made xs) in
      unmapped (λ (e : K × Y). get m e.0 ≡ Some e.1) (λ x. (key x, f x)) xs
      (subst (λ (es : List (K × Y)). AllByRecursion (λ (e : K × Y). get m e.0 ≡ Some e.1) es) (entries-are xs up) (each-entry o m (λ e. get m e.0 ≡ Some e.1) (λ e there. there)))
