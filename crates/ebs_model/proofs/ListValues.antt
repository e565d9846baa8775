-- The lists of blocks, of arrays whose blocks are seen through a function.
use Rattle.std.proofs.Common.{◌≡◌, ℕ, ◌==◌, not, Bool, true, false, cond, List, [], ◌∷◌, ◌++◌, map, Option, None, Some, refl, sym, ap, ◌∙◌}
use Rattle.std.specs.Prelude.{nat_le, slice_get}
use Rattle.std.specs.Option.{option_map}
use Rattle.std.specs.Ordering.{nat_cmp}
use Rattle.std.specs.Cmp.{nat_cmp_total}
use Rattle.std.specs.List.{filter}
use Rattle.std.specs.BTreeMap.{is_at}
use Rattle.std.proofs.lemmas.List.{take-map, map-append}
use Rattle.std.proofs.lemmas.Option.{slice_get-map}
use Rattle.std.proofs.lemmas.Map.Made.{lookup-map_values}
use Rattle.std.specs.FinMap.{FinMap, get, entries, keys, from_entries, same_map, nat_cmp-IsAntisymmetric}
use Rattle.ebs_model.specs.Lists.{Pair, differ, either_keys, from_index, changed_from, page_of, next_of}
use Rattle.ebs_model.specs.inner.MapValues.{map_values}
use Rattle.ebs_tables.proofs.TreeMaps.{get-seen}
use Rattle.ebs_model.proofs.Values.{get-map_values, entries-map_values}

pub map-map : {A B C : Type 0} (f : A → B) (g : B → C) (xs : List A) → map g (map f xs) ≡ map (λ x. g (f x)) xs
map-map f g [] = refl
map-map f g (x ∷ xs) = ap (λ ys. g (f x) ∷ ys) (map-map f g xs)

option_map-map : {A B C : Type 0} (f : A → B) (g : B → C) (o : Option A) → option_map g (option_map f o) ≡ option_map (λ x. g (f x)) o
option_map-map f g None = refl
option_map-map f g (Some x) = refl

filter-map : {A B : Type 0} (p : B → Bool) (f : A → B) (xs : List A) → filter p (map f xs) ≡ map f (filter (λ x. p (f x)) xs)
filter-map p f [] = refl
filter-map p f (x ∷ xs) = ap (λ ys. cond (p (f x)) (f x ∷ ys) ys) (filter-map p f xs) ∙ spread (p (f x))
  where
    spread : (b : Bool) → cond b (f x ∷ map f (filter (λ x. p (f x)) xs)) (map f (filter (λ x. p (f x)) xs)) ≡ map f (cond b (x ∷ filter (λ x. p (f x)) xs) (filter (λ x. p (f x)) xs))
    spread true = refl
    spread false = refl

-- a page of a list, seen through a function that is all that a page shows
module _ {A B C : Type 0} (f : A → B) (g : B → C) where
  pub page-mapped : (most : ℕ) (xs : List A) → map g (page_of most (map f xs)) ≡ map (λ x. g (f x)) (page_of most xs)
  page-mapped most xs = ap (map g) (take-map f most xs) ∙ map-map f g (page_of most xs)

  pub next-mapped : (g' : B → ℕ) (most : ℕ) (xs : List A) → next_of g' most (map f xs) ≡ next_of (λ x. g' (f x)) most xs
  next-mapped g' most xs = ap (option_map g') (slice_get-map f xs most) ∙ option_map-map f g' (slice_get xs most)

-- the same indexes are listed
module _ {X Y : Type 0} (f : X → Y) where
  pub from-values : (m : FinMap nat_cmp X) (i : ℕ) → from_index (map_values f m) i ≡ map (λ e. (e.0, f e.1)) (from_index m i)
  from-values m i = ap (filter (λ e. nat_le i e.0)) (entries-map_values nat_cmp_total f m) ∙ filter-map (λ e. nat_le i e.0) (λ (e : ℕ × X). (e.0, f e.1)) (entries m)

  made-values : (es : List (ℕ × X)) → from_entries {R = nat_cmp} (map {B = ℕ × Y} (λ e. (e.0, f e.1)) es) ≡ map_values f (from_entries es)
  made-values es = same_map nat_cmp_total nat_cmp-IsAntisymmetric _ _ (λ q.
      get-seen nat_cmp_total (map {B = ℕ × Y} (λ e. (e.0, f e.1)) es) q
      ∙ lookup-map_values f (is_at (nat_cmp q)) es
      ∙ ap (option_map f) (sym (get-seen nat_cmp_total es q))
      ∙ sym (get-map_values nat_cmp_total f (from_entries es) q))

  keys-values : (m : FinMap nat_cmp X) → keys (map_values f m) ≡ keys m
  keys-values m = ap (map (λ e. e.0)) (entries-map_values nat_cmp_total f m) ∙ map-map (λ (e : ℕ × X). (e.0, f e.1)) (λ e. e.0) (entries m)

  keys-made : (es : List (ℕ × X)) → keys (from_entries {R = nat_cmp} (map {B = ℕ × Y} (λ e. (e.0, f e.1)) es)) ≡ keys (from_entries {R = nat_cmp} es)
  keys-made es = ap keys (made-values es) ∙ keys-values (from_entries es)

-- an entry without its value
abbrev bare : {X : Type 0} → ℕ × X → ℕ × Unit {0}
bare e = (e.0, tt)

module _ {X Y : Type 0} (f g : X → Y) where
  either-values : (a b : FinMap nat_cmp X) → either_keys (map_values f a) (map_values g b) ≡ either_keys a b
  either-values a b =
      sym (keys-made {Y = Unit {0}} (λ y. tt) (entries (map_values f a) ++ entries (map_values g b)))
      ∙ ap (λ es. keys (from_entries {R = nat_cmp} es)) (
      map-append bare (entries (map_values f a)) (entries (map_values g b))
      ∙ (λ i. (ap (map bare) (entries-map_values nat_cmp_total f a) ∙ map-map (λ (e : ℕ × X). (e.0, f e.1)) bare (entries a)) i ++ (ap (map bare) (entries-map_values nat_cmp_total g b) ∙ map-map (λ (e : ℕ × X). (e.0, g e.1)) bare (entries b)) i)
      ∙ sym (map-append bare (entries a) (entries b)))
      ∙ keys-made {Y = Unit {0}} (λ x. tt) (entries a ++ entries b)

  abbrev pub shown_pair : Pair X → Pair Y
  shown_pair p = record { index = p.index; first = option_map f p.first; second = option_map g p.second }

  module _ (s : X → ℕ) (t : Y → ℕ) (same_f : (x : X) → t (f x) ≡ s x) (same_g : (x : X) → t (g x) ≡ s x) where
    differ-shown : (a b : Option X) → differ t (option_map f a) (option_map g b) ≡ differ s a b
    differ-shown None None = refl
    differ-shown None (Some b) = refl
    differ-shown (Some a) None = refl
    differ-shown (Some a) (Some b) = λ i. not (same_f a i == same_g b i)

    changed-shown : (a b : FinMap nat_cmp X) (ks : List ℕ) →
        filter (λ p. differ t p.first p.second) (map (λ k. record { index = k; first = get (map_values f a) k; second = get (map_values g b) k }) ks)
        ≡ map shown_pair (filter (λ p. differ s p.first p.second) (map (λ k. record { index = k; first = get a k; second = get b k }) ks))
    changed-shown a b [] = refl
    changed-shown a b (k ∷ ks) =
        let fa = get-map_values nat_cmp_total f a k in
        let gb = get-map_values nat_cmp_total g b k in
        let rest = changed-shown a b ks in
        let p : Pair X = record { index = k; first = get a k; second = get b k } in
        (λ i. cond (differ t (fa i) (gb i)) (record { index = k; first = fa i; second = gb i } ∷ rest i) (rest i))
        ∙ ap (λ d. cond d (shown_pair p ∷ rest_of ks) (rest_of ks)) (differ-shown (get a k) (get b k))
        ∙ spread p (differ s p.first p.second) (kept ks)
      where
        kept : List ℕ → List (Pair X)
        kept ks = filter (λ p. differ s p.first p.second) (map (λ k. record { index = k; first = get a k; second = get b k }) ks)

        rest_of : List ℕ → List (Pair Y)
        rest_of ks = map shown_pair (filter (λ p. differ s p.first p.second) (map (λ k. record { index = k; first = get a k; second = get b k }) ks))

        spread : (p : Pair X) (d : Bool) (ps : List (Pair X)) → cond d (shown_pair p ∷ map shown_pair ps) (map shown_pair ps) ≡ map shown_pair (cond d (p ∷ ps) ps)
        spread p true ps = refl
        spread p false ps = refl

    pub changed-values : (a b : FinMap nat_cmp X) (i : ℕ) → changed_from t (map_values f a) (map_values g b) i ≡ map shown_pair (changed_from s a b i)
    changed-values a b i =
        ap (λ ks. filter (λ p. differ t p.first p.second) (map (λ k. record { index = k; first = get (map_values f a) k; second = get (map_values g b) k }) (filter (nat_le i) ks))) (either-values a b)
        ∙ changed-shown a b (filter (nat_le i) (either_keys a b))

pub same-maps : {A B : Type 0} (f g : A → B) → ((x : A) → f x ≡ g x) → (xs : List A) → map f xs ≡ map g xs
same-maps f g e [] = refl
same-maps f g e (x ∷ xs) = λ i. e x i ∷ same-maps f g e xs i
