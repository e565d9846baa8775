-- What time leaves of a finite map, key by key.
use Rattle.std.proofs.Common.{◌≡◌, Bool, true, false, cond, ◌&&◌, Option, Some, None, Ordering, refl, sym, ap, ◌∙◌}
use Rattle.std.specs.Option.{option_map}
use Rattle.std.specs.List.{filter, count_by}
use Rattle.std.specs.Map.{keys_of}
use Rattle.std.specs.BTreeMap.{is_at}
use Rattle.std.specs.Ordering.{eq_by_cmp}
use Rattle.std.specs.Cmp.{IsTotalOrder, eq_by_cmp_equiv}
use Rattle.std.proofs.lemmas.Map.Entries.{option_filter, lookup-filter-values}
use Rattle.std.proofs.lemmas.Map.Made.{lookup-map_values}
use Rattle.std.proofs.lemmas.Map.Keys.{IsDistinct-from_sorted}
use Rattle.std.specs.FinMap.{FinMap, get, insert, remove, empty, entries, IsAntisymmetric, same_map, get-insert, get-remove, get-empty}
use Rattle.ebs_tables.specs.Aged.{aged_map}
use Rattle.ebs_tables.proofs.TreeMaps.{entries-seen, get-seen, get-lookup, entries-sorted, rewritten, sorted-rewritten, count_by-rewritten}

-- what is left of a value
abbrev pub left : {X : Type 0} → (X → Bool) → (X → X) → Option X → Option X
left stays rested found = option_map rested (option_filter stays found)

module _ {K X : Type 0} {R : K → K → Ordering} (o : IsTotalOrder R) (q : X → Bool) (g : X → X) where
  pub get-aged : (m : FinMap R X) (k : K) → get (aged_map q g m) k ≡ left q g (get m k)
  unfolding aged_map
  get-aged m k =
      get-seen o (rewritten q g (entries m)) k
      ∙ lookup-map_values g (is_at (R k)) (filter (λ e. q e.1) (entries m))
      ∙ ap (option_map g) (lookup-filter-values (eq_by_cmp_equiv o) q k (entries m) (IsDistinct-from_sorted R (keys_of (entries m)) (entries-sorted R m)) ∙ ap (option_filter q) (sym (get-lookup R m k)))

  pub entries-aged : (m : FinMap R X) → entries (aged_map q g m) ≡ rewritten q g (entries m)
  unfolding aged_map
  entries-aged m = entries-seen o (rewritten q g (entries m)) (sorted-rewritten q g R (entries m) (entries-sorted R m))

  pub count-aged : (p : K × X → Bool) (m : FinMap R X) → count_by p (entries (aged_map q g m)) ≡ count_by (λ e. q e.1 && p (e.0, g e.1)) (entries m)
  count-aged p m = ap (count_by p) (entries-aged m) ∙ count_by-rewritten q g p (entries m)

  left_cond : (b : Bool) (x y : Option X) → left q g (cond b x y) ≡ cond b (left q g x) (left q g y)
  left_cond true x y = refl
  left_cond false x y = refl

  module _ (same : IsAntisymmetric R) where
    pub aged-insert : (m : FinMap R X) (k : K) (x y : X) → left q g (Some x) ≡ Some y → aged_map q g (insert m k x) ≡ insert (aged_map q g m) k y
    aged-insert m k x y h = same_map o same _ _ (λ j.
        get-aged (insert m k x) j ∙ ap (left q g) (get-insert o m k x j) ∙ left_cond (eq_by_cmp R j k) _ _
        ∙ (λ i. cond (eq_by_cmp R j k) (h i) (sym (get-aged m j) i)) ∙ sym (get-insert o (aged_map q g m) k y j))

    pub aged-remove : (m : FinMap R X) (k : K) → aged_map q g (remove m k) ≡ remove (aged_map q g m) k
    aged-remove m k = same_map o same _ _ (λ j.
        get-aged (remove m k) j ∙ ap (left q g) (get-remove o m k j) ∙ left_cond (eq_by_cmp R j k) _ _
        ∙ ap (cond (eq_by_cmp R j k) None) (sym (get-aged m j)) ∙ sym (get-remove o (aged_map q g m) k j))

    pub aged-empty : aged_map q g (empty {X = X} {R = R}) ≡ empty
    aged-empty = same_map o same _ _ (λ j. get-aged empty j ∙ ap (left q g) (get-empty R j) ∙ sym (get-empty R j))

-- a later moment: what it leaves of what was left
pub aged-aged : {K X : Type 0} {R : K → K → Ordering} (o : IsTotalOrder R) (same : IsAntisymmetric R) (q q' : X → Bool) (g g' : X → X) → ((x : X) → left q' g' (left q g (Some x)) ≡ left q' g' (Some x)) → (m : FinMap R X) → aged_map q' g' (aged_map q g m) ≡ aged_map q' g' m
aged-aged o same q q' g g' h m = same_map o same _ _ (λ j. get-aged o q' g' (aged_map q g m) j ∙ ap (left q' g') (get-aged o q g m j) ∙ by (get m j) ∙ sym (get-aged o q' g' m j))
  where
    by : (x : Option _) → left q' g' (left q g x) ≡ left q' g' x
    by None = refl
    by (Some x) = h x

-- a value that time leaves as it is
pub left-same : {X : Type 0} (q : X → Bool) (g : X → X) (x : X) → q x ≡ true → g x ≡ x → left q g (Some x) ≡ Some x
left-same q g x stays same = ap (λ b. option_map g (cond b (Some x) None)) stays ∙ ap Some same

-- of what is found at the moment: what is kept stays, and this is left of it
pub found-stays : {X : Type 0} (q : X → Bool) (g : X → X) (kept x : X) → left q g (Some kept) ≡ Some x → q kept ≡ true
found-stays q g kept x e = elim (q kept) as (λ b. option_map g (cond b (Some kept) None) ≡ Some x → b ≡ true) [ true ↦ λ e. refl | false ↦ λ e. cc ] e

pub found-rested : {X : Type 0} (q : X → Bool) (g : X → X) (kept x : X) → left q g (Some kept) ≡ Some x → g kept ≡ x
found-rested q g kept x e = elim (q kept) as (λ b. option_map g (cond b (Some kept) None) ≡ Some x → g kept ≡ x) [ true ↦ λ e. cc | false ↦ λ e. cc ] e

-- a map at a moment, of one that is kept as it was at an earlier one
module _ {K X : Type 0} {R : K → K → Ordering} (o : IsTotalOrder R) (same : IsAntisymmetric R) (q q' : X → Bool) (g g' : X → X) (later : (x : X) → left q' g' (left q g (Some x)) ≡ left q' g' (Some x)) (raw m : FinMap R X) (is : aged_map q g raw ≡ m) where
  pub aged-now : aged_map q' g' m ≡ aged_map q' g' raw
  aged-now = ap (aged_map q' g') (sym is) ∙ aged-aged o same q q' g g' later raw

  pub get-now : (k : K) → get (aged_map q' g' m) k ≡ left q' g' (get raw k)
  get-now k = ap (λ x. get x k) aged-now ∙ get-aged o q' g' raw k

  pub insert-now : (k : K) (x y : X) → left q' g' (Some x) ≡ Some y → aged_map q' g' (insert raw k x) ≡ insert (aged_map q' g' m) k y
  insert-now k x y h = aged-insert o q' g' same raw k x y h ∙ ap (λ t. insert t k y) (sym aged-now)

  pub remove-now : (k : K) → aged_map q' g' (remove raw k) ≡ remove (aged_map q' g' m) k
  remove-now k = aged-remove o q' g' same raw k ∙ ap (λ t. remove t k) (sym aged-now)
