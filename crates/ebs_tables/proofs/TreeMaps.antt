-- A tree map or set of std, seen as a finite map or set: what its calls do to what is seen.
use Rattle.std.proofs.Common.{◌≡◌, ℕ, Bool, true, false, cond, List, [], ◌∷◌, map, length, Option, Some, None, Less, Equal, Greater, Ordering, ◌&&◌, T, refl, sym, ap, subst, ◌∙◌, arith, ◌+◌, zero-add}
use Rattle.std.specs.FinMap.Entries.{put, by_order, is_sorted, below_all}
use Rattle.std.proofs.Common.{MutBor}
use Rattle.std.specs.Option.{option_copied_mut, IsSome, OnSome}
use Rattle.std.specs.Ordering.{is_lt}
use Rattle.std.specs.Cmp.{IsTotalOrder, eq_by_cmp_equiv}
use Rattle.std.specs.Map.{lookup, keys_of}
use Rattle.std.specs.List.{AllByRecursion, filter, count_by, sum_by}
use Rattle.std.proofs.lemmas.List.Sums.{sum_by-cons}
use Rattle.std.specs.Map.Calls.{RetainsPairs}
use Rattle.std.specs.List.Sorted.{IsStrictlySortedBy}
use Rattle.std.specs.BTreeMap.{is_at}
use Rattle.std.specs.FinMap.{FinMap, find, get, insert, remove, from_entries, entries, len, empty, IsAntisymmetric, same_map, get-from_entries, get-insert, get-remove, entries-insert, len-entries, len-empty, entries_sorted, get-entries}

no_length : {A : Type 0} (es : List A) → length es ≡ 0 → es ≡ []
no_length [] e = refl
no_length (x ∷ es) e = absurd (omega arith)

entries-empty : {K : Type 0} (X : Type 0) (R : K → K → Ordering) → entries (empty {X = X} {R = R}) ≡ []
entries-empty X R = no_length _ (sym (len-entries (empty {X = X} {R = R})) ∙ len-empty R X)

module _ {K X : Type 0} (R : K → K → Ordering) where
  find_lookup : (es : List (K × X)) (q : K) → find R q es ≡ lookup (is_at (R q)) es
  find_lookup [] q = refl
  find_lookup (e ∷ es) q = ap (cond (is_at (R q) e.0) (Some e.1)) (find_lookup es q)

less : (o : Ordering) → T (is_lt o) → o ≡ Less
less Less p = refl
less Equal p = absurd p
less Greater p = absurd p

first : (a b : Bool) → T (a && b) → T a
first true b p = tt
first false b p = p

second : (a b : Bool) → T (a && b) → T b
second true b p = p
second false b p = absurd p

module _ {K X : Type 0} (R : K → K → Ordering) where
  below_each : (x : K) (es : List (K × X)) → T (below_all R x es) → AllByRecursion (λ y. R x y ≡ Less) (keys_of es)
  below_each x [] h = tt
  below_each x (e ∷ es) h = (less _ (first _ _ h), below_each x es (second _ _ h))

  sorted_keys : (es : List (K × X)) → T (is_sorted R es) → IsStrictlySortedBy R (keys_of es)
  unfolding IsStrictlySortedBy
  sorted_keys [] h = tt
  sorted_keys (e ∷ es) h = (below_each e.0 es (first _ _ h), sorted_keys es (second _ _ h))

  -- the keys of a finite map ascend
  pub entries-sorted : (m : FinMap R X) → IsStrictlySortedBy R (keys_of (entries m))
  entries-sorted m = sorted_keys (entries m) (entries_sorted m)

  -- what is found in a finite map stands in its entries
  pub get-lookup : (m : FinMap R X) (q : K) → get m q ≡ lookup (is_at (R q)) (entries m)
  get-lookup m q = get-entries m q ∙ find_lookup R (entries m) q

-- the keys below which each other key is stand in front
module _ {K X : Type 0} (R : K → K → Ordering) where
  put_front : (k : K) (v : X) (es : List (K × X)) → AllByRecursion (λ y. R k y ≡ Less) (keys_of es) → put R k v es ≡ (k, v) ∷ es
  put_front k v [] h = refl
  put_front k v (e ∷ es) h = ap (λ r. by_order r ((k, v) ∷ e ∷ es) ((e.0, v) ∷ es) (e ∷ put R k v es)) h.0

module _ {K X : Type 0} {R : K → K → Ordering} (o : IsTotalOrder R) where
  -- the entries of a tree map are those of the finite map
  pub entries-seen : (es : List (K × X)) → IsStrictlySortedBy R (keys_of es) → entries (from_entries {R = R} es) ≡ es
  unfolding IsStrictlySortedBy
  entries-seen [] h = entries-empty X R
  entries-seen (e ∷ es) h = entries-insert o (from_entries es) e.0 e.1 ∙ ap (put R e.0 e.1) (entries-seen es h.1) ∙ put_front R e.0 e.1 es h.0

  pub len-seen : (es : List (K × X)) → IsStrictlySortedBy R (keys_of es) → len (from_entries {R = R} es) ≡ length es
  len-seen es h = len-entries _ ∙ ap length (entries-seen es h)

  pub get-seen : (es : List (K × X)) (q : K) → get (from_entries {R = R} es) q ≡ lookup (is_at (R q)) es
  get-seen es q = get-from_entries o es q ∙ find_lookup R es q

  module _ (same : IsAntisymmetric R) where
    pub insert-seen : (es fs : List (K × X)) (k : K) (v : X) → ((q : K) → lookup (is_at (R q)) fs ≡ cond (is_at (R k) q) (Some v) (lookup (is_at (R q)) es)) → from_entries {R = R} fs ≡ insert (from_entries es) k v
    insert-seen es fs k v h = same_map o same _ _ (λ q.
        get-seen fs q ∙ h q ∙ ap (λ b. cond b (Some v) (lookup (is_at (R q)) es)) ((eq_by_cmp_equiv o).symm k q)
        ∙ sym (get-insert o (from_entries es) k v q ∙ ap (cond (is_at (R q) k) (Some v)) (get-seen es q)))

    -- a finite map is what its entries make
    pub from_entries-entries : (m : FinMap R X) → from_entries (entries m) ≡ m
    from_entries-entries m = same_map o same _ _ (λ q. get-seen (entries m) q ∙ sym (get-lookup R m q))

    pub remove-seen : (es fs : List (K × X)) (k : K) → ((q : K) → lookup (is_at (R q)) fs ≡ cond (is_at (R k) q) None (lookup (is_at (R q)) es)) → from_entries {R = R} fs ≡ remove (from_entries es) k
    remove-seen es fs k h = same_map o same _ _ (λ q.
        get-seen fs q ∙ h q ∙ ap (λ b. cond b None (lookup (is_at (R q)) es)) ((eq_by_cmp_equiv o).symm k q)
        ∙ sym (get-remove o (from_entries es) k q ∙ ap (cond (is_at (R q) k) None) (get-seen es q)))

-- what holds where something was found holds where a `&mut` to it was lent
pub on_lent : {X : Type 0} (r : Option (MutBor X)) (found : Option X) (P : Type 0) → option_copied_mut r ≡ found → (IsSome found → P) → OnSome r P
on_lent None found P e h = tt
on_lent (Some x) found P e h = h (subst (λ o. IsSome o) e refl)

-- a `retain` whose closure answers q of each value and leaves g of it, and stays as it was
pub retained : {F K X : Type 0} (T : F → K → X → Bool → X → F → Type 0) (q : X → Bool) (g : X → X) (f : F) → ((k : K) (v : X) (b : Bool) (w : X) (f' : F) → T f k v b w f' → (b ≡ q v) × (w ≡ g v) × (f' ≡ f)) → (es kept : List (K × X)) → RetainsPairs T f es kept → kept ≡ map (λ e. (e.0, g e.1)) (filter (λ e. q e.1) es)
retained T q g f each [] kept h = h
retained {K = K} {X = X} T q g f each (e ∷ es) kept (b, w, f', rest, t, more, is) =
    let (tests, writes, stays) = each e.0 e.1 b w f' t in
    let tail = retained T q g f each es rest (subst (λ x. RetainsPairs T x es rest) stays more) in
    is ∙ (λ i. cond (tests i) ((e.0, writes i) ∷ tail i) (tail i)) ∙ spread (q e.1)
  where
    spread : (b : Bool) → cond b ((e.0, g e.1) ∷ map (λ e. (e.0, g e.1)) (filter (λ e. q e.1) es)) (map (λ e. (e.0, g e.1)) (filter (λ e. q e.1) es)) ≡ map {B = K × X} (λ e. (e.0, g e.1)) (cond b (e ∷ filter (λ e. q e.1) es) (filter (λ e. q e.1) es))
    spread true = refl
    spread false = refl

-- entries that are left out, and whose values are rewritten
module _ {K X : Type 0} (q : X → Bool) (g : X → X) where
  abbrev pub rewritten : List (K × X) → List (K × X)
  rewritten es = map {B = K × X} (λ e. (e.0, g e.1)) (filter (λ e. q e.1) es)

  all-rewritten : (P : K → Type 0) (es : List (K × X)) → AllByRecursion P (keys_of es) → AllByRecursion P (keys_of (rewritten es))
  all-rewritten P [] h = tt
  all-rewritten P (e ∷ es) h = elim (q e.1) as (λ b. AllByRecursion P (keys_of (map {B = K × X} (λ e. (e.0, g e.1)) (cond b (e ∷ filter (λ e. q e.1) es) (filter (λ e. q e.1) es))))) [ true ↦ (h.0, all-rewritten P es h.1) | false ↦ all-rewritten P es h.1 ]

  pub sorted-rewritten : (R : K → K → Ordering) (es : List (K × X)) → IsStrictlySortedBy R (keys_of es) → IsStrictlySortedBy R (keys_of (rewritten es))
  unfolding IsStrictlySortedBy
  sorted-rewritten R [] h = tt
  sorted-rewritten R (e ∷ es) h = elim (q e.1) as (λ b. IsStrictlySortedBy R (keys_of (map {B = K × X} (λ e. (e.0, g e.1)) (cond b (e ∷ filter (λ e. q e.1) es) (filter (λ e. q e.1) es))))) [ true ↦ (all-rewritten _ es h.0, sorted-rewritten R es h.1) | false ↦ sorted-rewritten R es h.1 ]

  -- how many of these a test counts
  pub count_by-rewritten : (p : K × X → Bool) (es : List (K × X)) → count_by p (rewritten es) ≡ count_by (λ e. q e.1 && p (e.0, g e.1)) es
  count_by-rewritten p [] = refl
  count_by-rewritten p (e ∷ es) =
      let one : K × X → ℕ = λ e. cond (p e) 1 0 in
      let each : K × X → ℕ = λ e. cond (q e.1 && p (e.0, g e.1)) 1 0 in
      elim (q e.1) as (λ b. sum_by one (map {B = K × X} (λ e. (e.0, g e.1)) (cond b (e ∷ filter (λ e. q e.1) es) (filter (λ e. q e.1) es))) ≡ cond (b && p (e.0, g e.1)) 1 0 + sum_by each es) [
        | true ↦ sum_by-cons one (e.0, g e.1) (rewritten es) ∙ ap (λ n. cond (p (e.0, g e.1)) 1 0 + n) (count_by-rewritten p es)
        | false ↦ count_by-rewritten p es ∙ sym (zero-add (sum_by each es))
      ] ∙ sym (sum_by-cons each e es)
