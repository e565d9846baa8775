-- What is given up of all groups is what is given up of all snapshots.
use Rattle.std.proofs.Common.{◌≡◌, ℕ, ◌+◌, ◌*◌, arith, Bool, true, false, cond, not, ◌&&◌, T, List, [], ◌∷◌, map, get_or, Option, Some, None, unwrap_or, Ordering, Less, Equal, Greater, refl, sym, ap, ◌∙◌}
use Rattle.std.proofs.lemmas.Bool.{false≢true}
use Rattle.std.specs.Prelude.{is_some}
use Rattle.std.specs.List.{filter, flat_map, sum_by, count_by, AllByRecursion}
use Rattle.std.specs.List.Sorted.{IsSorted, IsStrictlySortedBy}
use Rattle.std.specs.Ordering.{is_lt, is_eq, eq_by_cmp, ordering_reverse}
use Rattle.std.specs.FinMap.Entries.{find, below_all, is_sorted}
use Rattle.std.specs.FinMap.{FinMap, get, entries, entries_sorted, get-entries}
use Rattle.std.proofs.lemmas.List.Sums.{sum_by-cons, sum_by-append}
use Rattle.std.proofs.lemmas.List.Sorted.{sum_by-IsPermutation}
use Rattle.std.proofs.lemmas.Map.Keys.{Less-from_sorted}
use Rattle.ebs_tables.proofs.MapEdits.{is_same}
use Rattle.ebs_model.specs.declared.keys.SnapKey.{SnapKey}
use Rattle.ebs_model.specs.declared.keys.VolKey.{VolKey}
use Rattle.ebs_model.specs.declared.keys.PolicyKey.{PolicyKey}
use Rattle.ebs_model.specs.declared.keys.AnyKey.{AnyKey}
use Rattle.ebs_model.specs.declared.keys.AnyKey.TheVariants.{Snap}
use Rattle.ebs_model.specs.declared.policy.Policy.{Policy}
use Rattle.ebs_model.specs.declared.policy.Made.{Made}
use Rattle.ebs_model.specs.declared.rows.SnapRow.{SnapRow}
use Rattle.ebs_model.specs.Keys.{snap_cmp, vol_cmp}
use Rattle.ebs_model.specs.inner.Orders.{snaps_total, vols_total, exact_vols}
use Rattle.ebs_model.specs.Access.{owns}
use Rattle.ebs_model.specs.Time.{is_ahead}
use Rattle.ebs_model.specs.Retention.{is_ended, is_released}
use Rattle.ebs_model.specs.Policies.{is_managed, is_policy, is_same_volume, made_of, of_volume, managed, released, ended}
use Rattle.ebs_model.specs.Rows.{Rows}
use Rattle.ebs_model.proofs.VolumeGroups.{volume_ended, volume_released}
use Rattle.ebs_lifecycle.specs.Retention.{AreInOrder, keys_of}
use Rattle.ebs_lifecycle.proofs.OneOrder.{one_order, before, keys_weak, same_key}
use Rattle.ebs_catalog.specs.Runs.{group, ended_in, released_in}
use Rattle.ebs_catalog.proofs.Groups.{is-volume, itself}
use Rattle.ebs_catalog.proofs.Picked.{each, all-found}
use Rattle.ebs_catalog.proofs.Placed.{Entries}

abbrev Groups : Type 0
Groups = List (VolKey × List Made)

-- ---- sums

sum_two : {E : Type 0} (f g h : E → ℕ) → ((e : E) → f e ≡ g e + h e) → (es : List E) → sum_by f es ≡ sum_by g es + sum_by h es
sum_two f g h same [] = refl
sum_two f g h same (e ∷ es) =
    let a = sum_by-cons f e es in
    let b = sum_by-cons g e es in
    let c = sum_by-cons h e es in
    let one = same e in
    let rest = sum_two f g h same es in
    omega (arith, a, b, c, one, rest)

sum_none : {E : Type 0} (f : E → ℕ) → ((e : E) → f e ≡ 0) → (es : List E) → sum_by f es ≡ 0
sum_none f none [] = refl
sum_none f none (e ∷ es) =
    let a = sum_by-cons f e es in
    let one = none e in
    let rest = sum_none f none es in
    omega (arith, a, one, rest)

sum_each : {E : Type 0} (f g : E → ℕ) (es : List E) → AllByRecursion (λ e. f e ≡ g e) es → sum_by f es ≡ sum_by g es
sum_each f g [] same = refl
sum_each f g (e ∷ es) same = sum_by-cons f e es ∙ (λ i. same.0 i + sum_each f g es same.1 i) ∙ sym (sum_by-cons g e es)

sum_flat : {E K : Type 0} (f : K → ℕ) (g : E → List K) (es : List E) → sum_by f (flat_map g es) ≡ sum_by (λ e. sum_by f (g e)) es
sum_flat f g [] = refl
sum_flat f g (e ∷ es) = sum_by-append f (g e) (flat_map g es) ∙ ap (λ n. sum_by f (g e) + n) (sum_flat f g es) ∙ sym (sum_by-cons (λ e. sum_by f (g e)) e es)

sum_map : {E K : Type 0} (f : K → ℕ) (g : E → K) (es : List E) → sum_by f (map g es) ≡ sum_by (λ e. f (g e)) es
sum_map f g [] = refl
sum_map f g (e ∷ es) = sum_by-cons f (g e) (map g es) ∙ ap (λ n. f (g e) + n) (sum_map f g es) ∙ sym (sum_by-cons (λ e. f (g e)) e es)

filter_front : {A : Type 0} (weight : A → ℕ) (x : A) (xs : List A) (b : Bool) → sum_by weight (cond b (x ∷ xs) xs) ≡ cond b (weight x) 0 + sum_by weight xs
filter_front weight x xs true = sum_by-cons weight x xs
filter_front weight x xs false = omega arith

times : (c n s : ℕ) → s ≡ n * c → c + s ≡ (1 + n) * c
times c n s h = omega (arith, h)

no_times : (c n s : ℕ) → s ≡ n * c → 0 + s ≡ (0 + n) * c
no_times c n s h = omega (arith, h)

-- the weight of one that counts so often
so_often : {E : Type 0} (q : E → Bool) (b : Bool) (weight : ℕ) (es : List E) → sum_by (λ e. cond (q e && b) weight 0) es ≡ count_by q es * cond b weight 0
so_often q b weight [] = omega arith
so_often q b weight (e ∷ es) =
    sum_by-cons (λ e. cond (q e && b) weight 0) e es
    ∙ by (q e) (so_often q b weight es)
    ∙ ap (λ n. n * cond b weight 0) (sym (sum_by-cons (λ e. cond (q e) 1 0) e es))
  where
    by : (t : Bool) → sum_by (λ e. cond (q e && b) weight 0) es ≡ count_by q es * cond b weight 0
        → cond (t && b) weight 0 + sum_by (λ e. cond (q e && b) weight 0) es ≡ (cond t 1 0 + count_by q es) * cond b weight 0
    by true h = times (cond b weight 0) (count_by q es) (sum_by (λ e. cond (q e && b) weight 0) es) h
    by false h = no_times (cond b weight 0) (count_by q es) (sum_by (λ e. cond (q e && b) weight 0) es) h

-- each one stands in one group, so the groups' sums are the sum of all
module _ {A : Type 0} (volume : A → Option VolKey) (passes : A → Bool) (weight : A → ℕ) (es : Groups) where
  abbrev of_group : VolKey → List A → ℕ
  of_group v xs = sum_by weight (filter (λ x. is_same_volume (Some v) (volume x) && passes x) xs)

  abbrev IsOnce : A → Type 0
  IsOnce x = count_by (λ e. is_same_volume (Some e.0) (volume x)) es ≡ 1

  all_groups : (xs : List A) → AllByRecursion IsOnce xs → sum_by (λ e. of_group e.0 xs) es ≡ sum_by weight (filter passes xs)
  all_groups [] once = sum_none (λ (e : VolKey × List Made). 0) (λ e. refl) es
  all_groups (x ∷ xs) once =
      let here : ℕ = cond (passes x) (weight x) 0 in
      sum_two (λ e. of_group e.0 (x ∷ xs)) (λ e. cond (is_same_volume (Some e.0) (volume x) && passes x) (weight x) 0) (λ e. of_group e.0 xs)
      (λ e. filter_front weight x (filter (λ x. is_same_volume (Some e.0) (volume x) && passes x) xs) (is_same_volume (Some e.0) (volume x) && passes x)) es
      ∙ (λ i. so_often (λ e. is_same_volume (Some e.0) (volume x)) (passes x) (weight x) es i + all_groups xs once.1 i)
      ∙ ap (λ n. n * here + sum_by weight (filter passes xs)) once.0
      ∙ single here (sum_by weight (filter passes xs))
      ∙ sym (filter_front weight x (filter passes xs) (passes x))
    where
      single : (a b : ℕ) → 1 * a + b ≡ a + b
      single a b = omega arith

-- ---- a volume's one group

less_of : (r : Ordering) → T (is_lt r) → r ≡ Less
less_of Less h = refl
less_of Equal h = absurd h
less_of Greater h = absurd h

first_of : (a b : Bool) → T (a && b) → T a
first_of true b h = tt
first_of false b h = absurd h

second_of : (a b : Bool) → T (a && b) → T b
second_of true b h = h
second_of false b h = absurd h

turned : (a b : VolKey) → eq_by_cmp vol_cmp a b ≡ eq_by_cmp vol_cmp b a
turned a b = ap is_eq (vols_total.antisymm a b) ∙ by (vol_cmp b a)
  where
    by : (r : Ordering) → is_eq (ordering_reverse r) ≡ is_eq r
    by Less = refl
    by Equal = refl
    by Greater = refl

abbrev so_many : VolKey → Groups → ℕ
so_many u es = count_by (λ e. is_same_volume (Some e.0) (Some u)) es

no_later : (k u : VolKey) → k ≡ u → (es : Groups) → T (below_all vol_cmp k es) → so_many u es ≡ 0
no_later k u same [] up = refl
no_later k u same (e ∷ es) up =
    let apart : is_same_volume (Some e.0) (Some u) ≡ false =
    sym (is-volume e.0 u) ∙ ap (eq_by_cmp vol_cmp e.0) (sym same) ∙ ap is_eq (vols_total.antisymm e.0 k ∙ ap ordering_reverse (less_of (vol_cmp k e.0) (first_of _ _ up))) in
    sum_by-cons (λ e. cond (is_same_volume (Some e.0) (Some u)) 1 0) e es ∙ (λ i. cond (apart i) 1 0 + no_later k u same es (second_of _ _ up) i)

at_most_one : (u : VolKey) (es : Groups) → T (is_sorted vol_cmp es) → so_many u es ≡ cond (is_some (find vol_cmp u es)) 1 0
at_most_one u [] up = refl
at_most_one u (e ∷ es) up =
    sum_by-cons (λ e. cond (is_same_volume (Some e.0) (Some u)) 1 0) e es
    ∙ ap (λ b. cond b 1 0 + so_many u es) (sym (is-volume e.0 u) ∙ turned e.0 u)
    ∙ by (eq_by_cmp vol_cmp u e.0) refl (at_most_one u es (second_of _ _ up))
  where
    by : (b : Bool) → eq_by_cmp vol_cmp u e.0 ≡ b → so_many u es ≡ cond (is_some (find vol_cmp u es)) 1 0
        → cond b 1 0 + so_many u es ≡ cond (is_some (cond b (Some e.1) (find vol_cmp u es))) 1 0
    by true t rest = ap (λ n. 1 + n) (no_later e.0 u (sym (is_same exact_vols u e.0 t)) es (first_of _ _ up))
    by false t rest = none_more (so_many u es) ∙ rest
      where
        none_more : (n : ℕ) → 0 + n ≡ n
        none_more n = omega arith

-- ---- a policy's snapshots

abbrev none_of : VolKey → Entries → Type 0
none_of u xs = AllByRecursion (λ s. is_same_volume (Some u) s.1.volume ≡ false) xs

none_left : (now : ℕ) (u : VolKey) (xs : Entries) → of_volume now (Some u) xs ≡ [] → none_of u xs
none_left now u [] h = tt
none_left now u (x ∷ xs) h = by (is_same_volume (Some u) x.1.volume) refl h (none_left now u xs)
  where
    by : (b : Bool) → is_same_volume (Some u) x.1.volume ≡ b → map (made_of now) (cond b (x ∷ filter (λ e. is_same_volume (Some u) e.1.volume) xs) (filter (λ e. is_same_volume (Some u) e.1.volume) xs)) ≡ [] → (of_volume now (Some u) xs ≡ [] → none_of u xs) → none_of u (x ∷ xs)
    by true t e rest = absurd (some_none _ _ e)
      where
        some_none : (m : Made) (ms : List Made) → m ∷ ms ≡ [] → ⊥
        some_none m ms e = cc
    by false t e rest = (t, rest e)

once_each : (m : FinMap vol_cmp (List Made)) (xs : Entries) → ((u : VolKey) → is_some (get m u) ≡ false → none_of u xs) → AllByRecursion (λ s. is_some s.1.volume ≡ true) xs
    → AllByRecursion (λ s. count_by (λ e. is_same_volume (Some e.0) s.1.volume) (entries m) ≡ 1) xs
once_each m [] none there = tt
once_each m (x ∷ xs) none there = (of x.1.volume refl there.0, once_each m xs (λ u h. (none u h).1) there.1)
  where
    of : (o : Option VolKey) → x.1.volume ≡ o → is_some o ≡ true → count_by (λ e. is_same_volume (Some e.0) o) (entries m) ≡ 1
    of None is h = absurd (false≢true h)
    of (Some u) is h = at_most_one u (entries m) (entries_sorted m) ∙ ap (λ o. cond (is_some o) 1 0) (sym (get-entries m u)) ∙ by (is_some (get m u)) refl
      where
        by : (b : Bool) → is_some (get m u) ≡ b → cond {A = ℕ} b 1 0 ≡ 1
        by true t = refl
        by false t = absurd (false≢true (sym (ap (is_same_volume (Some u)) (sym is) ∙ (none u t).0) ∙ itself u))

passed : {A : Type 0} (p : A → Bool) (xs : List A) → AllByRecursion (λ x. p x ≡ true) (filter p xs)
passed p [] = tt
passed p (x ∷ xs) = by (p x) refl (passed p xs)
  where
    by : (b : Bool) → p x ≡ b → AllByRecursion (λ x. p x ≡ true) (filter p xs) → AllByRecursion (λ x. p x ≡ true) (cond b (x ∷ filter p xs) (filter p xs))
    by true t rest = (t, rest)
    by false t rest = rest

has_volume : (o p v a : Bool) → (o && (p && (v && a))) ≡ true → v ≡ true
has_volume true true true a h = refl
has_volume true true false a h = absurd (false≢true h)
has_volume true false v a h = absurd (false≢true h)
has_volume false p v a h = absurd (false≢true h)

have_volumes : (rows : Rows) (key : PolicyKey) (now : ℕ) → AllByRecursion (λ s. is_some s.1.volume ≡ true) (managed rows key now)
have_volumes rows key now =
    each (λ s. is_managed key now s ≡ true) (λ s. is_some s.1.volume ≡ true)
    (λ s h. has_volume (owns key.account s.0) (is_policy key s.1.policy) (is_some s.1.volume) (not (is_ahead s.1.bin_end now)) h) (managed rows key now) (passed (is_managed key now) (entries rows.snaps))

-- ---- in order

joined : (a b : Bool) → T a → T b → T (a && b)
joined true b h g = g
joined false b h g = absurd h

below_filter : (p : SnapKey × SnapRow → Bool) (k : SnapKey) (es : Entries) → T (below_all snap_cmp k es) → T (below_all snap_cmp k (filter p es))
below_filter p k [] up = tt
below_filter p k (e ∷ es) up = by (p e) (below_filter p k es (second_of _ _ up))
  where
    by : (b : Bool) → T (below_all snap_cmp k (filter p es)) → T (below_all snap_cmp k (cond b (e ∷ filter p es) (filter p es)))
    by true rest = joined (is_lt (snap_cmp k e.0)) (below_all snap_cmp k (filter p es)) (first_of _ _ up) rest
    by false rest = rest

sorted_filter : (p : SnapKey × SnapRow → Bool) (es : Entries) → T (is_sorted snap_cmp es) → T (is_sorted snap_cmp (filter p es))
sorted_filter p [] up = tt
sorted_filter p (e ∷ es) up = by (p e) (sorted_filter p es (second_of _ _ up))
  where
    by : (b : Bool) → T (is_sorted snap_cmp (filter p es)) → T (is_sorted snap_cmp (cond b (e ∷ filter p es) (filter p es)))
    by true rest = joined (below_all snap_cmp e.0 (filter p es)) (is_sorted snap_cmp (filter p es)) (below_filter p e.0 es (first_of _ _ up)) rest
    by false rest = rest

below_each : (k : SnapKey) (es : Entries) → T (below_all snap_cmp k es) → AllByRecursion (λ q. snap_cmp k q ≡ Less) (map (λ e. e.0) es)
below_each k [] up = tt
below_each k (e ∷ es) up = (less_of (snap_cmp k e.0) (first_of _ _ up), below_each k es (second_of _ _ up))

strictly : (es : Entries) → T (is_sorted snap_cmp es) → IsStrictlySortedBy snap_cmp (map (λ e. e.0) es)
unfolding IsStrictlySortedBy
strictly [] up = tt
strictly (e ∷ es) up = (below_each e.0 es (first_of _ _ up), strictly es (second_of _ _ up))

rising : (es : Entries) → T (is_sorted snap_cmp es) → IsSorted snap_cmp (map (λ e. e.0) es)
rising es up = λ k d low high.
    let keys : List SnapKey = map (λ (e : SnapKey × SnapRow). e.0) es in
    ap is_lt (snaps_total.antisymm (get_or keys (k + 1) d) (get_or keys k d) ∙ ap ordering_reverse (Less-from_sorted snap_cmp keys k (k + 1) d (strictly es up) (omega arith) high))

-- ---- all together

-- by any test of a snapshot among those of its volume
module _ (test : List Made → Made → Bool) (rows : Rows) (key : PolicyKey) (now : ℕ) (m : FinMap vol_cmp (List Made)) (groups : (v : VolKey) → group m v ≡ of_volume now (Some v) (managed rows key now)) where
  abbrev snaps : Entries
  snaps = managed rows key now

  abbrev passes : SnapKey × SnapRow → Bool
  passes s = test (of_volume now s.1.volume snaps) (made_of now s)

  abbrev given : List Made → List SnapKey
  given made = keys_of (test made) made

  abbrev all_given : List SnapKey
  all_given = map (λ s. s.0) (filter passes snaps)

  once : AllByRecursion (λ s. count_by (λ e. is_same_volume (Some e.0) s.1.volume) (entries m) ≡ 1) snaps
  once = once_each m snaps (λ u h. none_left now u snaps (sym (groups u) ∙ none (get m u) h)) (have_volumes rows key now)
    where
      none : (o : Option (List Made)) → is_some o ≡ false → unwrap_or o [] ≡ []
      none None h = refl
      none (Some made) h = absurd (false≢true (sym h))

  module _ (each_group : (v : VolKey) → given (of_volume now (Some v) snaps) ≡ map (λ s. s.0) (filter (λ s. is_same_volume (Some v) s.1.volume && passes s) snaps)) where
    sums : (f : SnapKey → ℕ) → sum_by f (flat_map (λ e. given e.1) (entries m)) ≡ sum_by f all_given
    sums f =
        sum_flat f (λ e. given e.1) (entries m)
        ∙ sum_each (λ e. sum_by f (given e.1)) (λ e. of_group (λ s. s.1.volume) passes (λ s. f s.0) (entries m) e.0 snaps) (entries m)
        (each (λ e. get m e.0 ≡ Some e.1) (λ e. sum_by f (given e.1) ≡ of_group (λ s. s.1.volume) passes (λ s. f s.0) (entries m) e.0 snaps) one (entries m) (all-found vols_total m))
        ∙ all_groups (λ s. s.1.volume) passes (λ s. f s.0) (entries m) snaps once
        ∙ sym (sum_map f (λ (s : SnapKey × SnapRow). s.0) (filter passes snaps))
      where
        one : (e : VolKey × List Made) → get m e.0 ≡ Some e.1 → sum_by f (given e.1) ≡ of_group (λ s. s.1.volume) passes (λ s. f s.0) (entries m) e.0 snaps
        one e is =
            let made : e.1 ≡ of_volume now (Some e.0) snaps = sym (ap (λ o. unwrap_or o []) is) ∙ groups e.0 in
            ap (sum_by f) (ap given made ∙ each_group e.0)
            ∙ sum_map f (λ (s : SnapKey × SnapRow). s.0) (filter (λ s. is_same_volume (Some e.0) s.1.volume && passes s) snaps)

    in_one_order : (ids : List AnyKey) → AreInOrder (flat_map (λ e. given e.1) (entries m)) ids → ids ≡ map Snap all_given
    in_one_order ids (sorted, is, rises, moves) =
        is ∙ ap (map Snap) (one_order before keys_weak same_key sorted all_given rises
        (rising (filter passes snaps) (sorted_filter passes snaps (sorted_filter (is_managed key now) (entries rows.snaps) (entries_sorted rows.snaps))))
        (λ f. sum_by-IsPermutation f (flat_map (λ e. given e.1) (entries m)) sorted moves ∙ sums f))

module _ (p : Policy) (rows : Rows) (key : PolicyKey) (now : ℕ) (m : FinMap vol_cmp (List Made)) (groups : (v : VolKey) → group m v ≡ of_volume now (Some v) (managed rows key now)) (ids : List AnyKey) where
  pub all-ended : AreInOrder (ended_in p.retain now m) ids → ids ≡ map Snap (ended p now (managed rows key now))
  all-ended h = in_one_order (λ made one. is_ended p.retain made now one) rows key now m groups (λ v. volume_ended p now (Some v) (managed rows key now)) ids h

  pub all-released : AreInOrder (released_in p.retain now m) ids → ids ≡ map Snap (released p now (managed rows key now))
  all-released h = in_one_order (λ made one. is_released p.retain made now one) rows key now m groups (λ v. volume_released p now (Some v) (managed rows key now)) ids h
