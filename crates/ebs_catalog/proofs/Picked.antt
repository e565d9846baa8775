-- What is given up of all groups of snapshots.
use Rattle.std.proofs.Common.{◌≡◌, ℕ, false, cond, List, [], ◌∷◌, ◌++◌, map, Some, Less, Ordering, unwrap_or, refl, sym, ap, subst, ◌∙◌, append_assoc, append-nil}
use Rattle.std.specs.List.{flat_map, AllByRecursion}
use Rattle.std.specs.List.Sorted.{IsPermutation, IsStrictlySortedBy}
use Rattle.std.specs.Cmp.{IsTotalOrder}
use Rattle.std.specs.Ordering.{is_eq, ordering_reverse}
use Rattle.std.specs.Map.{lookup, keys_of as map_keys}
use Rattle.std.specs.BTreeMap.{is_at}
use Rattle.std.specs.FinMap.{FinMap, get, entries}
use Rattle.std.proofs.lemmas.Cmp.{tied_itself}
use Rattle.std.proofs.lemmas.List.Sorted.{IsPermutation-refl, IsPermutation-trans, IsPermutation-append_left, IsPermutation-append_right}
use Rattle.ebs_tables.proofs.TreeMaps.{entries-sorted, get-lookup}
use Rattle.ebs_model.specs.declared.keys.SnapKey.{SnapKey}
use Rattle.ebs_model.specs.declared.keys.VolKey.{VolKey}
use Rattle.ebs_model.specs.declared.keys.AnyKey.{AnyKey}
use Rattle.ebs_model.specs.declared.keys.AnyKey.TheVariants.{Snap}
use Rattle.ebs_model.specs.declared.policy.Made.{Made}
use Rattle.ebs_model.specs.Keys.{vol_cmp}
use Rattle.ebs_model.specs.inner.Orders.{vols_total}
use Rattle.ebs_model.specs.declared.policy.Retain.{Retain}
use Rattle.ebs_model.specs.Retention.{is_ended, is_released}
use Rattle.ebs_lifecycle.specs.Retention.{AreInOrder, AreStarted, keys_of}
use Rattle.ebs_catalog.specs.Runs.{group, snaps_of}

pub each : {A : Type 0} (P Q : A → Type 0) → ((x : A) → P x → Q x) → (xs : List A) → AllByRecursion P xs → AllByRecursion Q xs
each P Q h [] all = tt
each P Q h (x ∷ xs) all = (h x all.0, each P Q h xs all.1)

-- ---- entries

-- each value is found at its key
module _ {K X : Type 0} {R : K → K → Ordering} (o : IsTotalOrder R) where
  later : (e : K × X) (es rest : List (K × X)) → AllByRecursion (λ y. R e.0 y ≡ Less) (map_keys rest) → AllByRecursion (λ q. lookup (is_at (R q.0)) es ≡ Some q.1) rest → AllByRecursion (λ q. lookup (is_at (R q.0)) (e ∷ es) ≡ Some q.1) rest
  later e es [] low h = tt
  later e es (q ∷ rest) low h =
      let apart : is_at (R q.0) e.0 ≡ false = ap is_eq (o.antisymm q.0 e.0 ∙ ap ordering_reverse low.0) in
      (ap (λ b. cond b (Some e.1) (lookup (is_at (R q.0)) es)) apart ∙ h.0, later e es rest low.1 h.1)

  found : (es : List (K × X)) → IsStrictlySortedBy R (map_keys es) → AllByRecursion (λ q. lookup (is_at (R q.0)) es ≡ Some q.1) es
  unfolding IsStrictlySortedBy
  found [] up = tt
  found (e ∷ es) up = (ap (λ r. cond (is_eq r) (Some e.1) (lookup (is_at (R e.0)) es)) (tied_itself o e.0), later e es es up.0 (found es up.1))

  pub all-found : (m : FinMap R X) → AllByRecursion (λ q. get m q.0 ≡ Some q.1) (entries m)
  all-found m = each (λ q. lookup (is_at (R q.0)) (entries m) ≡ Some q.1) (λ q. get m q.0 ≡ Some q.1) (λ q h. get-lookup R m q.0 ∙ h) (entries m) (found (entries m) (entries-sorted R m))

pub all-started : (m : FinMap vol_cmp (List Made)) → ((v : VolKey) → AreStarted (group m v)) → AllByRecursion (λ e. AreStarted e.1) (entries m)
all-started m h = each (λ e. get m e.0 ≡ Some e.1) (λ e. AreStarted e.1) (λ e is. subst AreStarted (ap (λ o. unwrap_or o []) is) (h e.0)) (entries m) (all-found vols_total m)

-- ---- a group more

snaps-same : (keys : List SnapKey) → snaps_of (map Snap keys) ≡ keys
snaps-same [] = refl
snaps-same (key ∷ keys) = ap (λ l. key ∷ l) (snaps-same keys)

pub moved : (old keys new : List SnapKey) (ids : List AnyKey) → AreInOrder keys ids → new ≡ old ++ snaps_of ids → IsPermutation (old ++ keys) new
moved old keys new ids (sorted, is, rises, moves) e =
    let all : new ≡ old ++ sorted = e ∙ ap (λ l. old ++ l) (ap snaps_of is ∙ snaps-same sorted) in
    subst (IsPermutation (old ++ keys)) (sym all) (IsPermutation-append_right old keys sorted moves)

module _ (f : List Made → List SnapKey) where
  abbrev pub of_all : List (VolKey × List Made) → List SnapKey
  of_all es = flat_map (λ e. f e.1) es

  pub nothing-yet : (es : List (VolKey × List Made)) (none : List SnapKey) → none ≡ [] → IsPermutation (of_all es) (none ++ of_all es)
  nothing-yet es none e = subst (λ l. IsPermutation (of_all es) (l ++ of_all es)) (sym e) (IsPermutation-refl (of_all es))

  pub group-more : (all old new : List SnapKey) (e : VolKey × List Made) (slice : List Made) (left rest : List (VolKey × List Made)) → left ≡ e ∷ rest → slice ≡ e.1
      → IsPermutation all (old ++ of_all left) → IsPermutation (old ++ f slice) new → IsPermutation all (new ++ of_all rest)
  group-more all old new e slice left rest steps is before more =
      IsPermutation-trans all ((old ++ f e.1) ++ of_all rest) (new ++ of_all rest)
      (subst (IsPermutation all) (ap (λ l. old ++ of_all l) steps ∙ sym (append_assoc old (f e.1) (of_all rest))) before)
      (IsPermutation-append_left (of_all rest) (old ++ f e.1) new (subst (λ m. IsPermutation (old ++ f m) new) is more))

  pub all-in-order : (first all left : List (VolKey × List Made)) (keys : List SnapKey) (ids : List AnyKey) → first ≡ all → left ≡ []
      → IsPermutation (of_all first) (keys ++ of_all left) → AreInOrder keys ids → AreInOrder (of_all all) ids
  all-in-order first all left keys ids is none before (sorted, same, rises, moves) =
      subst (λ es. AreInOrder (of_all es) ids) is
      (sorted, same, rises, IsPermutation-trans (of_all first) keys sorted (subst (IsPermutation (of_all first)) (ap (λ l. keys ++ of_all l) none ∙ append-nil keys) before) moves)

-- ---- what is given up of a group

abbrev pub ended_of : Retain → ℕ → List Made → List SnapKey
ended_of retain now made = keys_of (is_ended retain made now) made

abbrev pub released_of : Retain → ℕ → List Made → List SnapKey
released_of retain now made = keys_of (is_released retain made now) made
