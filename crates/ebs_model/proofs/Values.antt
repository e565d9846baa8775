-- The laws of a finite map with each value replaced.
use Rattle.std.proofs.Common.{◌≡◌, Bool, true, false, cond, List, [], ◌∷◌, map, Option, Some, None, Ordering, refl, sym, ap, subst, ◌∙◌}
use Rattle.std.specs.Option.{option_map}
use Rattle.std.specs.Map.{keys_of}
use Rattle.std.specs.BTreeMap.{is_at}
use Rattle.std.specs.Ordering.{eq_by_cmp}
use Rattle.std.specs.List.Sorted.{IsStrictlySortedBy}
use Rattle.std.specs.Cmp.{IsTotalOrder}
use Rattle.std.proofs.lemmas.Map.Made.{lookup-map_values}
use Rattle.std.specs.FinMap.{FinMap, get, insert, remove, empty, entries, IsAntisymmetric, same_map, get-insert, get-remove, get-empty}
use Rattle.ebs_tables.proofs.TreeMaps.{get-seen, get-lookup, entries-seen, entries-sorted}
use Rattle.ebs_model.specs.inner.MapValues.{map_values}

module _ {K X Y : Type 0} {R : K → K → Ordering} (o : IsTotalOrder R) (f : X → Y) where
  keys-mapped : (es : List (K × X)) → keys_of (map {B = K × Y} (λ e. (e.0, f e.1)) es) ≡ keys_of es
  keys-mapped [] = refl
  keys-mapped (e ∷ es) = ap (λ ks. e.0 ∷ ks) (keys-mapped es)

  map_cond : (b : Bool) (x y : Option X) → option_map f (cond b x y) ≡ cond b (option_map f x) (option_map f y)
  map_cond true x y = refl
  map_cond false x y = refl

  pub get-map_values : (m : FinMap R X) (q : K) → get (map_values f m) q ≡ option_map f (get m q)
  unfolding map_values
  get-map_values m q =
      get-seen o (map {B = K × Y} (λ e. (e.0, f e.1)) (entries m)) q
      ∙ lookup-map_values f (is_at (R q)) (entries m)
      ∙ ap (option_map f) (sym (get-lookup R m q))

  pub entries-map_values : (m : FinMap R X) → entries (map_values f m) ≡ map (λ e. (e.0, f e.1)) (entries m)
  unfolding map_values
  entries-map_values m =
      entries-seen o (map {B = K × Y} (λ e. (e.0, f e.1)) (entries m)) (subst (IsStrictlySortedBy R) (sym (keys-mapped (entries m))) (entries-sorted R m))

  module _ (same : IsAntisymmetric R) where
    pub map_values-insert : (m : FinMap R X) (k : K) (v : X) → map_values f (insert m k v) ≡ insert (map_values f m) k (f v)
    map_values-insert m k v = same_map o same _ _ (λ q.
        get-map_values (insert m k v) q
        ∙ ap (option_map f) (get-insert o m k v q)
        ∙ map_cond (eq_by_cmp R q k) (Some v) (get m q)
        ∙ ap (cond (eq_by_cmp R q k) (Some (f v))) (sym (get-map_values m q))
        ∙ sym (get-insert o (map_values f m) k (f v) q))

    pub map_values-remove : (m : FinMap R X) (k : K) → map_values f (remove m k) ≡ remove (map_values f m) k
    map_values-remove m k = same_map o same _ _ (λ q.
        get-map_values (remove m k) q
        ∙ ap (option_map f) (get-remove o m k q)
        ∙ map_cond (eq_by_cmp R q k) None (get m q)
        ∙ ap (cond (eq_by_cmp R q k) None) (sym (get-map_values m q))
        ∙ sym (get-remove o (map_values f m) k q))

    pub map_values-empty : map_values {R = R} f empty ≡ empty
    map_values-empty = same_map o same _ _ (λ q. get-map_values empty q ∙ ap (option_map f) (get-empty R q) ∙ sym (get-empty R q))

-- two ways to replace the values that agree on those of the map
pub map_values-same : {K X Y : Type 0} {R : K → K → Ordering} (o : IsTotalOrder R) → IsAntisymmetric R → (f g : X → Y) (m : FinMap R X) → ((q : K) → option_map f (get m q) ≡ option_map g (get m q)) → map_values f m ≡ map_values g m
map_values-same o same f g m h = same_map o same _ _ (λ q. get-map_values o f m q ∙ h q ∙ sym (get-map_values o g m q))
