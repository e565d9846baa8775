-- An object without floats keeps that with one more member, and an array with one more item.
use Rattle.std.proofs.Common.{◌≡◌, ℕ, List, [], ◌∷◌, ◌++◌, Bool, false, ◌||◌, map, refl, arith}
use Rattle.std.specs.declared.cmp.Ordering.TheVariants.{Less, Equal, Greater}
use Rattle.std.specs.Ordering.{nat_cmp, match_ordering}
use Rattle.std.specs.Cmp.Lexicographic.{slice_cmp}
use Rattle.serde_json.specs.Data.{Data, Members, no_members, member, put}
use Rattle.serde_json.specs.Written.{has_float, items_have_float, members_have_float}
use Rattle.serde_json.specs.View.{view, items_of}
use Rattle.serde_json.specs.declared.value.Value.{Value}
use Rattle.std.proofs.lemmas.List.{map-append}

neither : (a b : Bool) → a ≡ false → b ≡ false → (a || b) ≡ false
neither a b p q = grind arith

left : (a b : Bool) → (a || b) ≡ false → a ≡ false
left a b p = grind arith

right : (a b : Bool) → (a || b) ≡ false → b ≡ false
right a b p = grind arith

pub floatless_put : (key : List ℕ) (value : Data) (members : Members) → has_float value ≡ false → members_have_float members ≡ false → members_have_float (put key value members) ≡ false
floatless_put key value no_members p q = neither _ _ p refl
floatless_put key value (member own old members) p q =
    elim (slice_cmp nat_cmp key own) as (λ order. members_have_float (match_ordering order (member key value (member own old members)) (member own value members) (member own old (put key value members))) ≡ false) [
      | Less ↦ neither _ _ p q
      | Equal ↦ neither _ _ p (right (has_float old) (members_have_float members) q)
      | Greater ↦ neither _ _ (left (has_float old) (members_have_float members) q) (floatless_put key value members p (right (has_float old) (members_have_float members) q))
    ]

one_more : (items : List Data) (value : Data) → has_float value ≡ false → items_have_float (items_of items) ≡ false → items_have_float (items_of (items ++ value ∷ [])) ≡ false
one_more [] value p q = neither _ _ p refl
one_more (item ∷ items) value p q =
    neither _ _ (left (has_float item) (items_have_float (items_of items)) q) (one_more items value p (right (has_float item) (items_have_float (items_of items)) q))

pub floatless_push : (items : List Value) (value : Value) → has_float (view value) ≡ false → items_have_float (items_of (map view items)) ≡ false → items_have_float (items_of (map view (items ++ value ∷ []))) ≡ false
floatless_push items value p q = simp map-append (one_more (map view items) (view value) p q)
