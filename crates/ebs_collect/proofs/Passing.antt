-- The first block doesn't wait any more.
use Rattle.std.proofs.Common.{arith, ◌≡◌, ◌⊎◌, inl, inr, ℕ, ◌+◌, ◌<◌, ◌≤◌, ◌^◌, Some, None, IsSome, is_some, refl, sym, ap, subst, ◌∙◌}
use Rattle.std.specs.FinMap as map
use Rattle.ebs_lineage.specs.declared.place.Place.{Place}
use Rattle.ebs_lineage.specs.Owned.{IsLeastFrom}
use Rattle.ebs_lineage.specs.Lines.{Lines, AreSmall, own}
use Rattle.ebs_lineage.proofs.Changes.{same_or, insert-here, insert-other}
use Rattle.ebs_collect.specs.declared.backlog.Next.{Next}
use Rattle.ebs_collect.specs.Stack.{IsStack, waiting_in}
use Rattle.ebs_collect.specs.Backlogs.{Queue, from_index, IsPlace, IsLinked, IsWaiting, IsLoose}
use Rattle.ebs_collect.specs.Steps.{IsNext, IsPassed}
use Rattle.ebs_collect.proofs.Maps.{none_some, some_same, some_of, removed-here, removed-other}
use Rattle.ebs_collect.proofs.Chains.{popped-stack, moved-stack, nobody-waits, first-waits}
use Rattle.ebs_collect.proofs.Sums.{moved-waiting, without-waiting, nothing-waiting}
use Rattle.ebs_collect.proofs.Counts.{one-more, none-left, none-far, from-none}

-- nothing waits where there is no first node
pub none-waits : (q : Queue) (l : Lines) → IsLinked q l → q.first ≡ None → q.waiting ≡ 0
none-waits q l linked e = linked.count ∙ nothing-waiting l.places (nobody-waits l.places (subst (IsStack l.places) e linked.stack))

pub first-placed : (q : Queue) (l : Lines) → IsLinked q l → (n : ℕ) → q.first ≡ Some n → (p : Place) × (map.get l.places n ≡ Some p)
first-placed q l linked n e = first-waits l.places n (subst (IsStack l.places) e linked.stack)

-- a node that waits keeps a block that does
pub some-waits : (q : Queue) (l : Lines) → IsLinked q l → (n : ℕ) (p : Place) → map.get l.places n ≡ Some p → IsLeastFrom (map.get (own l.table.nodes n)) p.from None → ⊥
some-waits q l linked n p here none =
    let place = linked.each n p here in
    let left : p.left ≡ 0 = place.left ∙ from-none (own l.table.nodes n) p.from none in
    let some = place.some in
    omega arith

three : (a b : ℕ) → (a < b) ⊎ (a ≡ b) ⊎ (b < a)
three a b = grind arith

module _ (q : Queue) (l : Lines) (linked : IsLinked q l) (next : Next) (is : IsNext q l next) where
  place_is : IsPlace l.table.nodes next.number next.place
  place_is = linked.each next.number next.place is.here

  left_is : next.place.left ≡ map.len (from_index (own l.table.nodes next.number) (next.index + 1)) + 1
  left_is = place_is.left ∙ one-more (own l.table.nodes next.number) next.place.from next.index is.block is.least

  stack_is : IsStack l.places (Some next.number)
  stack_is = subst (IsStack l.places) is.first linked.stack

  loose_is : IsLoose l.table.nodes next.number next.index
  loose_is = record { free = place_is.free; kept = ap is_some is.least.1 }

  -- which of the node's blocks wait
  place_of : (index : ℕ) (w : IsWaiting l next.number index) → next.place.from ≤ index
  place_of index w = subst (λ (p : Place). p.from ≤ index) (some_same w.place next.place (sym w.here ∙ is.here)) w.reached

  not_before : (index : ℕ) → IsWaiting l next.number index → index < next.index → ⊥
  not_before index w low =
      let block = some_of (map.get (own l.table.nodes next.number) index) w.kept in
      none_some block.0 (sym (is.least.2 index (place_of index w) low) ∙ block.1)

  -- it was the last one
  module _ (last : next.place.left ≡ 1) where
    none_after : (index : ℕ) → IsWaiting l next.number index → next.index < index → ⊥
    none_after index w high =
        let left = left_is in
        let none : map.len (from_index (own l.table.nodes next.number) (next.index + 1)) ≡ 0 = omega arith in
        let block = some_of (map.get (own l.table.nodes next.number) index) w.kept in
        none_some block.0 (sym (none-left (own l.table.nodes next.number) (next.index + 1) none index (omega arith)) ∙ block.1)

    only : (index : ℕ) → IsWaiting l next.number index → (index < next.index) ⊎ (index ≡ next.index) ⊎ (next.index < index) → index ≡ next.index
    only index w (inl low) = absurd (not_before index w low)
    only index w (inr (inl e)) = e
    only index w (inr (inr high)) = absurd (none_after index w high)

    abbrev rest : Lines
    rest = record l { places = map.remove l.places next.number }

    still : (k index : ℕ) → IsWaiting l k index → IsWaiting rest k index ⊎ ((k ≡ next.number) × (index ≡ next.index))
    still k index w = elim (same_or k next.number) [
      | inl s ↦ inr (s, only index (subst (λ m. IsWaiting l m index) s w) (three index next.index))
      | inr off ↦ inl (record { place = w.place; here = removed-other l.places next.number k off ∙ w.here; reached = w.reached; kept = w.kept })
    ]

    each_rest : (k : ℕ) (p : Place) → map.get (map.remove l.places next.number) k ≡ Some p → IsPlace l.table.nodes k p
    each_rest k p e = elim (same_or k next.number) [
      | inl s ↦ none_some p (sym (removed-here l.places next.number) ∙ ap (map.get (map.remove l.places next.number)) (sym s) ∙ e)
      | inr off ↦ linked.each k p (sym (removed-other l.places next.number k off) ∙ e)
    ]

    pub last-passed : (w : ℕ) → q.waiting ≡ w + 1 → IsPassed q l next (record { first = next.place.next; waiting = w }) rest
    last-passed w e = record {
      linked = record {
        stack = popped-stack l.places next.number next.place is.here stack_is;
        each = each_rest;
        count =
            let sum : waiting_in l.places ≡ waiting_in (map.remove l.places next.number) + next.place.left = without-waiting l.places next.number next.place is.here in
            let count = linked.count in
            omega (arith, sum, count);
      };
      lines = refl;
      waits = still;
      past = λ p h. none_some p (sym (removed-here l.places next.number) ∙ h);
      free = loose_is;
      count = e;
    }

  -- more are left
  module _ (v : Place) (from : v.from ≡ next.index + 1) (left : next.place.left ≡ v.left + 1) (to : v.next ≡ next.place.next) (more : 1 ≤ v.left) where
    abbrev moved : Lines
    moved = record l { places = map.insert l.places next.number v }

    good : IsPlace l.table.nodes next.number v
    good = record {
      free = place_is.free;
      left =
          let now = left_is in
          let same : map.len (from_index (own l.table.nodes next.number) v.from) ≡ map.len (from_index (own l.table.nodes next.number) (next.index + 1)) = ap (λ (i : ℕ). map.len (from_index (own l.table.nodes next.number) i)) from in
          omega arith;
      some = more;
      few = let few = place_is.few in omega arith;
    }

    each_moved : (k : ℕ) (p : Place) → map.get (map.insert l.places next.number v) k ≡ Some p → IsPlace l.table.nodes k p
    each_moved k p e = elim (same_or k next.number) [
      | inl s ↦
          let same : v ≡ p = some_same v p (sym (insert-here l.places next.number v) ∙ ap (map.get (map.insert l.places next.number v)) (sym s) ∙ e) in
          subst (λ (x : ℕ × Place). IsPlace l.table.nodes x.0 x.1) (λ i. (sym s i, same i)) good
      | inr off ↦ linked.each k p (sym (insert-other l.places next.number v k off) ∙ e)
    ]

    later : (k index : ℕ) → k ≡ next.number → IsSome (map.get (own l.table.nodes k) index) → next.index < index → IsWaiting moved k index
    later k index s kept high = record {
      place = v;
      here = ap (map.get (map.insert l.places next.number v)) s ∙ insert-here l.places next.number v;
      reached = omega arith;
      kept = kept;
    }

    go : (k index : ℕ) → k ≡ next.number → IsWaiting l k index → (index < next.index) ⊎ (index ≡ next.index) ⊎ (next.index < index) → IsWaiting moved k index ⊎ ((k ≡ next.number) × (index ≡ next.index))
    go k index s w (inl low) = absurd (not_before index (subst (λ m. IsWaiting l m index) s w) low)
    go k index s w (inr (inl e)) = inr (s, e)
    go k index s w (inr (inr high)) = inl (later k index s w.kept high)

    on : (k index : ℕ) → IsWaiting l k index → IsWaiting moved k index ⊎ ((k ≡ next.number) × (index ≡ next.index))
    on k index w = elim (same_or k next.number) [
      | inl s ↦ go k index s w (three index next.index)
      | inr off ↦ inl (record { place = w.place; here = insert-other l.places next.number v k off ∙ w.here; reached = w.reached; kept = w.kept })
    ]

    pub one-passed : (w : ℕ) → q.waiting ≡ w + 1 → IsPassed q l next (record { first = q.first; waiting = w }) moved
    one-passed w e = record {
      linked = record {
        stack = moved-stack l.places q.first linked.stack next.number v next.place is.here to;
        each = each_moved;
        count =
            let sum : waiting_in (map.insert l.places next.number v) + next.place.left ≡ waiting_in l.places + v.left = moved-waiting l.places next.number next.place v is.here in
            let count = linked.count in
            omega (arith, sum, count, left);
      };
      lines = refl;
      waits = on;
      past = λ p h.
          let same : v ≡ p = some_same v p (sym (insert-here l.places next.number v) ∙ h) in
          let at : v.from ≡ p.from = ap (λ (x : Place). x.from) same in
          omega arith;
      free = loose_is;
      count = e;
    }

  -- an index above is one of 32 bits, where more are left
  pub near : AreSmall (own l.table.nodes next.number) → (next.place.left ≡ 1 → ⊥) → next.index + 1 < 2 ^ 32
  near small more = elim (far_or (next.index + 1) (2 ^ 32)) [
    | inl far ↦ absurd (more (left_is ∙ ap (λ (n : ℕ). n + 1) (none-far (own l.table.nodes next.number) (next.index + 1) small far)))
    | inr low ↦ low
  ]
    where
      far_or : (a b : ℕ) → (b ≤ a) ⊎ (a < b)
      far_or a b = grind arith
