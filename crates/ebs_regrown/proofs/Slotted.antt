-- One entry more is counted.
use Rattle.std.proofs.Common.{◌≡◌, ℕ, ◌+◌, ◌⊎◌, inl, inr, Bool, true, false, ◌||◌, cond, eqb, List, [], ◌∷◌, if◌then◌else◌, Option, Some, None, IsSome, is_some, refl, sym, ap, subst, ◌∙◌, arith}
use Rattle.std.proofs.lemmas.Bool.{and_parts, not-true, false≢true, leb-true}
use Rattle.std.proofs.lemmas.Bool.Decides.{nat_tests}
use Rattle.std.specs.Prelude.{max, nat_le}
use Rattle.std.specs.List.{find, list_all}
use Rattle.std.specs.Option.{option_map, unwrap_or}
use Rattle.std.specs.Ordering.{nat_cmp}
use Rattle.std.specs.FinMap as map
use Rattle.std.specs.FinMap.{get-empty}
use Rattle.ebs_world.specs.declared.area.Area.TheVariants.{Blocks}
use Rattle.ebs_checkpoints.specs.declared.nodes.SlotRow.{SlotRow}
use Rattle.ebs_lineage.proofs.Changes.{same_or, insert-here, insert-other}
use Rattle.ebs_row_rules.specs.Numbers.{are_distinct, has}
use Rattle.ebs_row_rules.specs.Slots.{is_block_slot, keys, slots}
use Rattle.ebs_slots.specs.inner.Slots.{SlotTable, IsFree, IsSlot, count_of, placed, retained}
use Rattle.ebs_regrown.specs.Counted.{HaveSlots, IsBehind, IsSlotted, slot_in}

same_number : (m n : ℕ) → eqb m n ≡ true → m ≡ n
same_number m n t = grind (arith, nat_tests)

itself : (n : ℕ) → eqb n n ≡ true
itself n = grind (arith, nat_tests)

pub differ : (m n : ℕ) → (m ≡ n → ⊥) → eqb m n ≡ false
differ m n h = by (eqb m n) refl
  where
    by : (b : Bool) → eqb m n ≡ b → eqb m n ≡ false
    by true e = absurd (h (same_number m n e))
    by false e = e

pub none_in : {X : Type 0} (o : Option X) (x : X) → o ≡ None → o ≡ Some x → ⊥
none_in o x a b = let no : None ≡ Some x = sym a ∙ b in cc

-- what the rows give stands among their slots
slot_listed : (rows : List SlotRow) (a slot : ℕ) → slot_in rows a ≡ Some slot → has (slots rows) slot ≡ true
slot_listed [] a slot e = cc
slot_listed (x ∷ rows) a slot e = by (eqb x.key a) e (slot_listed rows a slot)
  where
    more : (b : Bool) → (b || true) ≡ true
    more true = refl
    more false = refl

    by : (b : Bool) → option_map (λ (row : SlotRow). row.slot) (cond b (Some x) (find (λ (row : SlotRow). eqb row.key a) rows)) ≡ Some slot → (slot_in rows a ≡ Some slot → has (slots rows) slot ≡ true) → (eqb x.slot slot || has (slots rows) slot) ≡ true
    by true e later = let same : x.slot ≡ slot = cc in ap (λ b. b || has (slots rows) slot) (ap (eqb x.slot) (sym same) ∙ itself x.slot)
    by false e later = ap (λ b. eqb x.slot slot || b) (later e) ∙ more (eqb x.slot slot)

-- no two stamps are given one slot
one_slot : (rows : List SlotRow) → are_distinct (slots rows) ≡ true → (a b slot : ℕ) → slot_in rows a ≡ Some slot → slot_in rows b ≡ Some slot → a ≡ b
one_slot [] d a b slot e f = cc
one_slot (x ∷ rows) d a b slot e f = by (eqb x.key a) (eqb x.key b) refl refl e f (one_slot rows (and_parts _ _ d).1 a b slot)
  where
    apart : has (slots rows) x.slot ≡ false
    apart = not-true _ (and_parts _ _ d).0

    never : (c : ℕ) → x.slot ≡ slot → slot_in rows c ≡ Some slot → ⊥
    never c same e = false≢true (sym apart ∙ ap (has (slots rows)) same ∙ slot_listed rows c slot e)

    by : (s t : Bool) → eqb x.key a ≡ s → eqb x.key b ≡ t → option_map (λ (row : SlotRow). row.slot) (cond s (Some x) (find (λ (row : SlotRow). eqb row.key a) rows)) ≡ Some slot
        → option_map (λ (row : SlotRow). row.slot) (cond t (Some x) (find (λ (row : SlotRow). eqb row.key b) rows)) ≡ Some slot
        → (slot_in rows a ≡ Some slot → slot_in rows b ≡ Some slot → a ≡ b) → a ≡ b
    by true true s t e f later = sym (same_number x.key a s) ∙ same_number x.key b t
    by true false s t e f later = absurd (never b (let same : x.slot ≡ slot = cc in same) f)
    by false true s t e f later = absurd (never a (let same : x.slot ≡ slot = cc in same) e)
    by false false s t e f later = later e f

-- a stamp among the keys is given a slot
pub has_slot : (rows : List SlotRow) (a : ℕ) → has (keys rows) a ≡ true → slot_in rows a ≡ None → ⊥
has_slot [] a h e = cc
has_slot (x ∷ rows) a h e = by (eqb x.key a) h e (has_slot rows a)
  where
    by : (b : Bool) → (b || has (keys rows) a) ≡ true → option_map (λ (row : SlotRow). row.slot) (cond b (Some x) (find (λ (row : SlotRow). eqb row.key a) rows)) ≡ None → (has (keys rows) a ≡ true → slot_in rows a ≡ None → ⊥) → ⊥
    by true h e later = none_in None x.slot refl (sym e)
    by false h e later = later h e

-- and what is given one is among them
pub is_key : (rows : List SlotRow) (a slot : ℕ) → slot_in rows a ≡ Some slot → has (keys rows) a ≡ true
is_key [] a slot e = cc
is_key (x ∷ rows) a slot e = by (eqb x.key a) e (is_key rows a slot)
  where
    by : (b : Bool) → option_map (λ (row : SlotRow). row.slot) (cond b (Some x) (find (λ (row : SlotRow). eqb row.key a) rows)) ≡ Some slot → (slot_in rows a ≡ Some slot → has (keys rows) a ≡ true) → (b || has (keys rows) a) ≡ true
    by true e later = refl
    by false e later = later e

small_slot : (rows : List SlotRow) (a slot : ℕ) → list_all is_block_slot (slots rows) ≡ true → slot_in rows a ≡ Some slot → is_block_slot slot ≡ true
small_slot [] a slot all e = cc
small_slot (x ∷ rows) a slot all e = by (eqb x.key a) e (small_slot rows a slot (and_parts _ _ all).1)
  where
    by : (b : Bool) → option_map (λ (row : SlotRow). row.slot) (cond b (Some x) (find (λ (row : SlotRow). eqb row.key a) rows)) ≡ Some slot → (slot_in rows a ≡ Some slot → is_block_slot slot ≡ true) → is_block_slot slot ≡ true
    by true e later = let same : x.slot ≡ slot = cc in ap is_block_slot (sym same) ∙ (and_parts _ _ all).0
    by false e later = later e

within : (slot : ℕ) → is_block_slot slot ≡ true → IsSlot Blocks slot
within slot h = let l = leb-true _ _ h in omega (arith, l)

at_top : (top slot : ℕ) {new : ℕ} → nat_le top slot ≡ true → new ≡ max top (slot + 1) → new ≡ slot + 1
at_top top slot e is = grind (arith, nat_tests, e, is)

below_top : (top slot : ℕ) {new : ℕ} → nat_le top slot ≡ false → new ≡ max top (slot + 1) → new ≡ top
below_top top slot e is = grind (arith, nat_tests, e, is)

above_zero : (top slot : ℕ) → nat_le top slot ≡ false → top ≡ 0 → ⊥
above_zero top slot e zero = grind (arith, nat_tests, e, zero)

module _ (standard : List SlotRow) (have : HaveSlots standard) (s : SlotTable) (slotted : IsSlotted standard s) (stamp : ℕ) where
  module _ (slot : ℕ) (new : map.get s.keys stamp ≡ None) (given : slot_in standard stamp ≡ Some slot) where
    pub is_free : IsFree s slot
    is_free = record {
      no_key = λ key e.
          let same = one_slot standard have.apart key stamp slot (slotted.keyed key slot e) given in
          none_in (map.get s.keys stamp) slot new (ap (map.get s.keys) (sym same) ∙ e);
      no_lease = ap (λ m. map.get m slot) slotted.leases ∙ get-empty nat_cmp slot;
    }

    pub fits : IsSlot s.area slot
    fits = subst (λ area. IsSlot area slot) (sym slotted.area) (within slot (small_slot standard stamp slot have.small given))

    module _ (t : SlotTable) (is : t ≡ placed s stamp slot) where
      placed_key : (key : ℕ) → map.get t.keys key ≡ map.get (map.insert s.keys stamp slot) key
      placed_key key = ap (λ (x : SlotTable). map.get x.keys key) is

      placed_count : (key : ℕ) → count_of t key ≡ unwrap_or (map.get (map.insert s.counts stamp 1) key) 0
      placed_count key = ap (λ (x : SlotTable). count_of x key) is

      pub placed_slotted : IsSlotted standard t
      placed_slotted = record {
        keyed = λ key k e. keyed key k e (same_or key stamp);
        uncounted = λ key e. uncounted key e (same_or key stamp);
        leases = ap (λ (x : SlotTable). x.leases) is ∙ slotted.leases;
        area = ap (λ (x : SlotTable). x.area) is ∙ slotted.area;
        behind = behind (nat_le s.top slot) refl slotted.behind;
      }
        where
          here : map.get t.keys stamp ≡ Some slot
          here = placed_key stamp ∙ insert-here s.keys stamp slot

          top : t.top ≡ max s.top (slot + 1)
          top = ap (λ (x : SlotTable). x.top) is

          kept : (key k : ℕ) → map.get s.keys key ≡ Some k → (key ≡ stamp) ⊎ (key ≡ stamp → ⊥) → map.get t.keys key ≡ Some k
          kept key k there (inl same) = absurd (none_in (map.get s.keys key) k (ap (map.get s.keys) same ∙ new) there)
          kept key k there (inr other) = placed_key key ∙ insert-other s.keys stamp slot key other ∙ there

          behind : (b : Bool) → nat_le s.top slot ≡ b → IsBehind s → IsBehind t
          behind true e was = inr (stamp, slot, here, at_top s.top slot e top)
          behind false e (inl zero) = absurd (above_zero s.top slot e zero)
          behind false e (inr (key, k, there, at)) = inr (key, k, kept key k there (same_or key stamp), below_top s.top slot e top ∙ at)

          keyed : (key k : ℕ) → map.get t.keys key ≡ Some k → (key ≡ stamp) ⊎ (key ≡ stamp → ⊥) → slot_in standard key ≡ Some k
          keyed key k e (inl same) =
              let one : Some slot ≡ Some k = sym (placed_key key ∙ ap (map.get (map.insert s.keys stamp slot)) same ∙ insert-here s.keys stamp slot) ∙ e in
              ap (slot_in standard) same ∙ given ∙ one
          keyed key k e (inr other) = slotted.keyed key k (sym (placed_key key ∙ insert-other s.keys stamp slot key other) ∙ e)

          uncounted : (key : ℕ) → map.get t.keys key ≡ None → (key ≡ stamp) ⊎ (key ≡ stamp → ⊥) → count_of t key ≡ 0
          uncounted key e (inl same) = absurd (none_in (map.get t.keys key) slot e (placed_key key ∙ ap (map.get (map.insert s.keys stamp slot)) same ∙ insert-here s.keys stamp slot))
          uncounted key e (inr other) =
              placed_count key ∙ ap (λ o. unwrap_or o 0) (insert-other s.counts stamp 1 key other)
              ∙ slotted.uncounted key (sym (placed_key key ∙ insert-other s.keys stamp slot key other) ∙ e)

      pub placed_counts : (key : ℕ) → count_of t key ≡ (if eqb key stamp then count_of s key + 1 else count_of s key)
      placed_counts key = by (same_or key stamp)
        where
          by : (key ≡ stamp) ⊎ (key ≡ stamp → ⊥) → count_of t key ≡ (if eqb key stamp then count_of s key + 1 else count_of s key)
          by (inl same) =
              placed_count key ∙ ap (λ n. unwrap_or (map.get (map.insert s.counts stamp 1) n) 0) same ∙ ap (λ o. unwrap_or o 0) (insert-here s.counts stamp 1)
              ∙ sym (ap (λ b. cond b (count_of s key + 1) (count_of s key)) (ap (eqb key) (sym same) ∙ itself key) ∙ ap (λ n. n + 1) (ap (count_of s) same ∙ slotted.uncounted stamp new))
          by (inr other) =
              placed_count key ∙ ap (λ o. unwrap_or o 0) (insert-other s.counts stamp 1 key other)
              ∙ sym (ap (λ b. cond b (count_of s key + 1) (count_of s key)) (differ key stamp other))

  module _ (t : SlotTable) (there : IsSome (map.get s.keys stamp)) (is : t ≡ retained s stamp) where
    same_keys : (key : ℕ) → map.get t.keys key ≡ map.get s.keys key
    same_keys key = ap (λ (x : SlotTable). map.get x.keys key) is

    more_counts : (key : ℕ) → count_of t key ≡ unwrap_or (map.get (map.insert s.counts stamp (count_of s stamp + 1)) key) 0
    more_counts key = ap (λ (x : SlotTable). count_of x key) is

    pub retained_counts : (key : ℕ) → count_of t key ≡ (if eqb key stamp then count_of s key + 1 else count_of s key)
    retained_counts key = by (same_or key stamp)
      where
        by : (key ≡ stamp) ⊎ (key ≡ stamp → ⊥) → count_of t key ≡ (if eqb key stamp then count_of s key + 1 else count_of s key)
        by (inl same) =
            more_counts key ∙ ap (λ n. unwrap_or (map.get (map.insert s.counts stamp (count_of s stamp + 1)) n) 0) same ∙ ap (λ o. unwrap_or o 0) (insert-here s.counts stamp (count_of s stamp + 1))
            ∙ sym (ap (λ b. cond b (count_of s key + 1) (count_of s key)) (ap (eqb key) (sym same) ∙ itself key) ∙ ap (λ n. count_of s n + 1) same)
        by (inr other) =
            more_counts key ∙ ap (λ o. unwrap_or o 0) (insert-other s.counts stamp (count_of s stamp + 1) key other)
            ∙ sym (ap (λ b. cond b (count_of s key + 1) (count_of s key)) (differ key stamp other))

    pub retained_slotted : IsSlotted standard t
    retained_slotted = record {
      keyed = λ key k e. slotted.keyed key k (sym (same_keys key) ∙ e);
      uncounted = λ key e. uncounted key e (same_or key stamp);
      leases = ap (λ (x : SlotTable). x.leases) is ∙ slotted.leases;
      area = ap (λ (x : SlotTable). x.area) is ∙ slotted.area;
      behind = behind slotted.behind;
    }
      where
        behind : IsBehind s → IsBehind t
        behind (inl zero) = inl (ap (λ (x : SlotTable). x.top) is ∙ zero)
        behind (inr (key, k, found, at)) = inr (key, k, same_keys key ∙ found, ap (λ (x : SlotTable). x.top) is ∙ at)

        none_some : IsSome {T = ℕ} None → ⊥
        none_some h = cc

        uncounted : (key : ℕ) → map.get t.keys key ≡ None → (key ≡ stamp) ⊎ (key ≡ stamp → ⊥) → count_of t key ≡ 0
        uncounted key e (inl same) = absurd (none_some (subst IsSome (ap (map.get s.keys) (sym same) ∙ sym (same_keys key) ∙ e) there))
        uncounted key e (inr other) = retained_counts key ∙ ap (λ b. cond b (count_of s key + 1) (count_of s key)) (differ key stamp other) ∙ slotted.uncounted key (sym (same_keys key) ∙ e)

pub is_none : (o p : Option ℕ) → false ≡ is_some o → o ≡ p → p ≡ None
is_none None p h e = sym e
is_none (Some n) p h e = cc
