-- A slot more of a list of them, and what holds of all.
use Rattle.std.proofs.Common.{◌≡◌, ℕ, ◌+◌, ◌*◌, ◌<◌, ◌≤◌, ◌^◌, Bool, true, false, not, ◌&&◌, ◌||◌, eqb, nat_le, List, [], ◌∷◌, ◌++◌, Some, IsSome, Less, is_some, refl, sym, ap, subst, ◌∙◌, arith}
use Rattle.std.proofs.lemmas.Bool.Decides.{nat_tests}
use Rattle.std.proofs.lemmas.Cmp.{tied_itself}
use Rattle.std.specs.List.{AllByRecursion, list_all, list_any}
use Rattle.std.specs.List.Sorted.{IsStrictlySortedBy}
use Rattle.std.specs.Map.{keys_of}
use Rattle.std.specs.Cmp.{nat_cmp_total}
use Rattle.std.specs.Ordering.{nat_cmp, eq_by_cmp, is_lt}
use Rattle.std.specs.FinMap as fin
use Rattle.std.specs.FinMap.{FinMap, get, contains_key, entries, get-entries}
use Rattle.std.specs.FinMap.Entries.{is_some-find}
use Rattle.ebs_tables.proofs.TreeMaps.{entries-sorted}
use Rattle.ebs_lawful.proofs.Maps.{each-entry}
use Rattle.ebs_world.specs.declared.area.Area.{Area}
use Rattle.ebs_world.specs.declared.area.Area.TheVariants.{Blocks}
use Rattle.ebs_slots.specs.Slots.{start_of}
use Rattle.ebs_slots.specs.inner.Slots.{IsApart, SlotTable}
use Rattle.ebs_checkpoints.specs.declared.nodes.SlotRow.{SlotRow}
use Rattle.ebs_row_rules.specs.Numbers.{are_distinct, are_same, has}
use Rattle.ebs_row_rules.specs.Order.{ascends}
use Rattle.ebs_row_rules.specs.Slots.{is_block_slot, keys, slots}
use Rattle.ebs_node_rules.proofs.Marks.{alike}
use Rattle.ebs_pointed.specs.Stored.{IsSlotOf}
use Rattle.ebs_pointed.proofs.Keys.{itself, same_number, sorted-rows}
use Rattle.ebs_pointed.proofs.Listing.{all_listed, all_more, none_listed, one_listed}

-- ---- one slot more

-- the rows of slots, and the keys that are left
pub record IsSlotting (kept : FinMap nat_cmp ℕ) (rows : List SlotRow) (left all : List ℕ) : Type 0 where
  pub listed : keys rows ++ left ≡ all
  pub there : AllByRecursion (λ n. IsSome (get kept n)) left
  pub slotted : AllByRecursion (IsSlotOf kept) rows

on_keys : {X : Type 0} (P : ℕ → Type 0) (es : List (ℕ × X)) → AllByRecursion (λ e. P e.0) es → AllByRecursion P (keys_of es)
on_keys P [] h = tt
on_keys P (e ∷ es) h = (h.0, on_keys P es h.1)

pub none_slotted : (kept : FinMap nat_cmp ℕ) (found : FinMap nat_cmp (Unit {0})) (rows : List SlotRow) (left : List (ℕ × Unit {0})) → rows ≡ [] → left ≡ entries found
    → ((n : ℕ) → contains_key found n ≡ true → IsSome (get kept n)) → IsSlotting kept rows (keys_of left) (fin.keys found)
none_slotted kept found rows left none is there = record {
  listed = none_listed (λ (row : SlotRow). row.key) rows (keys_of left) (fin.keys found) none (ap keys_of is);
  there = subst (λ es. AllByRecursion (λ n. IsSome (get kept n)) (keys_of es)) (sym is) (on_keys (λ n. IsSome (get kept n)) (entries found) (each-entry nat_cmp_total found (λ e. IsSome (get kept e.0)) (λ e here. there e.0 (ap is_some here))));
  slotted = subst (AllByRecursion (IsSlotOf kept)) (sym none) tt;
}

pub next_there : (kept : FinMap nat_cmp ℕ) (rows : List SlotRow) {k : ℕ} (left rest all : List ℕ) → left ≡ k ∷ rest → IsSlotting kept rows left all → IsSome (get kept k)
next_there kept rows left rest all steps before = (subst (AllByRecursion (λ n. IsSome (get kept n))) steps before.there).0

pub one_slotted : (kept : FinMap nat_cmp ℕ) (old new : List SlotRow) (row : SlotRow) (left rest all : List ℕ) → new ≡ old ++ row ∷ [] → left ≡ row.key ∷ rest → IsSlotOf kept row → IsSlotting kept old left all → IsSlotting kept new rest all
one_slotted kept old new row left rest all more steps is before = record {
  listed = one_listed (λ (row : SlotRow). row.key) old new row {e = row.key} left rest all more steps refl before.listed;
  there = (subst (AllByRecursion (λ n. IsSome (get kept n))) steps before.there).1;
  slotted = all_more (IsSlotOf kept) old new row more before.slotted is;
}

pub all_slotted : (kept : FinMap nat_cmp ℕ) (rows : List SlotRow) (left all : List ℕ) → left ≡ [] → IsSlotting kept rows left all → keys rows ≡ all
all_slotted kept rows left all none h = sym (all_listed (λ (row : SlotRow). row.key) rows left all none h.listed)

-- ---- the keys of a set, and the numbers that it is of

any_alike : (q : ℕ) (ns : List ℕ) → list_any (eq_by_cmp nat_cmp q) ns ≡ has ns q
any_alike q [] = refl
any_alike q (n ∷ ns) = λ i. alike q n i || any_alike q ns i

pub keys-have : {X : Type 0} (m : FinMap nat_cmp X) (q : ℕ) → contains_key m q ≡ has (fin.keys m) q
keys-have m q = ap is_some (get-entries m q) ∙ is_some-find nat_cmp q (entries m) ∙ any_alike q (fin.keys m)

or_true : (a b : Bool) → b ≡ true → (a || b) ≡ true
or_true true b e = refl
or_true false b e = e

all_have : (p : ℕ → Bool) (ns : List ℕ) → ((n : ℕ) → has ns n ≡ true → p n ≡ true) → list_all p ns ≡ true
all_have p [] h = refl
all_have p (n ∷ ns) h = λ i. h n (ap (λ b. b || has ns n) (itself n)) i && all_have p ns (λ m there. h m (or_true (eqb n m) (has ns m) there)) i

pub same_keys : (numbers rows : List ℕ) (found : FinMap nat_cmp (Unit {0})) → ((n : ℕ) → contains_key found n ≡ has numbers n) → rows ≡ fin.keys found → are_same numbers rows ≡ true
same_keys numbers rows found are is = ap (are_same numbers) is ∙ (λ i.
    all_have (has (fin.keys found)) numbers (λ n there. sym (keys-have found n) ∙ are n ∙ there) i
    && all_have (has numbers) (fin.keys found) (λ n there. sym (are n) ∙ keys-have found n ∙ there) i)

-- ---- what holds of all

pub keys_rise : (rows : List SlotRow) (found : FinMap nat_cmp (Unit {0})) → keys rows ≡ fin.keys found → IsStrictlySortedBy nat_cmp (keys rows)
keys_rise rows found is = subst (IsStrictlySortedBy nat_cmp) (sym is) (entries-sorted nat_cmp found)

pub rows_ascend : (rows : List SlotRow) (found : FinMap nat_cmp (Unit {0})) → keys rows ≡ fin.keys found → ascends nat_cmp (λ (row : SlotRow). row.key) rows ≡ true
rows_ascend rows found is = sorted-rows nat_cmp (λ (row : SlotRow). row.key) rows (keys_rise rows found is)

fits : (slot top : ℕ) → slot < top → 524288 * top ≤ 2 ^ 62 → nat_le (524288 * (slot + 1)) (2 ^ 62) ≡ true
fits slot top low within = grind (arith, nat_tests)

module _ (s : SlotTable) (apart : IsApart s) where
  pub all_fit : s.area ≡ Blocks → start_of s.area s.top ≤ 2 ^ 62 → (rows : List SlotRow) → AllByRecursion (IsSlotOf s.keys) rows → list_all is_block_slot (slots rows) ≡ true
  all_fit area within [] h = refl
  all_fit area within (row ∷ rows) h =
      let near : 524288 * s.top ≤ 2 ^ 62 = subst (λ (a : Area). start_of a s.top ≤ 2 ^ 62) area within in
      λ i. fits row.slot s.top (apart.keyed row.key row.slot h.0) near i && all_fit area within rows h.1 i

  -- no later row has this slot
  alone : (key slot : ℕ) → get s.keys key ≡ Some slot → (rows : List SlotRow) → AllByRecursion (IsSlotOf s.keys) rows → AllByRecursion (λ k. nat_cmp key k ≡ Less) (keys rows) → has (slots rows) slot ≡ false
  alone key slot is [] h low = refl
  alone key slot is (row ∷ rows) h low = by (eqb row.slot slot) refl (alone key slot is rows h.1 low.1)
    where
      by : (b : Bool) → eqb row.slot slot ≡ b → has (slots rows) slot ≡ false → (b || has (slots rows) slot) ≡ false
      by false e later = later
      by true e later =
          let same : key ≡ row.key = apart.one_key key row.key slot is (h.0 ∙ ap (λ n. Some n) (same_number row.slot slot e)) in
          let no : true ≡ false = sym (ap is_lt low.0) ∙ ap (λ k. is_lt (nat_cmp key k)) (sym same) ∙ ap is_lt (tied_itself nat_cmp_total key) in
          absurd (cc)

  pub all_apart : (rows : List SlotRow) → AllByRecursion (IsSlotOf s.keys) rows → IsStrictlySortedBy nat_cmp (keys rows) → are_distinct (slots rows) ≡ true
  unfolding IsStrictlySortedBy
  all_apart [] h up = refl
  all_apart (row ∷ rows) h up = λ i. not (alone row.key row.slot h.0 rows h.1 up.0 i) && all_apart rows h.1 up.1 i
