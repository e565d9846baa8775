-- All entries are counted.
use Rattle.std.proofs.Common.{◌≡◌, inl, ℕ, ◌+◌, ◌≤◌, ◌<◌, Bool, true, false, ◌&&◌, ◌||◌, cond, eqb, List, [], ◌∷◌, ◌++◌, map, length, get_or, drop, if◌then◌else◌, suc, zero, Option, Some, None, refl, sym, ap, subst, ◌∙◌, arith}
use Rattle.std.proofs.lemmas.Bool.{and_parts}
use Rattle.std.proofs.lemmas.Bool.Decides.{nat_tests}
use Rattle.std.proofs.lemmas.List.Sums.{AllPass-from_list_all, sum_by-cons}
use Rattle.std.specs.List.{list_all, list_any}
use Rattle.std.specs.Option.{unwrap_or}
use Rattle.std.specs.Ordering.{nat_cmp}
use Rattle.std.specs.FinMap as fin
use Rattle.std.specs.FinMap.{get-empty}
use Rattle.ebs_model.specs.declared.array.Block.{Block}
use Rattle.ebs_world.specs.declared.area.Area.TheVariants.{Blocks}
use Rattle.ebs_checkpoints.specs.declared.nodes.EntryRow.{EntryRow}
use Rattle.ebs_checkpoints.specs.declared.nodes.NodeRow.{NodeRow}
use Rattle.ebs_checkpoints.specs.declared.nodes.SlotRow.{SlotRow}
use Rattle.ebs_node_rules.proofs.Marks.{turn}
use Rattle.ebs_row_rules.specs.Numbers.{are_same, has}
use Rattle.ebs_row_rules.specs.Slots.{entry_block, entry_blocks, keys, stamps}
use Rattle.ebs_slots.specs.inner.Slots.{SlotTable, count_of, no_slots}
use Rattle.ebs_regrown.specs.Counted.{IsCountedBy, IsSlotted, entries_in, entries_of, slot_in}
use Rattle.ebs_regrown.proofs.Slotted.{is_key, none_in}

pub one_entry : (stamp : ℕ) (e : EntryRow) (es : List EntryRow) → entries_of (e ∷ es) stamp ≡ cond (eqb e.block.stamp stamp) 1 0 + entries_of es stamp
one_entry stamp e es = sum_by-cons (λ (x : EntryRow). cond (eqb x.block.stamp stamp) 1 0) e es

pub one_node : (stamp : ℕ) (x : NodeRow) (nodes : List NodeRow) → entries_in (x ∷ nodes) stamp ≡ entries_of x.entries stamp + entries_in nodes stamp
one_node stamp x nodes = sum_by-cons (λ (y : NodeRow). entries_of y.entries stamp) x nodes

-- what is counted, with what is still to come, is all
pub record IsCounting (standard : List SlotRow) (all rest : ℕ → ℕ) (s : SlotTable) : Type 0 where
  pub slotted : IsSlotted standard s
  pub counts : (stamp : ℕ) → count_of s stamp + rest stamp ≡ all stamp

pub none_counted : (standard : List SlotRow) (s : SlotTable) → s ≡ no_slots Blocks → IsSlotted standard s
none_counted standard s is = subst (IsSlotted standard) (sym is) (record {
  keyed = λ stamp slot e. absurd (none_in (fin.get (fin.empty {R = nat_cmp}) stamp) slot (get-empty nat_cmp stamp) e);
  uncounted = λ stamp e. ap (λ o. unwrap_or o 0) (get-empty nat_cmp stamp);
  leases = refl;
  area = refl;
  behind = inl refl;
})

no_count : (s : SlotTable) (stamp : ℕ) → s ≡ no_slots Blocks → count_of s stamp ≡ 0
no_count s stamp is = ap (λ (t : SlotTable). count_of t stamp) is ∙ ap (λ o. unwrap_or o 0) (get-empty nat_cmp stamp)

pub all_to_come : (standard : List SlotRow) (nodes : List NodeRow) (s : SlotTable) → s ≡ no_slots Blocks → IsCounting standard (entries_in nodes) (entries_in nodes) s
all_to_come standard nodes s is = record {
  slotted = none_counted standard s is;
  counts = λ stamp. let none = no_count s stamp is in omega (arith, none);
}

counted_one : (old new more rest all : ℕ) (b c : Bool) → b ≡ c → new ≡ cond b (old + 1) old → old + (cond c 1 0 + rest) ≡ all → new + rest ≡ all
counted_one old new more rest all true true e is h = omega (arith, is, h)
counted_one old new more rest all true false e is h = cc
counted_one old new more rest all false true e is h = cc
counted_one old new more rest all false false e is h = omega (arith, is, h)

turned : (m n : ℕ) → eqb m n ≡ eqb n m
turned m n = grind (arith, nat_tests)

-- one entry more
pub entry_counted : (standard : List SlotRow) (all : ℕ → ℕ) (entries : List EntryRow) (i : ℕ) (d : EntryRow) (old new : SlotTable) (stamp : ℕ) → i < length entries → stamp ≡ (get_or entries i d).block.stamp
    → IsSlotted standard new → ((key : ℕ) → count_of new key ≡ (if eqb key stamp then count_of old key + 1 else count_of old key))
    → IsCounting standard all (entries_of (drop i entries)) old → IsCounting standard all (entries_of (drop (i + 1) entries)) new
entry_counted standard all entries i d old new stamp l e slotted more c = record {
  slotted = slotted;
  counts = λ key.
      let x = get_or entries i d in
      let rest = drop (i + 1) entries in
      counted_one (count_of old key) (count_of new key) 0 (entries_of rest key) (all key) (eqb key stamp) (eqb x.block.stamp key)
      (ap (eqb key) e ∙ turned key x.block.stamp) (more key)
      (ap (λ n. count_of old key + n) (sym (one_entry key x rest) ∙ turn (λ xs. entries_of xs key) entries i d l) ∙ c.counts key);
}

pub all_entries : (standard : List SlotRow) (entries : List EntryRow) (s : SlotTable) → IsSlotted standard s → IsCounting standard (λ stamp. count_of s stamp + entries_of entries stamp) (entries_of entries) s
all_entries standard entries s slotted = record { slotted = slotted; counts = λ stamp. refl }

sum_end : (n m : ℕ) → n + 0 ≡ m → n ≡ m
sum_end n m h = omega (arith, h)

pub entries_counted : (standard : List SlotRow) (all : ℕ → ℕ) (s : SlotTable) → IsCounting standard all (entries_of []) s → (stamp : ℕ) → count_of s stamp ≡ all stamp
entries_counted standard all s c stamp = sum_end (count_of s stamp) (all stamp) (c.counts stamp)

-- one node more
pub node_counted : (standard : List SlotRow) (all : ℕ → ℕ) (nodes : List NodeRow) (i : ℕ) (x : NodeRow) (old new : SlotTable) (entries : List EntryRow) → i < length nodes → x ≡ get_or nodes i x → entries ≡ x.entries
    → IsSlotted standard new → ((stamp : ℕ) → count_of new stamp ≡ count_of old stamp + entries_of entries stamp)
    → IsCounting standard all (entries_in (drop i nodes)) old → IsCounting standard all (entries_in (drop (i + 1) nodes)) new
node_counted standard all nodes i x old new entries l e same slotted more c = record {
  slotted = slotted;
  counts = λ stamp.
      let rest = drop (i + 1) nodes in
      let next : entries_in (drop i nodes) stamp ≡ entries_of x.entries stamp + entries_in rest stamp = sym (turn (λ xs. entries_in xs stamp) nodes i x l) ∙ one_node stamp (get_or nodes i x) rest ∙ ap (λ (y : NodeRow). entries_of y.entries stamp + entries_in rest stamp) (sym e) in
      let is : count_of new stamp ≡ count_of old stamp + entries_of x.entries stamp = more stamp ∙ ap (λ es. count_of old stamp + entries_of es stamp) same in
      let before = c.counts stamp in
      omega (arith, next, is, before);
}

-- each entry of a node is among all
module _ (p : ℕ → Bool) where
  associates : (a b c : Bool) → (a && (b && c)) ≡ ((a && b) && c)
  associates true b c = refl
  associates false b c = refl

  both_pass : (es : List EntryRow) (bs : List Block) → list_all p (stamps (map entry_block es ++ bs)) ≡ (list_all (λ e. p e.block.stamp) es && list_all p (stamps bs))
  both_pass [] bs = refl
  both_pass (e ∷ es) bs = ap (λ b. p e.block.stamp && b) (both_pass es bs) ∙ associates (p e.block.stamp) (list_all (λ x. p x.block.stamp) es) (list_all p (stamps bs))

  pub node_passes : (nodes : List NodeRow) (i : ℕ) (d : NodeRow) → i < length nodes → list_all p (stamps (entry_blocks nodes)) ≡ true → list_all (λ e. p e.block.stamp) (get_or nodes i d).entries ≡ true
  node_passes [] i d l h = absurd (omega (arith, l))
  node_passes (x ∷ nodes) zero d l h = (and_parts _ _ (sym (both_pass x.entries (entry_blocks nodes)) ∙ h)).0
  node_passes (x ∷ nodes) (suc i) d l h = node_passes nodes i d (omega (arith, l)) (and_parts _ _ (sym (both_pass x.entries (entry_blocks nodes)) ∙ h)).1

pub entry_passes : (p : ℕ → Bool) (entries : List EntryRow) (i : ℕ) (d : EntryRow) → i < length entries → list_all (λ e. p e.block.stamp) entries ≡ true → p (get_or entries i d).block.stamp ≡ true
entry_passes p entries i d l h = AllPass-from_list_all (λ (e : EntryRow). p e.block.stamp) entries h i d l

-- a stamp among those of the entries is counted
either_has : (a b c : Bool) → (a || (b || c)) ≡ ((a || b) || c)
either_has true b c = refl
either_has false b c = refl

pub one_has : (stamp : ℕ) (es : List EntryRow) (bs : List Block) → has (stamps (map entry_block es ++ bs)) stamp ≡ (list_any (λ e. eqb e.block.stamp stamp) es || has (stamps bs) stamp)
one_has stamp [] bs = refl
one_has stamp (e ∷ es) bs = ap (λ b. eqb e.block.stamp stamp || b) (one_has stamp es bs) ∙ either_has (eqb e.block.stamp stamp) (list_any (λ x. eqb x.block.stamp stamp) es) (has (stamps bs) stamp)

some_entry : (stamp : ℕ) (es : List EntryRow) → list_any (λ e. eqb e.block.stamp stamp) es ≡ true → 1 ≤ entries_of es stamp
some_entry stamp [] h = cc
some_entry stamp (e ∷ es) h = subst (λ n. 1 ≤ n) (sym (one_entry stamp e es)) (by (eqb e.block.stamp stamp) h (some_entry stamp es))
  where
    by : (b : Bool) → (b || list_any (λ x. eqb x.block.stamp stamp) es) ≡ true → (list_any (λ x. eqb x.block.stamp stamp) es ≡ true → 1 ≤ entries_of es stamp) → 1 ≤ cond b 1 0 + entries_of es stamp
    by true h later = omega arith
    by false h later = let l = later h in omega (arith, l)

pub some_node : (stamp : ℕ) (nodes : List NodeRow) → has (stamps (entry_blocks nodes)) stamp ≡ true → 1 ≤ entries_in nodes stamp
some_node stamp [] h = cc
some_node stamp (x ∷ nodes) h = subst (λ n. 1 ≤ n) (sym (one_node stamp x nodes)) (by (list_any (λ e. eqb e.block.stamp stamp) x.entries) refl (sym (one_has stamp x.entries (entry_blocks nodes)) ∙ h) (some_node stamp nodes))
  where
    by : (b : Bool) → list_any (λ e. eqb e.block.stamp stamp) x.entries ≡ b → (b || has (stamps (entry_blocks nodes)) stamp) ≡ true → (has (stamps (entry_blocks nodes)) stamp ≡ true → 1 ≤ entries_in nodes stamp)
        → 1 ≤ entries_of x.entries stamp + entries_in nodes stamp
    by true is h later = let l = some_entry stamp x.entries is in omega (arith, l)
    by false is h later = let l = later h in omega (arith, l)

pub listed_at : (p : ℕ → Bool) (ns : List ℕ) (n : ℕ) → list_all p ns ≡ true → has ns n ≡ true → p n ≡ true
listed_at p [] n all h = cc
listed_at p (m ∷ ns) n all h = by (eqb m n) refl h (listed_at p ns n (and_parts _ _ all).1)
  where
    same_number : eqb m n ≡ true → m ≡ n
    same_number t = grind (arith, nat_tests)

    by : (b : Bool) → eqb m n ≡ b → (b || has ns n) ≡ true → (has ns n ≡ true → p n ≡ true) → p n ≡ true
    by true is h later = ap p (sym (same_number is)) ∙ (and_parts _ _ all).0
    by false is h later = later h

-- where all are counted, each stamp that the rows have has its slot
pub all_counted : (standard : List SlotRow) (nodes : List NodeRow) (s : SlotTable) → are_same (stamps (entry_blocks nodes)) (keys standard) ≡ true → IsCounting standard (entries_in nodes) (entries_in []) s → IsCountedBy nodes standard s
all_counted standard nodes s same c = record {
  keys = λ stamp. by stamp (fin.get s.keys stamp) refl;
  counts = counts;
  leases = c.slotted.leases;
  area = c.slotted.area;
  behind = c.slotted.behind;
}
  where
    counts : (stamp : ℕ) → count_of s stamp ≡ entries_in nodes stamp
    counts stamp = sum_end (count_of s stamp) (entries_in nodes stamp) (c.counts stamp)

    absent : (stamp : ℕ) → fin.get s.keys stamp ≡ None → (o : Option ℕ) → slot_in standard stamp ≡ o → slot_in standard stamp ≡ None
    absent stamp e None is = is
    absent stamp e (Some slot) is =
        let there : 1 ≤ entries_in nodes stamp = some_node stamp nodes (listed_at (has (stamps (entry_blocks nodes))) (keys standard) stamp (and_parts _ _ same).1 (is_key standard stamp slot is)) in
        let none : entries_in nodes stamp ≡ 0 = sym (counts stamp) ∙ c.slotted.uncounted stamp e in
        absurd (omega (arith, there, none))

    by : (stamp : ℕ) (o : Option ℕ) → fin.get s.keys stamp ≡ o → fin.get s.keys stamp ≡ slot_in standard stamp
    by stamp None e = e ∙ sym (absent stamp e (slot_in standard stamp) refl)
    by stamp (Some slot) e = e ∙ sym (c.slotted.keyed stamp slot e)
