-- The entries of the lineage are those of the rows.
use Rattle.std.proofs.Common.{arith, ◌≡◌, ◌⊎◌, inl, inr, ◌↔◌, ℕ, ◌+◌, ◌≤◌, Bool, true, false, ◌||◌, cond, eqb, ltb, List, [], ◌∷◌, Option, Some, None, IsSome, is_some, refl, sym, ap, subst, ◌∙◌}
use Rattle.std.proofs.lemmas.Bool.{and_parts, false≢true, ltb-true}
use Rattle.std.proofs.lemmas.Bool.Decides.{nat_tests}
use Rattle.std.specs.List.{find, list_all, list_any}
use Rattle.std.specs.Option.{option_map}
use Rattle.std.specs.Ordering.{nat_cmp}
use Rattle.std.specs.FinMap as map
use Rattle.std.specs.FinMap.{get-empty}
use Rattle.ebs_model.specs.declared.array.Block.{Block}
use Rattle.ebs_checkpoints.specs.declared.nodes.EntryRow.{EntryRow}
use Rattle.ebs_checkpoints.specs.declared.nodes.NodeRow.{NodeRow}
use Rattle.ebs_checkpoints.specs.declared.nodes.SlotRow.{SlotRow}
use Rattle.ebs_lineage.specs.declared.node.Node.{Node}
use Rattle.ebs_lineage.specs.Lines.{Lines, own_of}
use Rattle.ebs_lineage.specs.Entries.{Entry, AreSoMany, IsEntry, AreEntries, block_at}
use Rattle.ebs_lineage.proofs.Changes.{same_or}
use Rattle.ebs_lineage.proofs.Many.{none-many, same-many, more-many}
use Rattle.ebs_lineage.proofs.Counting.{kept-entries}
use Rattle.ebs_node_rules.specs.inner.Arrays.{entries_ascend}
use Rattle.ebs_node_rules.specs.inner.Lookups.{own_block}
use Rattle.ebs_node_rules.specs.Nodes.{node_of}
use Rattle.ebs_node_rules.specs.inner.Nodes.{ascends, nodes_ascend}
use Rattle.ebs_node_rules.proofs.Keyed.{own_or, get-entries}
use Rattle.ebs_row_rules.specs.Numbers.{are_same, has}
use Rattle.ebs_row_rules.specs.Slots.{entry_blocks, keys, stamps}
use Rattle.ebs_regrown.specs.Counted.{entries_in, entries_of, slot_in}
use Rattle.ebs_regrown.specs.Laws.{RegrownIsCounted}
use Rattle.ebs_regrown.specs.Regrown.{Numbers, IsOfRow, IsRegrown}
use Rattle.ebs_regrown.proofs.Entries.{listed_at, one_entry, one_node, one_has, some_node}
use Rattle.ebs_regrown.proofs.Numbered.{itself, none_below, passes, same_number}
use Rattle.ebs_regrown.proofs.Slotted.{differ, has_slot, is_key}

none_some : {A B : Type 0} (a : A) → None ≡ Some a → B
none_some a e = absurd (cc)

some_same : {A : Type 0} (a b : A) → Some a ≡ Some b → a ≡ b
some_same a b e = cc

-- ---- the entries of one row

-- an entry with the stamp stands at the index
record HasEntry (entries : List EntryRow) (stamp index : ℕ) : Type 0 where
  block : Block
  found : own_block entries index ≡ Some block
  same : block.stamp ≡ stamp

none_above : (es : List EntryRow) (index : ℕ) → list_all (λ x. ltb index x.index) es ≡ true → own_block es index ≡ None
none_above [] index h = refl
none_above (e ∷ es) index h = by (eqb e.index index) refl (none_above es index (and_parts _ _ h).1)
  where
    by : (b : Bool) → eqb e.index index ≡ b → own_block es index ≡ None → option_map (λ (x : EntryRow). x.block) (cond b (Some e) (find (λ (x : EntryRow). eqb x.index index) es)) ≡ None
    by true is none = let up = ltb-true index e.index (and_parts _ _ h).0 in absurd (grind (arith, nat_tests))
    by false is none = none

module _ (y : EntryRow) (es : List EntryRow) (stamp index : ℕ) where
  block_here : index ≡ y.index → own_block (y ∷ es) index ≡ Some y.block
  block_here same = ap (λ b. option_map (λ (x : EntryRow). x.block) (cond b (Some y) (find (λ (x : EntryRow). eqb x.index index) es))) (ap (eqb y.index) same ∙ itself y.index)

  block_else : (index ≡ y.index → ⊥) → own_block (y ∷ es) index ≡ own_block es index
  block_else off = ap (λ b. option_map (λ (x : EntryRow). x.block) (cond b (Some y) (find (λ (x : EntryRow). eqb x.index index) es))) (differ y.index index (λ h. off (sym h)))

  entry_here : index ≡ y.index → HasEntry (y ∷ es) stamp index → y.block.stamp ≡ stamp
  entry_here same h = ap (λ (b : Block). b.stamp) (some_same y.block h.block (sym (block_here same) ∙ h.found)) ∙ h.same

  entry_else : (index ≡ y.index → ⊥) → HasEntry (y ∷ es) stamp index → HasEntry es stamp index
  entry_else off h = record { block = h.block; found = sym (block_else off) ∙ h.found; same = h.same }

  entry_behind : (index ≡ y.index → ⊥) → HasEntry es stamp index → HasEntry (y ∷ es) stamp index
  entry_behind off h = record { block = h.block; found = block_else off ∙ h.found; same = h.same }

-- an entry of the row with the stamp, as one of its node, or one of the rest
abbrev With : ℕ → ℕ → (Entry → Type 0) → List EntryRow → Entry → Type 0
With stamp made Rest es e = ((e.0 ≡ made) × HasEntry es stamp e.1) ⊎ Rest e

module _ (stamp made count : ℕ) (Rest : Entry → Type 0) (apart : (e : Entry) → Rest e → e.0 ≡ made → ⊥) (rest : AreSoMany Rest count) where
  abbrev All : List EntryRow → Entry → Type 0
  All es = With stamp made Rest es

  none_with : (e : Entry) → Rest e ↔ All [] e
  none_with e = (
    λ h. inr h,
    λ h. elim h [
      | inl t ↦ none_some t.1.block t.1.found
      | inr t ↦ t
    ],
  )

  module _ (y : EntryRow) (es : List EntryRow) (above : list_all (λ x. ltb y.index x.index) es ≡ true) where
    not_behind : (index : ℕ) → index ≡ y.index → HasEntry es stamp index → ⊥
    not_behind index same h = none_some h.block (sym (none_above es y.index above) ∙ ap (own_block es) (sym same) ∙ h.found)

    off_here : All es (made, y.index) → ⊥
    off_here (inl t) = not_behind y.index refl t.1
    off_here (inr t) = apart (made, y.index) t refl

    behind : (e : Entry) → All es e → All (y ∷ es) e
    behind e (inl t) = inl (t.0, entry_behind y es stamp e.1 (λ s. not_behind e.1 s t.1) t.1)
    behind e (inr t) = inr t

    to_more : (e : Entry) → (e.1 ≡ y.index) ⊎ (e.1 ≡ y.index → ⊥) → All (y ∷ es) e → (e ≡ (made, y.index)) ⊎ All es e
    to_more e at (inr t) = inr (inr t)
    to_more e (inl s) (inl t) = inl (λ i. (t.0 i, s i))
    to_more e (inr off) (inl t) = inr (inl (t.0, entry_else y es stamp e.1 off t.1))

    here : y.block.stamp ≡ stamp → (e : Entry) → e ≡ (made, y.index) → All (y ∷ es) e
    here same e at = inl (ap (λ (x : Entry). x.0) at, record { block = y.block; found = block_here y es stamp e.1 (ap (λ (x : Entry). x.1) at); same = same })

    other_stamp : (y.block.stamp ≡ stamp → ⊥) → (e : Entry) → (e.1 ≡ y.index) ⊎ (e.1 ≡ y.index → ⊥) → All (y ∷ es) e → All es e
    other_stamp off e at (inr t) = inr t
    other_stamp off e (inl s) (inl t) = absurd (off (entry_here y es stamp e.1 s t.1))
    other_stamp off e (inr away) (inl t) = inl (t.0, entry_else y es stamp e.1 away t.1)

    with_more : (n : ℕ) → AreSoMany (All es) n → AreSoMany (All (y ∷ es)) (cond (eqb y.block.stamp stamp) 1 0 + n)
    with_more n many = elim (same_or y.block.stamp stamp) [
      | inl same ↦ subst (λ (k : ℕ). AreSoMany (All (y ∷ es)) k) (one_more n (eqb y.block.stamp stamp) (ap (λ (k : ℕ). eqb k stamp) same ∙ itself stamp))
          (more-many (All es) (All (y ∷ es)) n many (made, y.index) off_here (λ e. (
            λ h. to_more e (same_or e.1 y.index) h,
            λ h. elim h [
              | inl at ↦ here same e at
              | inr t ↦ behind e t
            ],
          )))
      | inr off ↦ subst (λ (k : ℕ). AreSoMany (All (y ∷ es)) k) (as_many n (eqb y.block.stamp stamp) (differ y.block.stamp stamp off))
          (same-many (All es) (All (y ∷ es)) n many (λ e. (behind e, other_stamp off e (same_or e.1 y.index))))
    ]
      where
        one_more : (n : ℕ) (b : Bool) → b ≡ true → n + 1 ≡ cond b 1 0 + n
        one_more n true h = omega arith
        one_more n false h = cc

        as_many : (n : ℕ) (b : Bool) → b ≡ false → n ≡ cond b 1 0 + n
        as_many n true h = cc
        as_many n false h = omega arith

  with_all : (es : List EntryRow) → ascends (λ x. x.index) es ≡ true → AreSoMany (All es) (entries_of es stamp + count)
  with_all [] h = subst (λ (k : ℕ). AreSoMany (All []) k) (no_more count) (same-many Rest (All []) count rest none_with)
    where
      no_more : (n : ℕ) → n ≡ 0 + n
      no_more n = omega arith
  with_all (y ∷ es) h =
      subst (λ (k : ℕ). AreSoMany (All (y ∷ es)) k) (sum (cond (eqb y.block.stamp stamp) 1 0) (entries_of es stamp) (entries_of (y ∷ es) stamp) (one_entry stamp y es))
      (with_more y es (and_parts _ _ h).0 (entries_of es stamp + count) (with_all es (and_parts _ _ h).1))
    where
      sum : (a b c : ℕ) → c ≡ a + b → a + (b + count) ≡ c + count
      sum a b c e = omega (arith, e)

-- ---- the entries of all rows

module _ (numbers : Numbers) (alone : (a b n : ℕ) → map.get numbers a ≡ Some n → map.get numbers b ≡ Some n → a ≡ b) (stamp : ℕ) where
  -- an entry of a row's node has the stamp
  record IsOfRows (rows : List NodeRow) (e : Entry) : Type 0 where
    of : IsOfRow rows numbers e.0
    has_it : HasEntry of.row.entries stamp e.1

  abbrev AreNumbered : List NodeRow → Type 0
  AreNumbered rows = (number : ℕ) (row : NodeRow) → node_of rows (Some number) ≡ Some row → (made : ℕ) × (map.get numbers number ≡ Some made)

  module _ (x : NodeRow) (rows : List NodeRow) (ascend : nodes_ascend (x ∷ rows) ≡ true) where
    not_first : (number : ℕ) (row : NodeRow) → node_of rows (Some number) ≡ Some row → x.number ≡ number → ⊥
    not_first number row found same = none_some row (sym (none_below rows x.number (and_parts _ _ ascend).0) ∙ ap (λ (q : ℕ). node_of rows (Some q)) same ∙ found)

    found_behind : (number : ℕ) (row : NodeRow) → node_of rows (Some number) ≡ Some row → node_of (x ∷ rows) (Some number) ≡ Some row
    found_behind number row found = ap (λ b. cond b (Some x) (node_of rows (Some number))) (differ x.number number (not_first number row found)) ∙ found

    found_first : node_of (x ∷ rows) (Some x.number) ≡ Some x
    found_first = ap (λ b. cond b (Some x) (node_of rows (Some x.number))) (itself x.number)

    module _ (made : ℕ) (numbered : map.get numbers x.number ≡ Some made) where
      apart : (e : Entry) → IsOfRows rows e → e.0 ≡ made → ⊥
      apart e h same = not_first h.of.number h.of.row h.of.found (alone x.number h.of.number made numbered (h.of.numbered ∙ ap (λ (n : ℕ). Some n) same))

      to_rows : (e : Entry) → With stamp made (IsOfRows rows) x.entries e → IsOfRows (x ∷ rows) e
      to_rows e (inl t) = record {
        of = record { number = x.number; row = x; found = found_first; numbered = numbered ∙ ap (λ (n : ℕ). Some n) (sym t.0) };
        has_it = t.1;
      }
      to_rows e (inr t) = record {
        of = record { number = t.of.number; row = t.of.row; found = found_behind t.of.number t.of.row t.of.found; numbered = t.of.numbered };
        has_it = t.has_it;
      }

      from_rows : (e : Entry) → IsOfRows (x ∷ rows) e → With stamp made (IsOfRows rows) x.entries e
      from_rows e h = by (eqb x.number h.of.number) refl h.of.found
        where
          by : (b : Bool) → eqb x.number h.of.number ≡ b → cond b (Some x) (node_of rows (Some h.of.number)) ≡ Some h.of.row → With stamp made (IsOfRows rows) x.entries e
          by true is found =
              let same = some_same made e.0 (sym numbered ∙ ap (map.get numbers) (same_number x.number h.of.number is) ∙ h.of.numbered) in
              inl (sym same, subst (λ (row : NodeRow). HasEntry row.entries stamp e.1) (sym (some_same x h.of.row found)) h.has_it)
          by false is found = inr (record { of = record { number = h.of.number; row = h.of.row; found = found; numbered = h.of.numbered }; has_it = h.has_it })

  rows_many : (rows : List NodeRow) → nodes_ascend rows ≡ true → entries_ascend rows ≡ true → AreNumbered rows → AreSoMany (IsOfRows rows) (entries_in rows stamp)
  rows_many [] ascend each numbered = none-many (IsOfRows []) (λ e h. none_some h.of.row h.of.found)
  rows_many (x ∷ rows) ascend each numbered =
      let made = numbered x.number x (found_first x rows ascend) in
      let rest = rows_many rows (and_parts _ _ ascend).1 (and_parts _ _ each).1 (λ number row found. numbered number row (found_behind x rows ascend number row found)) in
      let all = with_all stamp made.0 (entries_in rows stamp) (IsOfRows rows) (apart x rows ascend made.0 made.1) rest x.entries (and_parts _ _ each).0 in
      same-many (With stamp made.0 (IsOfRows rows) x.entries) (IsOfRows (x ∷ rows)) (entries_in (x ∷ rows) stamp)
      (subst (λ (n : ℕ). AreSoMany (With stamp made.0 (IsOfRows rows) x.entries) n) (sym (one_node stamp x rows)) all)
      (λ e. (to_rows x rows ascend made.0 made.1 e, from_rows x rows ascend made.0 made.1 e))

-- ---- the lineage's own entries

own_none : (o : Option Block) → own_or o None ≡ o
own_none None = refl
own_none (Some b) = refl

module _ (rows : List NodeRow) (held : ℕ → Bool) (numbers : Numbers) (l : Lines) (grown : IsRegrown rows held numbers l) (entries : entries_ascend rows ≡ true) where
  -- a row's node keeps what the row's entries say
  block_of : (n : ℕ) (of : IsOfRow rows numbers n) (index : ℕ) → block_at l.table.nodes (n, index) ≡ own_block of.row.entries index
  block_of n of index =
      let g = grown.each of.number of.row of.found in
      let same = some_same g.made n (sym g.numbered ∙ of.numbered) in
      ap (λ (o : Option Node). map.get (own_of o) index) (ap (map.get l.table.nodes) (sym same) ∙ g.is) ∙ ap (λ (m : map.FinMap nat_cmp Block). map.get m index) g.own
      ∙ get-entries of.row.entries map.empty index (passes (λ (row : NodeRow). ascends (λ (e : EntryRow). e.index) row.entries) rows of.number of.row entries of.found)
      ∙ ap (own_or (own_block of.row.entries index)) (get-empty nat_cmp index) ∙ own_none (own_block of.row.entries index)

  node_there : (e : Entry) (b : Block) → block_at l.table.nodes e ≡ Some b → IsSome (map.get l.table.nodes e.0)
  node_there e b found = by (map.get l.table.nodes e.0) found
    where
      by : (o : Option Node) → map.get (own_of o) e.1 ≡ Some b → IsSome o
      by None h = none_some b (sym (get-empty nat_cmp e.1) ∙ h)
      by (Some x) h = refl

  to_entry : (stamp : ℕ) (e : Entry) → IsOfRows numbers grown.apart stamp rows e → IsEntry l.table.nodes stamp e
  to_entry stamp e h = record { block = h.has_it.block; found = block_of e.0 h.of e.1 ∙ h.has_it.found; same = h.has_it.same }

  from_entry : (stamp : ℕ) (e : Entry) → IsEntry l.table.nodes stamp e → IsOfRows numbers grown.apart stamp rows e
  from_entry stamp e h =
      let of = grown.listed e.0 (node_there e h.block h.found) in
      record { of = of; has_it = record { block = h.block; found = sym (block_of e.0 of e.1) ∙ h.found; same = h.same } }

  grown_many : nodes_ascend rows ≡ true → (stamp : ℕ) → AreEntries l.table.nodes stamp (entries_in rows stamp)
  grown_many ascend stamp =
      same-many (IsOfRows numbers grown.apart stamp rows) (IsEntry l.table.nodes stamp) (entries_in rows stamp)
      (rows_many numbers grown.apart stamp rows ascend entries (λ number row found. let g = grown.each number row found in (g.made, g.numbered)))
      (λ e. (to_entry stamp e, from_entry stamp e))

-- ---- slots

slot_some : (o : Option ℕ) → (o ≡ None → ⊥) → IsSome o
slot_some None h = absurd (h refl)
slot_some (Some slot) h = refl

listed_some : (o : Option ℕ) → IsSome o → (slot : ℕ) × (o ≡ Some slot)
listed_some None h = absurd (false≢true h)
listed_some (Some slot) h = (slot, refl)

none_of : (stamp : ℕ) (es : List EntryRow) → list_any (λ e. eqb e.block.stamp stamp) es ≡ false → entries_of es stamp ≡ 0
none_of stamp [] h = refl
none_of stamp (e ∷ es) h = one_entry stamp e es ∙ by (eqb e.block.stamp stamp) h (none_of stamp es)
  where
    by : (b : Bool) → (b || list_any (λ (x : EntryRow). eqb x.block.stamp stamp) es) ≡ false → (list_any (λ (x : EntryRow). eqb x.block.stamp stamp) es ≡ false → entries_of es stamp ≡ 0) → cond b 1 0 + entries_of es stamp ≡ 0
    by true h later = absurd (false≢true (sym h))
    by false h later = omega (arith, later h)

-- a stamp that isn't among those of entries is counted by none
none_have : (stamp : ℕ) (rows : List NodeRow) → has (stamps (entry_blocks rows)) stamp ≡ false → entries_in rows stamp ≡ 0
none_have stamp [] h = refl
none_have stamp (x ∷ rows) h = one_node stamp x rows ∙ by (list_any (λ e. eqb e.block.stamp stamp) x.entries) refl (sym (one_has stamp x.entries (entry_blocks rows)) ∙ h) (none_have stamp rows)
  where
    by : (b : Bool) → list_any (λ e. eqb e.block.stamp stamp) x.entries ≡ b → (b || has (stamps (entry_blocks rows)) stamp) ≡ false → (has (stamps (entry_blocks rows)) stamp ≡ false → entries_in rows stamp ≡ 0)
        → entries_of x.entries stamp + entries_in rows stamp ≡ 0
    by true is h later = absurd (false≢true (sym h))
    by false is h later = omega (arith, none_of stamp x.entries is, later h)

module _ (rows : List NodeRow) (standard : List SlotRow) (same : are_same (stamps (entry_blocks rows)) (keys standard) ≡ true) (stamp : ℕ) where
  slot_counted : IsSome (slot_in standard stamp) → 1 ≤ entries_in rows stamp
  slot_counted h =
      let slot = listed_some (slot_in standard stamp) h in
      some_node stamp rows (listed_at (has (stamps (entry_blocks rows))) (keys standard) stamp (and_parts _ _ same).1 (is_key standard stamp slot.0 slot.1))

  counted_slot : 1 ≤ entries_in rows stamp → IsSome (slot_in standard stamp)
  counted_slot some = by (has (stamps (entry_blocks rows)) stamp) refl
    where
      by : (b : Bool) → has (stamps (entry_blocks rows)) stamp ≡ b → IsSome (slot_in standard stamp)
      by true is = slot_some (slot_in standard stamp) (has_slot standard stamp (listed_at (has (keys standard)) (stamps (entry_blocks rows)) stamp (and_parts _ _ same).0 is))
      by false is = absurd (omega (arith, some, none_have stamp rows is))

pub regrown_counted : RegrownIsCounted
regrown_counted rows standard held numbers l s grown counted ascend entries same =
    let many = grown_many rows held numbers l grown entries ascend in
    record {
      slotted = λ stamp.
          let kept = kept-entries l.table.nodes stamp (entries_in rows stamp) (many stamp) in (
            λ h. kept.1 (slot_counted rows standard same stamp (sym (ap is_some (counted.keys stamp)) ∙ h)),
            λ k. ap is_some (counted.keys stamp) ∙ counted_slot rows standard same stamp (kept.0 k),
          );
      counts = λ stamp. subst (λ (n : ℕ). AreEntries l.table.nodes stamp n) (sym (counted.counts stamp)) (many stamp);
    }
