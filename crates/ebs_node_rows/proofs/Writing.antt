-- Row after row.
use Rattle.std.proofs.Common.{◌≡◌, ℕ, ◌+◌, ◌<◌, ◌++◌, ◌⊎◌, inl, inr, true, false, ltb, List, [], ◌∷◌, Option, Some, None, refl, sym, ap, subst, ◌∙◌, arith}
use Rattle.std.proofs.lemmas.Bool.{ltb-true}
use Rattle.std.specs.Option.{unwrap_or}
use Rattle.std.specs.Ordering.{nat_cmp}
use Rattle.std.specs.FinMap as map
use Rattle.std.specs.FinMap.{get-empty}
use Rattle.ebs_model.specs.declared.array.Block.{Block}
use Rattle.ebs_checkpoints.specs.declared.nodes.EntryRow.{EntryRow}
use Rattle.ebs_checkpoints.specs.declared.nodes.NodeRow.{NodeRow}
use Rattle.ebs_lineage.specs.Owned.{or_else}
use Rattle.ebs_lineage.specs.Table.{NodeMap}
use Rattle.ebs_lineage.specs.Lines.{AreLines, array, of_parent, over, parent_in, parent_of}
use Rattle.ebs_lineage.proofs.Arrays.{array-up, get-over, same_blocks}
use Rattle.ebs_lineage.proofs.Changes.{insert-here, insert-other, same_or}
use Rattle.ebs_node_rules.specs.Nodes.{node_of}
use Rattle.ebs_node_rules.specs.inner.Nodes.{ascends}
use Rattle.ebs_node_rules.specs.Arrays.{Array, Arrays, array_in, arrays_of, with_entries, with_nodes}
use Rattle.ebs_node_rules.specs.inner.Lookups.{own_block}
use Rattle.ebs_node_rules.proofs.Keyed.{get-entries, own_or}
use Rattle.ebs_node_rows.specs.Marks.{HaveParents, IsIn, Set}
use Rattle.ebs_node_rows.specs.Rows.{AreWritten, HaveArrays, IsListed, IsRowOf, are_below}
use Rattle.ebs_node_rows.proofs.Entered.{all_more, ascends_more, is_lower, weaker}
use Rattle.ebs_node_rows.proofs.Found.{is_there, now_found, some_is, still_found, was_found}
use Rattle.ebs_node_rows.proofs.Marking.{has_kid}

none_listed : (rows : List NodeRow) (q : ℕ) → rows ≡ [] → IsListed rows q → ⊥
none_listed rows q none h = let there = some_is (node_of rows (Some q)) h in let no : None ≡ Some there.0 = sym (ap (λ (r : List NodeRow). node_of r (Some q)) none) ∙ there.1 in cc

pub none_written : (nodes : NodeMap) (set : Set) (rows : List NodeRow) → rows ≡ [] → AreWritten nodes set 0 rows
none_written nodes set rows is = subst (AreWritten nodes set 0) (sym is) (record {
  marked = λ q h. absurd (none_listed [] q refl h);
  each = λ q l h. absurd (omega (arith, l));
  rows_of = λ q row e. absurd (none_listed [] q refl (is_there (node_of [] (Some q)) row e));
  ascend = refl;
  below = refl;
  arrays = λ q h. absurd (none_listed [] q refl h);
})

next_below : (n : ℕ) (rows : List NodeRow) → are_below n rows ≡ true → are_below (n + 1) rows ≡ true
next_below n rows h = weaker (λ (row : NodeRow). ltb row.number n) (λ row. ltb row.number (n + 1)) (λ row low. let l : row.number < n = ltb-true row.number n low in is_lower row.number (n + 1) (omega (arith, l))) rows h

-- a number that isn't marked has no row
pub one_left : (nodes : NodeMap) (set : Set) (n : ℕ) (rows : List NodeRow) → map.contains_key set n ≡ false → AreWritten nodes set n rows → AreWritten nodes set (n + 1) rows
one_left nodes set n rows none w = record {
  marked = λ q h. let m = w.marked q h in let low = m.0 in (omega (arith, low), m.1);
  each = each;
  rows_of = w.rows_of;
  ascend = w.ascend;
  below = next_below n rows w.below;
  arrays = w.arrays;
}
  where
    each : (q : ℕ) → q < n + 1 → IsIn set q → IsListed rows q
    each q l h = elim (same_or q n) [
      | inl same ↦ let no : false ≡ true = sym none ∙ ap (map.contains_key set) (sym same) ∙ h in absurd (cc)
      | inr other ↦ w.each q (omega (arith, l, other)) h
    ]

-- the array of one row more
arrays_more : (known : Arrays) (rows : List NodeRow) (x : NodeRow) → with_nodes known (rows ++ x ∷ []) ≡ map.insert (with_nodes known rows) x.number (with_entries (array_in (with_nodes known rows) x.parent) x.entries)
arrays_more known [] x = refl
arrays_more known (y ∷ rows) x = arrays_more (map.insert known y.number (with_entries (array_in known y.parent) y.entries)) rows x

own_first : (o b : Option Block) → own_or o b ≡ or_else (own_or o None) b
own_first None b = refl
own_first (Some x) b = refl

-- entries over an array are the array of the entries over it
entries_over : (es : List EntryRow) (a : Array) → ascends (λ e. e.index) es ≡ true → with_entries a es ≡ over (with_entries map.empty es) a
entries_over es a up = same_blocks (with_entries a es) (over (with_entries map.empty es) a) same
  where
    same : (q : ℕ) → map.get (with_entries a es) q ≡ map.get (over (with_entries map.empty es) a) q
    same q =
        get-entries es a q up ∙ own_first (own_block es q) (map.get a q)
        ∙ ap (λ o. or_else (own_or (own_block es q) o) (map.get a q)) (sym (get-empty nat_cmp q))
        ∙ ap (λ o. or_else o (map.get a q)) (sym (get-entries es map.empty q up))
        ∙ sym (get-over (with_entries map.empty es) a q)

module _ (nodes : NodeMap) (made : ℕ) (are : AreLines nodes made) (set : Set) (known : HaveParents nodes set) (n : ℕ) (rows : List NodeRow) (w : AreWritten nodes set n rows)
    (x : NodeRow) (is : IsRowOf nodes n x) (there : IsIn set n) where
  new_here : node_of rows (Some n) ≡ None
  new_here = by (node_of rows (Some n)) refl
    where
      by : (o : Option NodeRow) → node_of rows (Some n) ≡ o → node_of rows (Some n) ≡ None
      by None e = e
      by (Some r) e = let low = (w.marked n (is_there (node_of rows (Some n)) r e)).0 in absurd (omega (arith, low))

  abbrev after : List NodeRow
  after = rows ++ x ∷ []

  was_listed : (q : ℕ) → IsListed (rows ++ x ∷ []) q → IsListed rows q ⊎ (q ≡ n)
  was_listed q h =
      let found = some_is (node_of (rows ++ x ∷ []) (Some q)) h in
      elim (was_found rows x n is.numbered q found.0 found.1) [
        | inl before ↦ inl (is_there (node_of rows (Some q)) found.0 before)
        | inr (same, _) ↦ inr same
      ]

  still_listed : (q : ℕ) → IsListed rows q → IsListed (rows ++ x ∷ []) q
  still_listed q h = let found = some_is (node_of rows (Some q)) h in is_there (node_of (rows ++ x ∷ []) (Some q)) found.0 (still_found rows x n is.numbered q found.0 found.1)

  now_listed : IsListed (rows ++ x ∷ []) n
  now_listed = is_there (node_of (rows ++ x ∷ []) (Some n)) x (now_found rows x n is.numbered new_here)

  marked : (q : ℕ) → IsListed (rows ++ x ∷ []) q → (q < n + 1) × IsIn set q
  marked q h = elim (was_listed q h) [
    | inl before ↦ let m = w.marked q before in let low = m.0 in (omega (arith, low), m.1)
    | inr same ↦ (omega (arith, same), subst (IsIn set) (sym same) there)
  ]

  each : (q : ℕ) → q < n + 1 → IsIn set q → IsListed (rows ++ x ∷ []) q
  each q l h = elim (same_or q n) [
    | inl same ↦ subst (IsListed (rows ++ x ∷ [])) (sym same) now_listed
    | inr other ↦ still_listed q (w.each q (omega (arith, l, other)) h)
  ]

  rows_of : (q : ℕ) (r : NodeRow) → node_of (rows ++ x ∷ []) (Some q) ≡ Some r → IsRowOf nodes q r
  rows_of q r e = elim (was_found rows x n is.numbered q r e) [
    | inl before ↦ w.rows_of q r before
    | inr (same, one) ↦ subst (λ m. IsRowOf nodes m r) (sym same) (subst (IsRowOf nodes n) one is)
  ]

  -- a parent's array is there
  above : (up : Option ℕ) → is.node.parent ≡ up → array_in (arrays_of rows) up ≡ of_parent up (array nodes)
  above None e = refl
  above (Some p) e =
      let up : parent_of nodes n ≡ Some p = ap parent_in is.is ∙ e in
      let low = (has_kid nodes made are set n p up).0 in
      let listed : IsListed rows p = w.each p low (known.up n p there up) in
      ap (λ o. unwrap_or o map.empty) (w.arrays p listed)

  array_here : with_entries (array_in (arrays_of rows) x.parent) x.entries ≡ array nodes n
  array_here =
      ap (λ up. with_entries (array_in (arrays_of rows) up) x.entries) is.parent
      ∙ ap (λ a. with_entries a x.entries) (above is.node.parent refl)
      ∙ entries_over x.entries (of_parent is.node.parent (array nodes)) is.entries.ascend
      ∙ ap (λ own. over own (of_parent is.node.parent (array nodes))) is.entries.own
      ∙ sym (array-up nodes made are n is.node is.is)

  arrays : HaveArrays nodes (rows ++ x ∷ [])
  arrays q h = ap (λ (all : Arrays). map.get all q) (arrays_more map.empty rows x) ∙ elim (was_listed q h) [
    | inl before ↦
        let low = (w.marked q before).0 in
        let number = is.numbered in
        insert-other (arrays_of rows) x.number (with_entries (array_in (arrays_of rows) x.parent) x.entries) q (λ same. absurd (omega (arith, low, number, same))) ∙ w.arrays q before
    | inr same ↦
        ap (map.get (map.insert (arrays_of rows) x.number (with_entries (array_in (arrays_of rows) x.parent) x.entries))) (same ∙ sym is.numbered)
        ∙ insert-here (arrays_of rows) x.number (with_entries (array_in (arrays_of rows) x.parent) x.entries)
        ∙ ap (λ a. Some a) array_here ∙ ap (λ m. Some (array nodes m)) (sym same)
  ]

  pub one_written : (new : List NodeRow) → new ≡ rows ++ x ∷ [] → AreWritten nodes set (n + 1) new
  one_written new e = subst (AreWritten nodes set (n + 1)) (sym e) (record {
    marked = marked;
    each = each;
    rows_of = rows_of;
    ascend = ascends_more (λ (row : NodeRow). row.number) rows x w.ascend (subst (λ m. are_below m rows ≡ true) (sym is.numbered) w.below);
    below = all_more (λ (row : NodeRow). ltb row.number (n + 1)) rows x (next_below n rows w.below) (let number = is.numbered in is_lower x.number (n + 1) (omega (arith, number)));
    arrays = arrays;
  })
