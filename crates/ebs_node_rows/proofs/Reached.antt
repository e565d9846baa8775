-- What the rows of all marked nodes are.
use Rattle.std.proofs.Common.{◌≡◌, ℕ, zero, suc, ◌<◌, inl, inr, Bool, true, false, not, ◌&&◌, ◌||◌, cond, eqb, List, [], ◌∷◌, Option, Some, None, IsSome, refl, sym, ap, subst, ◌∙◌, arith}
use Rattle.std.specs.List.{cons_option}
use Rattle.std.specs.FinMap as map
use Rattle.ebs_checkpoints.specs.declared.nodes.EntryRow.{EntryRow}
use Rattle.ebs_checkpoints.specs.declared.nodes.NodeRow.{NodeRow}
use Rattle.ebs_lineage.specs.declared.node.Node.{Node}
use Rattle.ebs_lineage.specs.Table.{NodeMap}
use Rattle.ebs_lineage.specs.Lines.{AreLines, IsFrozen, IsHeld, IsOpen, own, own_of, parent_in, parent_of}
use Rattle.ebs_lineage.specs.Live.{up_from}
use Rattle.ebs_lineage.proofs.Onward.{through-kid}
use Rattle.ebs_node_rules.specs.Nodes.{has_parent, is_among, is_closed, node_of, parents, stands}
use Rattle.ebs_node_rules.specs.inner.Nodes.{ancestor, ascends}
use Rattle.ebs_node_rules.specs.inner.Nodes as kin
use Rattle.ebs_node_rules.specs.inner.Lookups.{AreChained}
use Rattle.ebs_node_rows.specs.Marks.{AreMarked, AreThere, HaveParents, IsIn, IsWanted, Set}
use Rattle.ebs_node_rows.specs.Rows.{AreEntriesOf, AreNeeded, AreWritten, IsListed, IsRowOf, ListWanted, ReachEach}
use Rattle.ebs_node_rows.proofs.Entered.{is_lower}
use Rattle.ebs_node_rows.proofs.Found.{each_passes, is_there, itself, some_is}
use Rattle.ebs_node_rows.proofs.Marking.{none_some, some_same, up_wanted}

module _ (nodes : NodeMap) (made : ℕ) (are : AreLines nodes made) where
  -- a node that isn't open is closed
  open_same : (q : ℕ) (x : Node) (b : Bool) → map.get nodes q ≡ Some x → (b ≡ true → IsOpen nodes q) → (b ≡ false → IsHeld nodes q → IsFrozen nodes q) → b ≡ x.is_open
  open_same q x true is opens closes =
      let o = opens refl in
      sym o.2 ∙ ap (λ (y : Node). y.is_open) (some_same o.0 x (sym o.1 ∙ is))
  open_same q x false is opens closes = by x.is_open refl
    where
      by : (b : Bool) → x.is_open ≡ b → false ≡ b
      by false e = refl
      by true e =
          let f = closes refl (x, is, are.open_held q x is e) in
          sym f.2 ∙ ap (λ (y : Node). y.is_open) (some_same f.0 x (sym f.1 ∙ is)) ∙ e

  pub row_is : (q : ℕ) (row : NodeRow) → IsSome (map.get nodes q) → row.number ≡ q → row.parent ≡ parent_of nodes q → (row.writable ≡ true → IsOpen nodes q) → (row.writable ≡ false → IsHeld nodes q → IsFrozen nodes q)
      → AreEntriesOf (own nodes q) row.entries → IsRowOf nodes q row
  row_is q row there number parent opens closes entries =
      let x = some_is (map.get nodes q) there in
      record {
        node = x.0;
        is = x.1;
        numbered = number;
        parent = parent ∙ ap parent_in x.1;
        written = open_same q x.0 row.writable x.1 opens closes;
        entries = subst (λ o. AreEntriesOf (own_of o) row.entries) x.1 entries;
      }

  -- no open node is a parent
  open_bears : {A : Type 0} (q : ℕ) (x : Node) → map.get nodes q ≡ Some x → x.is_open ≡ true → IsFrozen nodes q → A
  open_bears q x is opened (y, here, closed) =
      let same : x ≡ y = some_same x y (sym is ∙ here) in
      let no : true ≡ false = sym opened ∙ ap (λ (z : Node). z.is_open) same ∙ closed in
      absurd (cc)

  -- steps up from the other end
  up_more : (s : ℕ) (at : Option ℕ) (n : ℕ) → up_from nodes (suc s) at ≡ Some n → (m : ℕ) × (up_from nodes s at ≡ Some m) × (parent_of nodes m ≡ Some n)
  up_more s None n e = none_some n e
  up_more zero (Some a) n e = (a, refl, e)
  up_more (suc s) (Some a) n e = up_more s (parent_of nodes a) n e

  -- a node that is named is there, and so are its ancestors
  module _ (names : Set) (there : AreThere nodes names) where
    wanted_there : (q : ℕ) → IsWanted nodes names q → IsSome (map.get nodes q)
    wanted_there q (h, is, line) = elim (through-kid nodes h q line) [
      | inl same ↦ subst (λ n. IsSome (map.get nodes n)) same (there h is)
      | inr (d, (y, here, up), _) ↦ let frozen = (are.parents d q y here up).1 in is_there (map.get nodes q) frozen.0 frozen.1
    ]

    wanted_below : (q : ℕ) → IsWanted nodes names q → q < made
    wanted_below q h = let there = some_is (map.get nodes q) (wanted_there q h) in are.numbers q there.0 there.1

    pub have_parents : (set : Set) → AreMarked nodes names set → HaveParents nodes set
    have_parents set known = record {
      there = λ q h. wanted_there q (known.wanted q h);
      up = λ d p h e. known.each p (up_wanted nodes made are names d p e (known.wanted d h));
    }

  module _ (names : Set) (there : AreThere nodes names) (set : Set) (known : AreMarked nodes names set) (rows : List NodeRow) (w : AreWritten nodes set made rows) where
    listed_wanted : (q : ℕ) → IsListed rows q → IsWanted nodes names q
    listed_wanted q h = known.wanted q (w.marked q h).1

    wanted_listed : (q : ℕ) → IsWanted nodes names q → IsListed rows q
    wanted_listed q h = w.each q (wanted_below names there q h) (known.each q h)

    pub list_wanted : ListWanted nodes names rows
    list_wanted = record { wanted = listed_wanted; each = wanted_listed }

    module _ (q : ℕ) (row : NodeRow) (found : node_of rows (Some q) ≡ Some row) where
      is_row : IsRowOf nodes q row
      is_row = w.rows_of q row found

      is_wanted : IsWanted nodes names q
      is_wanted = listed_wanted q (is_there (node_of rows (Some q)) row found)

      closed_there : (p : ℕ) → IsFrozen nodes p → (o : Option NodeRow) → node_of rows (Some p) ≡ o → IsSome o → is_closed o ≡ true
      closed_there p f None e h = absurd (cc)
      closed_there p f (Some r) e h =
          let is = w.rows_of p r e in
          let closed : r.writable ≡ false = is.written ∙ ap (λ (y : Node). y.is_open) (some_same is.node f.0 (sym is.is ∙ f.1)) ∙ f.2 in
          ap not closed

      stands_on : (up : Option ℕ) → row.parent ≡ up → stands rows row.number up ≡ true
      stands_on None e = refl
      stands_on (Some p) e =
          let number = is_row.numbered in
          let kid = are.parents q p is_row.node is_row.is (sym is_row.parent ∙ e) in
          let low = kid.0 in
          let listed = wanted_listed p (up_wanted nodes made are names q p (ap parent_in is_row.is ∙ sym is_row.parent ∙ e) is_wanted) in
          (λ i. is_lower p row.number (omega (arith, low, number)) i && closed_there p kid.1 (node_of rows (Some p)) refl listed i)

    pub chained : AreChained rows
    chained = record {
      ascend = w.ascend;
      entries = each_passes (λ (row : NodeRow). ascends (λ (e : EntryRow). e.index) row.entries) rows w.ascend (λ q row found. (w.rows_of q row found).entries.ascend);
      parents = each_passes (has_parent rows) rows w.ascend (λ q row found. stands_on q row found row.parent refl);
    }

    -- what is reached from a named node is reached over the rows
    over_rows : (h s n : ℕ) → IsIn names h → up_from nodes s (Some h) ≡ Some n → ancestor rows h s ≡ Some n
    over_rows h zero n is e = e
    over_rows h (suc s) n named e =
        let (m, before, up) = up_more s (Some h) n e in
        let there = some_is (node_of rows (Some m)) (wanted_listed m (h, named, (s, before))) in
        let is = w.rows_of m there.0 there.1 in
        ap (λ o. kin.parent_of (node_of rows o)) (over_rows h s m named before) ∙ ap kin.parent_of there.1 ∙ is.parent ∙ ap parent_in (sym is.is) ∙ up

    pub reach_each : ReachEach names rows
    reach_each n h = let (name, is, line) = listed_wanted n h in (name, line.0, is, over_rows name line.0 n is line.1)

    -- a row that another stands on is among the parents
    among : (rs : List NodeRow) (d n : ℕ) (row : NodeRow) → node_of rs (Some d) ≡ Some row → row.parent ≡ Some n → is_among (parents rs) n ≡ true
    among [] d n row found up = none_some row found
    among (x ∷ rs) d n row found up = by (eqb x.number d) found (λ later. among rs d n row later up)
      where
        put : (o : Option ℕ) (ns : List ℕ) → is_among ns n ≡ true → is_among (cons_option o ns) n ≡ true
        put None ns h = h
        put (Some m) ns h = either (eqb m n) h
          where
            either : (b : Bool) → is_among ns n ≡ true → (b || is_among ns n) ≡ true
            either true h = refl
            either false h = h

        by : (b : Bool) → cond b (Some x) (node_of rs (Some d)) ≡ Some row → (node_of rs (Some d) ≡ Some row → is_among (parents rs) n ≡ true) → is_among (parents (x ∷ rs)) n ≡ true
        by true e later =
            let same : x ≡ row = some_same x row e in
            ap (λ o. is_among (cons_option o (parents rs)) n) (ap (λ (y : NodeRow). y.parent) same ∙ up) ∙ ap (λ b. b || is_among (parents rs) n) (itself n)
        by false e later = put x.parent (parents rs) (later e)

    or_true : (a b : Bool) → b ≡ true → (a || b) ≡ true
    or_true true b e = refl
    or_true false b e = e

    true_or : (a b : Bool) → a ≡ true → (a || b) ≡ true
    true_or a b e = ap (λ c. c || b) e

    module _ (named : ℕ → Bool) (all : (h : ℕ) → IsIn names h → named h ≡ true) where
      open_one : (q : ℕ) (row : NodeRow) → node_of rows (Some q) ≡ Some row → (not row.writable || named row.number) ≡ true
      open_one q row found = by row.writable refl
        where
          by : (b : Bool) → row.writable ≡ b → (not b || named row.number) ≡ true
          by false e = refl
          by true e =
              let is = w.rows_of q row found in
              let (h, name, line) = listed_wanted q (is_there (node_of rows (Some q)) row found) in
              elim (through-kid nodes h q line) [
                | inl same ↦ ap named (is.numbered ∙ sym same) ∙ all h name
                | inr (d, (y, here, up), _) ↦ open_bears q is.node is.is (sym is.written ∙ e) (are.parents d q y here up).1
              ]

      needed_one : (q : ℕ) (row : NodeRow) → node_of rows (Some q) ≡ Some row → (named row.number || is_among (parents rows) row.number) ≡ true
      needed_one q row found =
          let is = w.rows_of q row found in
          let (h, name, line) = listed_wanted q (is_there (node_of rows (Some q)) row found) in
          elim (through-kid nodes h q line) [
            | inl same ↦ true_or (named row.number) (is_among (parents rows) row.number) (ap named (is.numbered ∙ sym same) ∙ all h name)
            | inr (d, (y, here, up), more) ↦
                let there = some_is (node_of rows (Some d)) (wanted_listed d (h, name, more)) in
                let kid = w.rows_of d there.0 there.1 in
                let parent = kid.parent ∙ ap (λ (z : Node). z.parent) (some_same kid.node y (sym kid.is ∙ here)) ∙ up in
                or_true (named row.number) (is_among (parents rows) row.number) (ap (is_among (parents rows)) is.numbered ∙ among rows d q there.0 there.1 parent)
          ]

      pub are_needed : AreNeeded rows named
      are_needed = record {
        open_named = each_passes (λ (row : NodeRow). not row.writable || named row.number) rows w.ascend open_one;
        needed = each_passes (λ (row : NodeRow). named row.number || is_among (parents rows) row.number) rows w.ascend needed_one;
      }
