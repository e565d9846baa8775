-- One row less has a node that somebody holds.
use Rattle.std.proofs.Common.{◌≡◌, ℕ, ◌⊎◌, inl, inr, Bool, true, false, not, ◌||◌, cond, eqb, is_some, List, ◌∷◌, Option, Some, None, IsSome, refl, sym, ap, subst, ◌∙◌}
use Rattle.std.specs.Option.{option_map}
use Rattle.std.specs.FinMap as map
use Rattle.ebs_checkpoints.specs.declared.nodes.NodeRow.{NodeRow}
use Rattle.ebs_lineage.specs.declared.node.Node.{Node}
use Rattle.ebs_lineage.specs.Table.{NodeMap, changed, closed_node}
use Rattle.ebs_lineage.specs.Lines.{Lines, array}
use Rattle.ebs_lineage.proofs.Changes.{same_or, changed-here, changed-other}
use Rattle.ebs_node_rules.specs.Nodes.{node_of, open_are_named}
use Rattle.ebs_regrown.specs.Regrown.{Numbers, AreHeld, IsDropped, IsGrown, IsRegrown}
use Rattle.ebs_regrown.proofs.Numbered.{are_above, itself, none_below, passes, same_number}

-- whose hold stays: that of the rows to come, and of what is named
abbrev pub held_by : List NodeRow → (ℕ → Bool) → ℕ → Bool
held_by rest named q = is_some (node_of rest (Some q)) || named q

-- all hold to begin with
pub all_held : (rows : List NodeRow) (named : ℕ → Bool) (numbers : Numbers) (lineage : Lines) → IsRegrown rows (λ q. true) numbers lineage → IsRegrown rows (held_by rows named) numbers lineage
all_held rows named numbers lineage g = record {
  each = λ q row e. subst (λ held. IsGrown numbers lineage.table.nodes held q row) (sym (ap (λ o. is_some o || named q) e)) (g.each q row e);
  arrays = g.arrays;
  listed = g.listed;
  apart = g.apart;
}

module _ (rows rest : List NodeRow) (x : NodeRow) (named : ℕ → Bool) (numbers : Numbers) (lineage : Lines) (g : IsRegrown rows (held_by (x ∷ rest) named) numbers lineage) (listed : node_of rows (Some x.number) ≡ Some x) where
  found_here : node_of (x ∷ rest) (Some x.number) ≡ Some x
  found_here = ap (λ b. cond b (Some x) (node_of rest (Some x.number))) (itself x.number)

  -- the row's node is held
  grown_here : IsGrown numbers lineage.table.nodes true x.number x
  grown_here = subst (λ held. IsGrown numbers lineage.table.nodes held x.number x) (ap (λ o. is_some o || named x.number) found_here) (g.each x.number x listed)

  pub is_held_here : AreHeld lineage.table.nodes (map.get numbers x.number)
  is_held_here = subst (AreHeld lineage.table.nodes) (sym grown_here.numbered) (grown_here.node, grown_here.is, grown_here.kept)

  held_same : (q : ℕ) → eqb x.number q ≡ false → held_by (x ∷ rest) named q ≡ held_by rest named q
  held_same q e = ap (λ b. is_some (cond b (Some x) (node_of rest (Some q))) || named q) e

  -- it is the row that was listed
  same_row : (row : NodeRow) (q : ℕ) → node_of rows (Some q) ≡ Some row → x.number ≡ q → x ≡ row
  same_row row q e same = let one : Some x ≡ Some row = sym listed ∙ ap (λ n. node_of rows (Some n)) same ∙ e in cc

  -- a row that is named keeps its node
  pub kept_named : named x.number ≡ true → IsRegrown rows (held_by rest named) numbers lineage
  kept_named is = record {
    each = λ q row e. by q row e (eqb x.number q) refl;
    arrays = g.arrays;
    listed = g.listed;
    apart = g.apart;
  }
    where
      both : (b : Bool) → (b || true) ≡ true
      both true = refl
      both false = refl

      by : (q : ℕ) (row : NodeRow) → node_of rows (Some q) ≡ Some row → (b : Bool) → eqb x.number q ≡ b → IsGrown numbers lineage.table.nodes (held_by rest named q) q row
      by q row e true t =
          let same = same_number x.number q t in
          let here : held_by rest named q ≡ true = ap (λ b. is_some (node_of rest (Some q)) || b) (ap named (sym same) ∙ is) ∙ both (is_some (node_of rest (Some q))) in
          subst (λ held. IsGrown numbers lineage.table.nodes held q row) (sym here)
          (subst (λ n. IsGrown numbers lineage.table.nodes true n row) same (subst (λ r. IsGrown numbers lineage.table.nodes true x.number r) (same_row row q e same) grown_here))
      by q row e false t = subst (λ held. IsGrown numbers lineage.table.nodes held q row) (held_same q t) (g.each q row e)

  module _ (ascend : are_above x.number rest ≡ true) (open_named : open_are_named rows named ≡ true) (unnamed : named x.number ≡ false) (after : Lines) (dropped : IsDropped lineage (map.get numbers x.number) after)
      (same : (m : ℕ) → array after.table.nodes m ≡ array lineage.table.nodes m) where
    abbrev n : ℕ
    n = grown_here.made

    nodes_are : after.table.nodes ≡ changed lineage.table.nodes n (closed_node false)
    nodes_are = ap (λ (l : Lines). l.table.nodes) (subst (λ o. IsDropped lineage o after) grown_here.numbered dropped)

    not_written : x.writable ≡ false
    not_written = by x.writable (ap (λ b. not x.writable || b) (sym unnamed) ∙ passes (λ row. not row.writable || named row.number) rows x.number x open_named listed)
      where
        by : (w : Bool) → (not w || false) ≡ true → w ≡ false
        by true h = sym h
        by false h = refl

    left : IsGrown numbers after.table.nodes false x.number x
    left = record {
      made = n;
      node = closed_node false grown_here.node;
      numbered = grown_here.numbered;
      is = ap (λ (nodes : NodeMap). map.get nodes n) nodes_are ∙ changed-here lineage.table.nodes n (closed_node false) ∙ ap (option_map (closed_node false)) grown_here.is;
      own = grown_here.own;
      parent = grown_here.parent;
      written = sym not_written;
      kept = refl;
    }

    beside : (q : ℕ) (held : Bool) (row : NodeRow) → (q ≡ x.number → ⊥) → IsGrown numbers lineage.table.nodes held q row → IsGrown numbers after.table.nodes held q row
    beside q held row h grown = record {
      made = grown.made;
      node = grown.node;
      numbered = grown.numbered;
      is = ap (λ (nodes : NodeMap). map.get nodes grown.made) nodes_are ∙ changed-other lineage.table.nodes n (closed_node false) grown.made (λ e. h (g.apart q x.number n (grown.numbered ∙ ap (λ m. Some m) e) grown_here.numbered)) ∙ grown.is;
      own = grown.own;
      parent = grown.parent;
      written = grown.written;
      kept = grown.kept;
    }

    there_before : (m : ℕ) → IsSome (map.get after.table.nodes m) → IsSome (map.get lineage.table.nodes m)
    there_before m h = by (same_or m n)
      where
        some_is : (o : Option Node) → IsSome (option_map (closed_node false) o) → IsSome o
        some_is None h = h
        some_is (Some y) h = refl

        by : (m ≡ n) ⊎ (m ≡ n → ⊥) → IsSome (map.get lineage.table.nodes m)
        by (inl e) = some_is (map.get lineage.table.nodes m) (subst IsSome (ap (λ (nodes : NodeMap). map.get nodes m) nodes_are ∙ ap (map.get (changed lineage.table.nodes n (closed_node false))) e ∙ changed-here lineage.table.nodes n (closed_node false) ∙ ap (λ k. option_map (closed_node false) (map.get lineage.table.nodes k)) (sym e)) h)
        by (inr other) = subst IsSome (ap (λ (nodes : NodeMap). map.get nodes m) nodes_are ∙ changed-other lineage.table.nodes n (closed_node false) m other) h

    -- the node of a row that isn't named is held no more
    pub left_unnamed : IsRegrown rows (held_by rest named) numbers after
    left_unnamed = record {
      each = λ q row e. by q row e (eqb x.number q) refl;
      arrays = λ q. option_same q (map.get numbers q) ∙ g.arrays q;
      listed = λ m h. g.listed m (there_before m h);
      apart = g.apart;
    }
      where
        option_same : (q : ℕ) (o : Option ℕ) → option_map (array after.table.nodes) o ≡ option_map (array lineage.table.nodes) o
        option_same q None = refl
        option_same q (Some m) = ap Some (same m)

        differ : (q : ℕ) → eqb x.number q ≡ false → q ≡ x.number → ⊥
        differ q t e = let is : false ≡ true = sym t ∙ ap (eqb x.number) e ∙ itself x.number in cc

        by : (q : ℕ) (row : NodeRow) → node_of rows (Some q) ≡ Some row → (b : Bool) → eqb x.number q ≡ b → IsGrown numbers after.table.nodes (held_by rest named q) q row
        by q row e true t =
            let is = same_number x.number q t in
            let here : held_by rest named q ≡ false = ap (held_by rest named) (sym is) ∙ ap (λ o. is_some o || named x.number) (none_below rest x.number ascend) ∙ unnamed in
            subst (λ held. IsGrown numbers after.table.nodes held q row) (sym here)
            (subst (λ k. IsGrown numbers after.table.nodes false k row) is (subst (λ r. IsGrown numbers after.table.nodes false x.number r) (same_row row q e is) left))
        by q row e false t = beside q (held_by rest named q) row (differ q t) (subst (λ held. IsGrown numbers lineage.table.nodes held q row) (held_same q t) (g.each q row e))
