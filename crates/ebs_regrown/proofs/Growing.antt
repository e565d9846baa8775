-- One row more has its node.
use Rattle.std.proofs.Common.{◌≡◌, ℕ, ◌+◌, ◌<◌, ◌⊎◌, inl, inr, Bool, true, false, ◌&&◌, cond, eqb, ltb, List, [], ◌∷◌, length, Option, Some, None, IsSome, refl, sym, ap, subst, ◌∙◌, arith}
use Rattle.std.proofs.lemmas.Bool.{and_parts, ltb-true, not-true}
use Rattle.std.proofs.lemmas.Bool.Decides.{nat_tests}
use Rattle.std.specs.List.{list_all}
use Rattle.std.specs.Option.{option_map, unwrap_or}
use Rattle.std.specs.Ordering.{nat_cmp}
use Rattle.std.specs.FinMap as map
use Rattle.std.specs.FinMap.{get-empty}
use Rattle.ebs_checkpoints.specs.declared.nodes.NodeRow.{NodeRow}
use Rattle.ebs_lineage.specs.declared.node.Node.{Node}
use Rattle.ebs_lineage.specs.Table.{NodeMap}
use Rattle.ebs_lineage.specs.Lines.{Lines, IsFrozen, IsHeld, array, of_parent}
use Rattle.ebs_lineage.proofs.Changes.{same_or, insert-here, insert-other}
use Rattle.ebs_node_rules.specs.Nodes.{node_of, has_parent, is_closed, stands}
use Rattle.ebs_node_rules.specs.inner.Nodes.{nodes_ascend}
use Rattle.ebs_node_rules.specs.Arrays.{Array, Arrays, array_in, arrays_of, with_entries, with_nodes}
use Rattle.ebs_regrown.specs.Regrown.{Numbers, AreAlike, HaveArrays, IsAdded, IsGrown, IsOfRow, IsParent, IsRegrown, up}
use Rattle.ebs_regrown.proofs.Numbered.{are_above, none_below, same_number}

-- what stands while some rows are left
pub record IsGrowing (rows rest : List NodeRow) (numbers : Numbers) (lineage : Lines) : Type 0 where
  pub each : (q : ℕ) (row : NodeRow) → node_of rows (Some q) ≡ Some row → (node_of rest (Some q) ≡ Some row) ⊎ IsGrown numbers lineage.table.nodes true q row
  pub arrays : (known : Arrays) × HaveArrays numbers lineage.table.nodes known × (with_nodes known rest ≡ arrays_of rows)
  pub listed : (n : ℕ) → IsSome (map.get lineage.table.nodes n) → IsOfRow rows numbers n
  pub apart : (a b n : ℕ) → map.get numbers a ≡ Some n → map.get numbers b ≡ Some n → a ≡ b
  pub places : lineage.places ≡ map.empty
  pub below : (q n : ℕ) → map.get numbers q ≡ Some n → are_above q rest ≡ true
  pub small : (q n : ℕ) → map.get numbers q ≡ Some n → n < lineage.made
  pub made : lineage.made + length rest ≡ length rows
  pub ascend : nodes_ascend rest ≡ true
  pub parents : list_all (has_parent rows) rest ≡ true

none_in : {X : Type 0} (o : Option X) (x : X) → o ≡ None → o ≡ Some x → ⊥
none_in o x a b = let no : None ≡ Some x = sym a ∙ b in cc

none_some : IsSome {T = Node} None → ⊥
none_some h = cc

-- nothing has a node yet
pub none_grown : (rows : List NodeRow) (numbers : Numbers) (lineage : Lines) → numbers ≡ map.empty → lineage.table.nodes ≡ map.empty → lineage.made ≡ 0 → lineage.places ≡ map.empty
    → nodes_ascend rows ≡ true → list_all (has_parent rows) rows ≡ true → IsGrowing rows rows numbers lineage
none_grown rows numbers lineage none no_nodes no_made no_places ascend parents =
    let nothing : (q n : ℕ) → map.get numbers q ≡ Some n → ⊥ = λ q n e. none_in (map.get numbers q) n (ap (λ (m : Numbers). map.get m q) none ∙ get-empty nat_cmp q) e in
    let nobody : (n : ℕ) → map.get lineage.table.nodes n ≡ None = λ n. ap (λ (m : NodeMap). map.get m n) no_nodes ∙ get-empty nat_cmp n in
    record {
      each = λ q row e. inl e;
      arrays = (map.empty, λ q. ap (option_map (array lineage.table.nodes)) (ap (λ (m : Numbers). map.get m q) none ∙ get-empty nat_cmp q) ∙ sym (get-empty nat_cmp q), refl);
      listed = λ n there. absurd (none_some (subst IsSome (nobody n) there));
      apart = λ a b n e f. absurd (nothing a n e);
      places = no_places;
      below = λ q n e. absurd (nothing q n e);
      small = λ q n e. absurd (nothing q n e);
      made = let none = no_made in omega (arith, none);
      ascend = ascend;
      parents = parents;
    }

-- all have one
pub all_grown : (rows : List NodeRow) (numbers : Numbers) (lineage : Lines) → IsGrowing rows [] numbers lineage → IsRegrown rows (λ q. true) numbers lineage
all_grown rows numbers lineage g = record {
  each = λ q row e. by q row (g.each q row e);
  arrays = subst (HaveArrays numbers lineage.table.nodes) g.arrays.2 g.arrays.1;
  listed = g.listed;
  apart = g.apart;
}
  where
    by : (q : ℕ) (row : NodeRow) → (node_of [] (Some q) ≡ Some row) ⊎ IsGrown numbers lineage.table.nodes true q row → IsGrown numbers lineage.table.nodes true q row
    by q row (inl e) = absurd (none_in None row refl e)
    by q row (inr grown) = grown

-- a parent's node is there, held and frozen
module _ (rows rest : List NodeRow) (x : NodeRow) (numbers : Numbers) (lineage : Lines) (g : IsGrowing rows (x ∷ rest) numbers lineage) where
  row_above : are_above x.number rest ≡ true
  row_above = (and_parts _ _ g.ascend).0

  lower : (ys : List NodeRow) (m n : ℕ) → m < n → are_above n ys ≡ true → are_above m ys ≡ true
  lower [] m n l h = refl
  lower (y ∷ ys) m n l h =
      let up : n < y.number = ltb-true n y.number (and_parts _ _ h).0 in
      let here : ltb m y.number ≡ true = grind (arith, nat_tests) in
      (λ i. here i && lower ys m n l (and_parts _ _ h).1 i)

  all_above : (q : ℕ) → q < x.number → are_above q (x ∷ rest) ≡ true
  all_above q l = let here : ltb q x.number ≡ true = grind (arith, nat_tests) in (λ i. here i && lower rest q x.number l row_above i)

  seen : (q : ℕ) (row : NodeRow) → q < x.number → node_of rows (Some q) ≡ Some row → IsGrown numbers lineage.table.nodes true q row
  seen q row l e = by (g.each q row e)
    where
      by : (node_of (x ∷ rest) (Some q) ≡ Some row) ⊎ IsGrown numbers lineage.table.nodes true q row → IsGrown numbers lineage.table.nodes true q row
      by (inl later) = absurd (none_in (node_of (x ∷ rest) (Some q)) row (none_below (x ∷ rest) q (all_above q l)) later)
      by (inr grown) = grown

  parent_by : (q : ℕ) → q < x.number → (o : Option NodeRow) → node_of rows (Some q) ≡ o → is_closed o ≡ true → IsParent numbers lineage.table.nodes (Some q)
  parent_by q l None e closed = absurd (cc)
  parent_by q l (Some row) e closed =
      let grown = seen q row l e in
      (grown.made, grown.numbered, (grown.node, grown.is, grown.written ∙ not-true row.writable closed), (grown.node, grown.is, grown.kept))

  stands_on : (o : Option ℕ) → stands rows x.number o ≡ true → IsParent numbers lineage.table.nodes o
  stands_on None h = tt
  stands_on (Some q) h = parent_by q (ltb-true q x.number (and_parts _ _ h).0) (node_of rows (Some q)) refl (and_parts _ _ h).1

  pub has_parent_here : IsParent numbers lineage.table.nodes x.parent
  has_parent_here = stands_on x.parent (and_parts _ _ g.parents).0

  -- the row's number is new
  unknown : (n : ℕ) → map.get numbers x.number ≡ Some n → ⊥
  unknown n e = let low : x.number < x.number = ltb-true x.number x.number (and_parts _ _ (g.below x.number n e)).0 in absurd (omega (arith, low))

  known_apart : (q n : ℕ) → map.get numbers q ≡ Some n → q ≡ x.number → ⊥
  known_apart q n e same = unknown n (ap (map.get numbers) (sym same) ∙ e)

  abbrev made : ℕ
  made = lineage.made

  module _ (found : node_of rows (Some x.number) ≡ Some x) (more : Numbers) (after : Lines) (a : IsAdded numbers lineage x more after) where
    here : map.get more x.number ≡ Some made
    here = ap (λ (m : Numbers). map.get m x.number) a.numbers ∙ insert-here numbers x.number made

    there : (q : ℕ) → (q ≡ x.number → ⊥) → map.get more q ≡ map.get numbers q
    there q h = ap (λ (m : Numbers). map.get m q) a.numbers ∙ insert-other numbers x.number made q h

    stays : (q n : ℕ) → map.get numbers q ≡ Some n → map.get more q ≡ Some n
    stays q n e = there q (known_apart q n e) ∙ e

    not_made : (q n : ℕ) → map.get numbers q ≡ Some n → n ≡ made → ⊥
    not_made q n e same = let low : n < lineage.made = g.small q n e in absurd (omega (arith, low, same))

    -- what has a number is the row's, or had it
    was : (q n : ℕ) → map.get more q ≡ Some n → ((q ≡ x.number) × (n ≡ made)) ⊎ (map.get numbers q ≡ Some n)
    was q n e = by (same_or q x.number)
      where
        by : (q ≡ x.number) ⊎ (q ≡ x.number → ⊥) → ((q ≡ x.number) × (n ≡ made)) ⊎ (map.get numbers q ≡ Some n)
        by (inl same) = let one : Some n ≡ Some made = sym e ∙ ap (map.get more) same ∙ here in inl (same, cc)
        by (inr h) = inr (sym (there q h) ∙ e)

    alike : (p m : Option ℕ) → AreAlike numbers p m → AreAlike more p m
    alike None None h = tt
    alike None (Some n) h = h
    alike (Some q) None h = h
    alike (Some q) (Some n) h = stays q n h

    kept : (q : ℕ) (row : NodeRow) → IsGrown numbers lineage.table.nodes true q row → IsGrown more after.table.nodes true q row
    kept q row grown = record {
      made = grown.made;
      node = grown.node;
      numbered = stays q grown.made grown.numbered;
      is = a.others grown.made (not_made q grown.made grown.numbered) ∙ grown.is;
      own = grown.own;
      parent = alike row.parent grown.node.parent grown.parent;
      written = grown.written;
      kept = grown.kept;
    }

    parents_alike : (p m : Option ℕ) → m ≡ up numbers p → IsParent numbers lineage.table.nodes p → AreAlike more p m
    parents_alike None None e h = tt
    parents_alike None (Some n) e h = absurd (none_in None n refl (sym e))
    parents_alike (Some q) None e h = absurd (none_in None h.0 refl (e ∙ h.1))
    parents_alike (Some q) (Some n) e h = stays q n (sym e)

    new : IsGrown more after.table.nodes true x.number x
    new = record {
      made = made;
      node = a.node.0;
      numbered = here;
      is = a.node.1;
      own = a.node.2;
      parent = parents_alike x.parent a.node.0.parent a.node.3 has_parent_here;
      written = a.node.5;
      kept = a.node.4;
    }

    each_more : (q : ℕ) (row : NodeRow) → (node_of (x ∷ rest) (Some q) ≡ Some row) ⊎ IsGrown numbers lineage.table.nodes true q row → (node_of rest (Some q) ≡ Some row) ⊎ IsGrown more after.table.nodes true q row
    each_more q row (inr grown) = inr (kept q row grown)
    each_more q row (inl e) = by (eqb x.number q) refl e
      where
        by : (b : Bool) → eqb x.number q ≡ b → cond b (Some x) (node_of rest (Some q)) ≡ Some row → (node_of rest (Some q) ≡ Some row) ⊎ IsGrown more after.table.nodes true q row
        by true is e = let same : x ≡ row = cc in inr (subst (λ n. IsGrown more after.table.nodes true n row) (same_number x.number q is) (subst (λ r. IsGrown more after.table.nodes true x.number r) same new))
        by false is e = inl e

    -- the row's array is its entries over its parent's
    module _ (known : Arrays) (have : HaveArrays numbers lineage.table.nodes known) where
      abbrev next : Array
      next = with_entries (array_in known x.parent) x.entries

      one_above : (f : ℕ → Array) (o : Option ℕ) (b : Option Array) → option_map f o ≡ b → of_parent o f ≡ unwrap_or b map.empty
      one_above f None None e = refl
      one_above f None (Some b) e = absurd (none_in None b refl e)
      one_above f (Some n) None e = absurd (none_in None (f n) refl (sym e))
      one_above f (Some n) (Some b) e = let same : f n ≡ b = cc in same

      above : (p : Option ℕ) → of_parent (up numbers p) (array lineage.table.nodes) ≡ array_in known p
      above None = refl
      above (Some q) = one_above (array lineage.table.nodes) (map.get numbers q) (map.get known q) (have q)

      kept_array : (q : ℕ) (o : Option ℕ) → map.get numbers q ≡ o → option_map (array after.table.nodes) o ≡ option_map (array lineage.table.nodes) o
      kept_array q None e = refl
      kept_array q (Some n) e = ap Some (a.arrays n (not_made q n e))

      pub have_more : HaveArrays more after.table.nodes (map.insert known x.number next)
      have_more q = by (same_or q x.number)
        where
          by : (q ≡ x.number) ⊎ (q ≡ x.number → ⊥) → option_map (array after.table.nodes) (map.get more q) ≡ map.get (map.insert known x.number next) q
          by (inl same) =
              ap (λ n. option_map (array after.table.nodes) (map.get more n)) same ∙ ap (option_map (array after.table.nodes)) here
              ∙ ap Some (a.array ∙ ap (λ below. with_entries below x.entries) (above x.parent))
              ∙ sym (ap (map.get (map.insert known x.number next)) same ∙ insert-here known x.number next)
          by (inr h) =
              ap (option_map (array after.table.nodes)) (there q h) ∙ kept_array q (map.get numbers q) refl ∙ have q
              ∙ sym (insert-other known x.number next q h)

    listed_more : (n : ℕ) → IsSome (map.get after.table.nodes n) → IsOfRow rows more n
    listed_more n h = by (same_or n made)
      where
        by : (n ≡ made) ⊎ (n ≡ made → ⊥) → IsOfRow rows more n
        by (inl same) = record { number = x.number; row = x; found = found; numbered = here ∙ ap (λ m. Some m) (sym same) }
        by (inr other) =
            let old = g.listed n (subst IsSome (a.others n other) h) in
            record { number = old.number; row = old.row; found = old.found; numbered = stays old.number n old.numbered }

    apart_more : (p q n : ℕ) → map.get more p ≡ Some n → map.get more q ≡ Some n → p ≡ q
    apart_more p q n e f = by (was p n e) (was q n f)
      where
        by : ((p ≡ x.number) × (n ≡ made)) ⊎ (map.get numbers p ≡ Some n) → ((q ≡ x.number) × (n ≡ made)) ⊎ (map.get numbers q ≡ Some n) → p ≡ q
        by (inl s) (inl t) = s.0 ∙ sym t.0
        by (inl s) (inr t) = absurd (not_made q n t s.1)
        by (inr s) (inl t) = absurd (not_made p n s t.1)
        by (inr s) (inr t) = g.apart p q n s t

    below_more : (q n : ℕ) → map.get more q ≡ Some n → are_above q rest ≡ true
    below_more q n e = by (was q n e)
      where
        by : ((q ≡ x.number) × (n ≡ made)) ⊎ (map.get numbers q ≡ Some n) → are_above q rest ≡ true
        by (inl s) = ap (λ m. are_above m rest) s.0 ∙ row_above
        by (inr s) = (and_parts _ _ (g.below q n s)).1

    small_more : (q n : ℕ) → map.get more q ≡ Some n → n < after.made
    small_more q n e = by (was q n e)
      where
        by : ((q ≡ x.number) × (n ≡ made)) ⊎ (map.get numbers q ≡ Some n) → n < after.made
        by (inl s) = let one = a.made in let same = s.1 in omega (arith, one, same)
        by (inr s) = let one = a.made in let low = g.small q n s in omega (arith, one, low)

    pub one_more : IsGrowing rows rest more after
    one_more = record {
      each = λ q row e. each_more q row (g.each q row e);
      arrays = (map.insert g.arrays.0 x.number (next g.arrays.0 g.arrays.1), have_more g.arrays.0 g.arrays.1, g.arrays.2);
      listed = listed_more;
      apart = apart_more;
      places = a.places ∙ g.places;
      below = below_more;
      small = small_more;
      made = let one = a.made in let all = g.made in omega (arith, one, all);
      ascend = (and_parts _ _ g.ascend).1;
      parents = (and_parts _ _ g.parents).1;
    }

-- The parent's node, as it is looked up.
pub parent_is : (numbers : Numbers) (nodes : NodeMap) (p o : Option ℕ) (n : ℕ) → o ≡ up numbers p → o ≡ Some n → IsParent numbers nodes p → IsFrozen nodes n × IsHeld nodes n
parent_is numbers nodes None o n e f h = absurd (none_in (up numbers None) n refl (sym e ∙ f))
parent_is numbers nodes (Some q) o n e f h =
    let one : Some h.0 ≡ Some n = sym h.1 ∙ sym e ∙ f in
    let same : h.0 ≡ n = cc in
    (subst (IsFrozen nodes) same h.2, subst (IsHeld nodes) same h.3)
