-- The array of a node is its parent's with its own entries, also when all nodes have been seen.
use Rattle.std.proofs.Common.{◌≡◌, ℕ, suc, ◌<◌, Bool, true, false, ◌&&◌, cond, eqb, ltb, List, [], ◌∷◌, Option, Some, None, refl, sym, ap, subst, ◌∙◌, arith}
use Rattle.std.proofs.lemmas.Bool.{and_parts, ltb-true}
use Rattle.std.proofs.lemmas.Bool.Decides.{nat_tests}
use Rattle.std.specs.List.{list_all, find}
use Rattle.std.specs.Option.{unwrap_or}
use Rattle.std.specs.Ordering.{nat_cmp}
use Rattle.std.specs.Cmp.{nat_cmp_total}
use Rattle.std.specs.FinMap.{get, insert, empty, get-insert, get-empty}
use Rattle.ebs_model.specs.declared.array.Block.{Block}
use Rattle.ebs_checkpoints.specs.declared.nodes.NodeRow.{NodeRow}
use Rattle.ebs_node_rules.specs.Nodes.{node_of, has_parent, stands}
use Rattle.ebs_node_rules.specs.inner.Nodes.{ascends}
use Rattle.ebs_node_rules.specs.Arrays.{Array, Arrays, all_keys, array_in, arrays_of, with_nodes, with_entries}
use Rattle.ebs_node_rules.specs.inner.Lookups.{AreChained, own_block}
use Rattle.ebs_node_rules.proofs.Marks.{alike}
use Rattle.ebs_node_rules.proofs.Keyed.{all-empty, all-entries, get-entries, own_or}

abbrev pub at_number : List NodeRow → ℕ → Option NodeRow
at_number nodes number = find (λ (node : NodeRow). eqb node.number number) nodes

same_number : (m n : ℕ) → eqb m n ≡ true → m ≡ n
same_number m n t = grind (arith, nat_tests)

other : (m n : ℕ) → m < n → eqb n m ≡ false
other m n l = grind (arith, nat_tests)

is_number : (nodes : List NodeRow) (q : ℕ) (node : NodeRow) → at_number nodes q ≡ Some node → node.number ≡ q
is_number [] q node h = cc
is_number (x ∷ nodes) q node h = by (eqb x.number q) refl h (is_number nodes q node)
  where
    by : (b : Bool) → eqb x.number q ≡ b → cond b (Some x) (at_number nodes q) ≡ Some node → (at_number nodes q ≡ Some node → node.number ≡ q) → node.number ≡ q
    by true is e more = let same : x ≡ node = cc in ap (λ (n : NodeRow). n.number) (sym same) ∙ same_number x.number q is
    by false is e more = more e

-- what all nodes pass, the one that is found passes
passes : (p : NodeRow → Bool) (nodes : List NodeRow) (q : ℕ) (node : NodeRow) → list_all p nodes ≡ true → at_number nodes q ≡ Some node → p node ≡ true
passes p [] q node all h = cc
passes p (x ∷ nodes) q node all h = by (eqb x.number q) h (passes p nodes q node (and_parts _ _ all).1)
  where
    by : (b : Bool) → cond b (Some x) (at_number nodes q) ≡ Some node → (at_number nodes q ≡ Some node → p node ≡ true) → p node ≡ true
    by true e more = let same : x ≡ node = cc in ap p (sym same) ∙ (and_parts _ _ all).0
    by false e more = more e

-- none has a number that is below all
none_below : (nodes : List NodeRow) (q : ℕ) → list_all (λ node. ltb q node.number) nodes ≡ true → at_number nodes q ≡ None
none_below [] q h = refl
none_below (x ∷ nodes) q h =
    ap (λ b. cond b (Some x) (at_number nodes q)) (other q x.number (ltb-true q x.number (and_parts _ _ h).0)) ∙ none_below nodes q (and_parts _ _ h).1

lower : (nodes : List NodeRow) (m n : ℕ) → m < n → list_all (λ node. ltb n node.number) nodes ≡ true → list_all (λ node. ltb m node.number) nodes ≡ true
lower [] m n l h = refl
lower (x ∷ nodes) m n l h =
    let up = ltb-true n x.number (and_parts _ _ h).0 in
    let here : ltb m x.number ≡ true = grind (arith, nat_tests) in
    (λ i. here i && lower nodes m n l (and_parts _ _ h).1 i)

abbrev is_under : ℕ → Option ℕ → Bool
is_under number None = true
is_under number (Some parent) = ltb parent number

-- a number that no node has keeps the array that it had
untouched : (K : Arrays) (nodes : List NodeRow) (q : ℕ) → at_number nodes q ≡ None → get (with_nodes K nodes) q ≡ get K q
untouched K [] q h = refl
untouched K (x ∷ nodes) q h = by (eqb x.number q) refl h (untouched (insert K x.number (with_entries (array_in K x.parent) x.entries)) nodes q)
  where
    W : Array
    W = with_entries (array_in K x.parent) x.entries

    by : (b : Bool) → eqb x.number q ≡ b → cond b (Some x) (at_number nodes q) ≡ None → (at_number nodes q ≡ None → get (with_nodes (insert K x.number (with_entries (array_in K x.parent) x.entries)) nodes) q ≡ get (insert K x.number (with_entries (array_in K x.parent) x.entries)) q) → get (with_nodes (insert K x.number (with_entries (array_in K x.parent) x.entries)) nodes) q ≡ get K q
    by true is e more = cc
    by false is e more = more e ∙ get-insert nat_cmp_total K x.number (with_entries (array_in K x.parent) x.entries) q ∙ ap (λ b. cond b (Some (with_entries (array_in K x.parent) x.entries)) (get K q)) (alike q x.number ∙ is)

-- nor does one that is below all
abbrev after : Arrays → NodeRow → Arrays
after K x = insert K x.number (with_entries (array_in K x.parent) x.entries)

kept_below : (K : Arrays) (x : NodeRow) (nodes : List NodeRow) (q : ℕ) → q < x.number → list_all (λ node. ltb x.number node.number) nodes ≡ true → get (with_nodes (after K x) nodes) q ≡ get K q
kept_below K x nodes q l h =
    untouched (after K x) nodes q (none_below nodes q (lower nodes q x.number l h))
    ∙ get-insert nat_cmp_total K x.number (with_entries (array_in K x.parent) x.entries) q
    ∙ ap (λ b. cond b (Some (with_entries (array_in K x.parent) x.entries)) (get K q)) (alike q x.number ∙ other q x.number l)

parent_kept : (K : Arrays) (x : NodeRow) (nodes : List NodeRow) (parent : Option ℕ) → is_under x.number parent ≡ true → list_all (λ node. ltb x.number node.number) nodes ≡ true → array_in (with_nodes (after K x) nodes) parent ≡ array_in K parent
parent_kept K x nodes None u h = refl
parent_kept K x nodes (Some parent) u h = ap (λ o. unwrap_or o empty) (kept_below K x nodes parent (ltb-true parent x.number u) h)

abbrev IsSettled : Arrays → ℕ → NodeRow → Type 0
IsSettled A q node = get A q ≡ Some (with_entries (array_in A node.parent) node.entries)

itself : (n : ℕ) → eqb n n ≡ true
itself n = grind (arith, nat_tests)

last_of : (K : Arrays) (x : NodeRow) (nodes : List NodeRow) → is_under x.number x.parent ≡ true → list_all (λ node. ltb x.number node.number) nodes ≡ true
    → IsSettled (with_nodes (after K x) nodes) x.number x
last_of K x nodes u h =
    untouched (after K x) nodes x.number (none_below nodes x.number h)
    ∙ get-insert nat_cmp_total K x.number (with_entries (array_in K x.parent) x.entries) x.number
    ∙ ap (λ b. cond b (Some (with_entries (array_in K x.parent) x.entries)) (get K x.number)) (alike x.number x.number ∙ itself x.number)
    ∙ ap (λ a. Some (with_entries a x.entries)) (sym (parent_kept K x nodes x.parent u h))

-- what a node has in the end is its parent's array in the end, with its own entries
settled : (K : Arrays) (nodes : List NodeRow) (q : ℕ) (node : NodeRow) → ascends (λ x. x.number) nodes ≡ true → list_all (λ x. is_under x.number x.parent) nodes ≡ true → at_number nodes q ≡ Some node
    → IsSettled (with_nodes K nodes) q node
settled K [] q node a u h = cc
settled K (x ∷ nodes) q node a u h = by (eqb x.number q) refl h (settled (after K x) nodes q node (and_parts _ _ a).1 (and_parts _ _ u).1)
  where
    by : (b : Bool) → eqb x.number q ≡ b → cond b (Some x) (at_number nodes q) ≡ Some node → (at_number nodes q ≡ Some node → IsSettled (with_nodes (after K x) nodes) q node) → IsSettled (with_nodes (after K x) nodes) q node
    by true is e more = let same : x ≡ node = cc in subst (λ n. IsSettled (with_nodes (after K x) nodes) n node) (same_number x.number q is) (subst (λ y. IsSettled (with_nodes (after K x) nodes) x.number y) same (last_of K x nodes (and_parts _ _ u).0 (and_parts _ _ a).0))
    by false is e more = more e

under : (nodes : List NodeRow) (number : ℕ) (parent : Option ℕ) → stands nodes number parent ≡ true → is_under number parent ≡ true
under nodes number None h = refl
under nodes number (Some parent) h = (and_parts _ _ h).0

all_under : (nodes all : List NodeRow) → list_all (has_parent all) nodes ≡ true → list_all (λ x. is_under x.number x.parent) nodes ≡ true
all_under [] all h = refl
all_under (x ∷ nodes) all h = (λ i. under all x.number x.parent (and_parts _ _ h).0 i && all_under nodes all (and_parts _ _ h).1 i)

-- how far a walk to the root can go
abbrev pub height : Option ℕ → ℕ
height None = 0
height (Some number) = suc number

lower_parent : (number : ℕ) (parent : Option ℕ) → is_under number parent ≡ true → height parent < suc number
lower_parent number None h = omega arith
lower_parent number (Some parent) h = let l = ltb-true parent number h in omega arith

module _ (nodes : List NodeRow) (chained : AreChained nodes) where
  pub falls : (at : Option ℕ) (node : NodeRow) → node_of nodes at ≡ Some node → height node.parent < height at
  falls None node h = cc
  falls (Some n) node h =
      let number = is_number nodes n node h in
      let under = passes (λ x. is_under x.number x.parent) nodes n node (all_under nodes nodes chained.parents) h in
      subst (λ m. height node.parent < suc m) number (lower_parent node.number node.parent under)

  pub entries_ascend : (at : Option ℕ) (node : NodeRow) → node_of nodes at ≡ Some node → ascends (λ e. e.index) node.entries ≡ true
  entries_ascend None node h = cc
  entries_ascend (Some n) node h = passes (λ x. ascends (λ e. e.index) x.entries) nodes n node chained.entries h

  pub array_is : (at : Option ℕ) (node : NodeRow) → node_of nodes at ≡ Some node → array_in (arrays_of nodes) at ≡ with_entries (array_in (arrays_of nodes) node.parent) node.entries
  array_is None node h = cc
  array_is (Some n) node h = ap (λ o. unwrap_or o empty) (settled empty nodes n node chained.ascend (all_under nodes nodes chained.parents) h)

  pub array_none : (at : Option ℕ) → node_of nodes at ≡ None → array_in (arrays_of nodes) at ≡ empty
  array_none None h = refl
  array_none (Some n) h = ap (λ o. unwrap_or o empty) (untouched empty nodes n h ∙ get-empty nat_cmp n)

  pub block_more : (at : Option ℕ) (node : NodeRow) (q : ℕ) → node_of nodes at ≡ Some node → get (array_in (arrays_of nodes) at) q ≡ own_or (own_block node.entries q) (get (array_in (arrays_of nodes) node.parent) q)
  block_more at node q h = ap (λ a. get a q) (array_is at node h) ∙ get-entries node.entries (array_in (arrays_of nodes) node.parent) q (entries_ascend at node h)

  pub keys_more : (p : ℕ → Bool) (at : Option ℕ) (node : NodeRow) → node_of nodes at ≡ Some node → all_keys p (array_in (arrays_of nodes) at) ≡ (list_all (λ e. p e.index) node.entries && all_keys p (array_in (arrays_of nodes) node.parent))
  keys_more p at node h = ap (all_keys p) (array_is at node h) ∙ all-entries p node.entries (array_in (arrays_of nodes) node.parent)

  pub block_here : (at : Option ℕ) (node : NodeRow) (q : ℕ) (x : Block) → node_of nodes at ≡ Some node → own_block node.entries q ≡ Some x → Some x ≡ get (array_in (arrays_of nodes) at) q
  block_here at node q x h is = sym (block_more at node q h ∙ ap (λ o. own_or o (get (array_in (arrays_of nodes) node.parent) q)) is)

  pub block_above : (at : Option ℕ) (node : NodeRow) (q : ℕ) → node_of nodes at ≡ Some node → own_block node.entries q ≡ None → get (array_in (arrays_of nodes) node.parent) q ≡ get (array_in (arrays_of nodes) at) q
  block_above at node q h is = sym (block_more at node q h ∙ ap (λ o. own_or o (get (array_in (arrays_of nodes) node.parent) q)) is)

  pub block_none : (at : Option ℕ) (q : ℕ) → node_of nodes at ≡ None → None ≡ get (array_in (arrays_of nodes) at) q
  block_none at q h = sym (ap (λ a. get a q) (array_none at h) ∙ get-empty nat_cmp q)

  pub keys_here : (p : ℕ → Bool) (at : Option ℕ) (node : NodeRow) → node_of nodes at ≡ Some node → list_all (λ e. p e.index) node.entries ≡ false → false ≡ all_keys p (array_in (arrays_of nodes) at)
  keys_here p at node h is = sym (keys_more p at node h ∙ ap (λ b. b && all_keys p (array_in (arrays_of nodes) node.parent)) is)

  pub keys_above : (p : ℕ → Bool) (at : Option ℕ) (node : NodeRow) → node_of nodes at ≡ Some node → list_all (λ e. p e.index) node.entries ≡ true → all_keys p (array_in (arrays_of nodes) node.parent) ≡ all_keys p (array_in (arrays_of nodes) at)
  keys_above p at node h is = sym (keys_more p at node h ∙ ap (λ b. b && all_keys p (array_in (arrays_of nodes) node.parent)) is)

  pub keys_none : (p : ℕ → Bool) (at : Option ℕ) → node_of nodes at ≡ None → true ≡ all_keys p (array_in (arrays_of nodes) at)
  keys_none p at h = sym (ap (all_keys p) (array_none at h) ∙ all-empty p)
