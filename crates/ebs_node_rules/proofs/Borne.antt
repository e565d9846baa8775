-- In a forest each node is named or is an ancestor of a node that is.
use Rattle.std.proofs.Common.{◌≡◌, ℕ, suc, zero, ◌+◌, ◌<◌, ◌≤◌, Bool, true, false, ◌&&◌, ◌||◌, eqb, List, [], ◌∷◌, length, get_or, Option, Some, None, refl, ap, subst, ◌∙◌, arith, ⊎_elim, cond}
use Rattle.std.proofs.lemmas.Bool.{and_parts, ltb-true, cases_lt}
use Rattle.std.proofs.lemmas.Bool.Decides.{nat_tests}
use Rattle.std.proofs.lemmas.List.Sums.{AllPass-from_list_all, list_all-from_AllPass}
use Rattle.std.specs.List.{cons_option}
use Rattle.ebs_checkpoints.specs.declared.nodes.NodeRow.{NodeRow}
use Rattle.ebs_checkpoints.specs.declared.checkpoint.Checkpoint.{Checkpoint}
use Rattle.ebs_node_rules.specs.Nodes.{node_of, has_parent, have_parents, stands, parents, names, is_among, are_distinct, are_listed, are_writable, open_are_named, are_needed, is_forest}
use Rattle.ebs_node_rules.specs.inner.Nodes.{nodes_ascend, parent_of, ancestor, BearsName, EachBearsName, needs_each}
use Rattle.ebs_node_rules.proofs.Found.{rises, found_itself}

-- where one of the nodes stands on the number
abbrev Stands : List NodeRow → ℕ → Type 0
Stands nodes n = (j : ℕ) × (j < length nodes) × ((d : NodeRow) → (get_or nodes j d).parent ≡ Some n)

same_number : (m n : ℕ) → eqb m n ≡ true → m ≡ n
same_number m n t = grind (arith, nat_tests)

later : (x : NodeRow) (nodes : List NodeRow) (n : ℕ) → Stands nodes n → Stands (x ∷ nodes) n
later x nodes n (j, l, is) = (suc j, omega arith, is)

standing : (nodes : List NodeRow) (n : ℕ) → is_among (parents nodes) n ≡ true → Stands nodes n
standing [] n h = cc
standing (x ∷ nodes) n h = by x.parent refl h (λ e. later x nodes n (standing nodes n e))
  where
    by : (p : Option ℕ) → x.parent ≡ p → is_among (cons_option p (parents nodes)) n ≡ true → (is_among (parents nodes) n ≡ true → Stands (x ∷ nodes) n) → Stands (x ∷ nodes) n
    by None is e more = more e
    by (Some m) is e more = first (eqb m n) refl e
      where
        first : (b : Bool) → eqb m n ≡ b → (b || is_among (parents nodes) n) ≡ true → Stands (x ∷ nodes) n
        first true t e = (0, omega arith, λ d. is ∙ ap Some (same_number m n t))
        first false t e = more e

module _ (nodes : List NodeRow) (numbers : List ℕ) (up : nodes_ascend nodes ≡ true) (have : have_parents nodes ≡ true) (needed : are_needed nodes (is_among numbers) (is_among (parents nodes)) ≡ true) where
  stands_below : (j : ℕ) (d : NodeRow) (n : ℕ) → j < length nodes → (get_or nodes j d).parent ≡ Some n → n < (get_or nodes j d).number
  stands_below j d n l is =
      let at = AllPass-from_list_all (has_parent nodes) nodes have j d l in
      ltb-true n _ (and_parts _ _ (subst (λ (p : Option ℕ). stands nodes (get_or nodes j d).number p ≡ true) is at)).0

  behind : (j k : ℕ) (d : NodeRow) → k < length nodes → (get_or nodes k d).number < (get_or nodes j d).number → k < j
  behind j k d l h = ⊎_elim
      (λ (after : k < j). after)
      (λ (before : j ≤ k). ⊎_elim
      (λ (less : j < k). let r = rises (λ (x : NodeRow). x.number) nodes j k d up less l in absurd (omega arith))
      (λ (not_less : k ≤ j). let same : j ≡ k = omega arith in let e = ap (λ i. (get_or nodes i d).number) same in absurd (omega arith))
      (cases_lt j k))
      (cases_lt k j)

  step : (j : ℕ) (d : NodeRow) (n : ℕ) → j < length nodes → (get_or nodes j d).parent ≡ Some n → BearsName nodes numbers (get_or nodes j d).number → BearsName nodes numbers n
  step j d n l is (name, steps, named, leads) =
      (name, suc steps, named, ap (λ o. parent_of (node_of nodes o)) leads ∙ ap parent_of (found_itself (λ (x : NodeRow). x.number) nodes j d up l) ∙ is)

  bears : (fuel k : ℕ) (d : NodeRow) → length nodes ≤ k + fuel → k < length nodes → BearsName nodes numbers (get_or nodes k d).number
  bears zero k d enough l = absurd (omega arith)
  bears (suc fuel) k d enough l =
      by (is_among numbers (get_or nodes k d).number) refl (AllPass-from_list_all (λ (x : NodeRow). is_among numbers x.number || is_among (parents nodes) x.number) nodes needed k d l)
      (λ j after in_range. bears fuel j d (omega arith) in_range)
    where
      by : (b : Bool) → is_among numbers (get_or nodes k d).number ≡ b → (b || is_among (parents nodes) (get_or nodes k d).number) ≡ true
          → ((j : ℕ) → k < j → j < length nodes → BearsName nodes numbers (get_or nodes j d).number) → BearsName nodes numbers (get_or nodes k d).number
      by true is e more = ((get_or nodes k d).number, 0, is, refl)
      by false is e more =
          let (j, in_range, on) = standing nodes (get_or nodes k d).number e in
          let after = behind j k d l (stands_below j d (get_or nodes k d).number in_range (on d)) in
          step j d (get_or nodes k d).number in_range (on d) (more j after in_range)

ends : (a b c d e f : Bool) → (a && (b && (c && (d && (e && f))))) ≡ true → (a ≡ true) × (f ≡ true)
ends a b c d e f h =
    let p = and_parts a (b && (c && (d && (e && f)))) h in
    let q = and_parts b (c && (d && (e && f))) p.1 in
    let r = and_parts c (d && (e && f)) q.1 in
    let s = and_parts d (e && f) r.1 in
    (p.0, (and_parts e f s.1).1)

pub each_bears : (point : Checkpoint) → nodes_ascend point.nodes ≡ true → is_forest point ≡ true → EachBearsName point
each_bears point up forest k d l =
    let numbers = names point.snapshots point.volumes in
    let both = ends (have_parents point.nodes) (are_distinct numbers) (are_listed point.nodes numbers) (are_writable point.nodes point.volumes) (open_are_named point.nodes (is_among numbers)) (are_needed point.nodes (is_among numbers) (is_among (parents point.nodes))) forest in
    bears point.nodes numbers up both.0 both.1 (length point.nodes) k d (omega arith) l

or_right : (a b : Bool) → b ≡ true → (a || b) ≡ true
or_right true b h = refl
or_right false b h = h

itself : (n : ℕ) → eqb n n ≡ true
itself n = grind (arith, nat_tests)

among_more : (p : Option ℕ) (ns : List ℕ) (n : ℕ) → is_among ns n ≡ true → is_among (cons_option p ns) n ≡ true
among_more None ns n h = h
among_more (Some m) ns n h = or_right (eqb m n) (is_among ns n) h

among_here : (p : Option ℕ) (ns : List ℕ) (n : ℕ) → p ≡ Some n → is_among (cons_option p ns) n ≡ true
among_here p ns n h = ap (λ o. is_among (cons_option o ns) n) h ∙ ap (λ b. b || is_among ns n) (itself n)

child : (nodes : List NodeRow) (m n : ℕ) → parent_of (node_of nodes (Some m)) ≡ Some n → is_among (parents nodes) n ≡ true
child [] m n h = cc
child (x ∷ nodes) m n h = by (eqb x.number m) h (child nodes m n)
  where
    by : (b : Bool) → parent_of (cond b (Some x) (node_of nodes (Some m))) ≡ Some n → (parent_of (node_of nodes (Some m)) ≡ Some n → is_among (parents nodes) n ≡ true) → is_among (cons_option x.parent (parents nodes)) n ≡ true
    by true e more = among_here x.parent (parents nodes) n e
    by false e more = among_more x.parent (parents nodes) n (more e)

has_child : (nodes : List NodeRow) (at : Option ℕ) (n : ℕ) → parent_of (node_of nodes at) ≡ Some n → is_among (parents nodes) n ≡ true
has_child nodes None n h = cc
has_child nodes (Some m) n h = child nodes m n h

same_name : (m n : ℕ) → Some m ≡ Some n → m ≡ n
same_name m n e = cc

borne : (nodes : List NodeRow) (numbers : List ℕ) (n name steps : ℕ) → is_among numbers name ≡ true → ancestor nodes name steps ≡ Some n → (is_among numbers n || is_among (parents nodes) n) ≡ true
borne nodes numbers n name zero named leads = ap (λ b. b || is_among (parents nodes) n) (subst (λ m. is_among numbers m ≡ true) (same_name name n leads) named)
borne nodes numbers n name (suc steps) named leads = or_right (is_among numbers n) (is_among (parents nodes) n) (has_child nodes (ancestor nodes name steps) n leads)

pub each_needed : (point : Checkpoint) → EachBearsName point → needs_each point ≡ true
each_needed point each =
    let numbers = names point.snapshots point.volumes in
    list_all-from_AllPass (λ (x : NodeRow). is_among numbers x.number || is_among (parents point.nodes) x.number) point.nodes
    (λ k d l. let (name, steps, named, leads) = each k d l in borne point.nodes numbers (get_or point.nodes k d).number name steps named leads)
