-- A walk up a line, on which nodes are added.
use Rattle.std.proofs.Common.{◌≡◌, ◌⊎◌, inl, inr, ℕ, zero, suc, Bool, true, false, Option, Some, None, is_some, refl, sym, ap, subst, ◌∙◌}
use Rattle.std.specs.FinMap as map
use Rattle.ebs_model.specs.declared.array.Block.{Block}
use Rattle.ebs_lineage.specs.declared.node.Node.{Node}
use Rattle.ebs_lineage.specs.Table.{NodeMap, Table}
use Rattle.ebs_lineage.specs.Lines.{Lines, AreLines, own, own_of, parent_of}
use Rattle.ebs_lineage.specs.Live.{IsLive, IsOnLine, owner, owner_above, up_from}
use Rattle.ebs_lineage.proofs.Liveness.{owner-own}
use Rattle.ebs_collect.specs.Backlogs.{Queue, IsLinked, IsWaiting, IsLoose, IsHidden, IsPlacesAlone, Covers, CoversBut}
use Rattle.ebs_collect.specs.Steps.{IsAdded}
use Rattle.ebs_collect.proofs.Maps.{none_some, some_same, some_of}
use Rattle.ebs_collect.proofs.Adding.{node-there}

up_none : (nodes : NodeMap) (steps : ℕ) → up_from nodes steps None ≡ None
up_none nodes zero = refl
up_none nodes (suc steps) = refl

up_next : (nodes : NodeMap) (steps : ℕ) (at : Option ℕ) (h : ℕ) → up_from nodes steps at ≡ Some h → up_from nodes (suc steps) at ≡ parent_of nodes h
up_next nodes zero None h e = none_some h e
up_next nodes zero (Some a) h e = ap (parent_of nodes) (some_same a h e)
up_next nodes (suc steps) None h e = none_some h e
up_next nodes (suc steps) (Some a) h e = up_next nodes steps (parent_of nodes a) h e

-- so many parents up from there, or from none
abbrev pub IsAbove : NodeMap → Option ℕ → ℕ → Type 0
IsAbove nodes at m = (steps : ℕ) × (up_from nodes steps at ≡ Some m)

-- a backlog, the nodes of whose line have been added up to a place
pub record IsEntered (l : Lines) (n : ℕ) (q : Queue) (m : Lines) (at : Option ℕ) : Type 0 where
  pub linked : IsLinked q m
  pub lines : IsPlacesAlone l m
  pub to : (k i : ℕ) → IsWaiting m k i → IsWaiting l k i ⊎ (IsOnLine l.table.nodes n k × IsLoose l.table.nodes k i)
  pub from : (k i : ℕ) → IsWaiting l k i ⊎ (IsOnLine l.table.nodes n k × IsLoose l.table.nodes k i) → IsWaiting m k i ⊎ (IsAbove l.table.nodes at k × IsLoose l.table.nodes k i)
  pub line : (h : ℕ) → at ≡ Some h → IsOnLine l.table.nodes n h

pub entering : (q : Queue) (l : Lines) (n : ℕ) → IsLinked q l → IsEntered l n q l (Some n)
entering q l n linked = record {
  linked = linked;
  lines = refl;
  to = λ k i w. inl w;
  from = λ k i x. x;
  line = λ h e. (0, e);
}

pub same-table : (l m : Lines) → IsPlacesAlone l m → m.table ≡ l.table
same-table l m lines = ap (λ (x : Lines). x.table) lines

module _ (l : Lines) (n : ℕ) (q r : Queue) (m z : Lines) (at : Option ℕ) (h : ℕ) (is : at ≡ Some h) (entered : IsEntered l n q m at) (added : IsAdded q m h r z) (up : Option ℕ) (above : up ≡ parent_of z.table.nodes h) where
  nodes_z : z.table ≡ l.table
  nodes_z = same-table m z added.lines ∙ same-table l m entered.lines

  loose_l : (k i : ℕ) → IsLoose m.table.nodes k i → IsLoose l.table.nodes k i
  loose_l k i loose = subst (λ (t : Table). IsLoose t.nodes k i) (same-table l m entered.lines) loose

  loose_m : (k i : ℕ) → IsLoose l.table.nodes k i → IsLoose m.table.nodes k i
  loose_m k i loose = subst (λ (t : Table). IsLoose t.nodes k i) (sym (same-table l m entered.lines)) loose

  above_l : up ≡ parent_of l.table.nodes h
  above_l = above ∙ ap (λ (t : Table). parent_of t.nodes h) nodes_z

  to_line : (k i : ℕ) → IsWaiting z k i → IsWaiting l k i ⊎ (IsOnLine l.table.nodes n k × IsLoose l.table.nodes k i)
  to_line k i w = elim (added.to k i w) [
    | inl old ↦ entered.to k i old
    | inr new ↦ inr (subst (λ x. IsOnLine l.table.nodes n x) (sym new.0) (entered.line h is), loose_l k i new.1)
  ]

  step_up : (k i : ℕ) (steps : ℕ) → up_from l.table.nodes steps (Some h) ≡ Some k → IsLoose l.table.nodes k i → IsWaiting z k i ⊎ (IsAbove l.table.nodes up k × IsLoose l.table.nodes k i)
  step_up k i zero e loose = inl (added.from k i (inr (sym (some_same h k e), loose_m k i loose)))
  step_up k i (suc steps) e loose = inr ((steps, ap (up_from l.table.nodes steps) above_l ∙ e), loose)

  from_line : (k i : ℕ) → IsWaiting l k i ⊎ (IsOnLine l.table.nodes n k × IsLoose l.table.nodes k i) → IsWaiting z k i ⊎ (IsAbove l.table.nodes up k × IsLoose l.table.nodes k i)
  from_line k i x = elim (entered.from k i x) [
    | inl w ↦ inl (added.from k i (inl w))
    | inr rest ↦ step_up k i rest.0.0 (ap (up_from l.table.nodes rest.0.0) (sym is) ∙ rest.0.1) rest.1
  ]

  pub entered-more : IsEntered l n r z up
  entered-more = record {
    linked = added.linked;
    lines = added.lines ∙ ap (λ (x : Lines). record x { places = z.places }) entered.lines;
    to = to_line;
    from = from_line;
    line = λ k e. let line = entered.line h is in (suc line.0, up_next l.table.nodes line.0 (Some n) h line.1 ∙ sym above_l ∙ e);
  }

pub entered-whole : (l : Lines) (n : ℕ) (q : Queue) (m : Lines) (at : Option ℕ) → at ≡ None → IsEntered l n q m at → (k i : ℕ) → IsWaiting l k i ⊎ (IsOnLine l.table.nodes n k × IsLoose l.table.nodes k i) → IsWaiting m k i
entered-whole l n q m at none entered k i x = elim (entered.from k i x) [
  | inl w ↦ w
  | inr rest ↦ none_some k (sym (up_none l.table.nodes rest.0.0) ∙ ap (up_from l.table.nodes rest.0.0) (sym none) ∙ rest.0.1)
]

-- what was left out waits now, or a held node keeps it
module _ (l m : Lines) (are : AreLines l.table.nodes l.made) (Left : ℕ → Type 0) (covers : CoversBut l (λ n i. Left n)) (lines : IsPlacesAlone l m) (from : (k i : ℕ) → IsWaiting l k i ⊎ (Left k × IsLoose l.table.nodes k i) → IsWaiting m k i) where
  lives_m : (k i : ℕ) → IsLive l.table.nodes k i → IsLive m.table.nodes k i
  lives_m k i live = subst (λ (t : Table). IsLive t.nodes k i) (sym (same-table l m lines)) live

  held_or_loose : (k i : ℕ) (b : Block) → map.get (own l.table.nodes k) i ≡ Some b → Left k → (x : Node) → map.get l.table.nodes k ≡ Some x → (t : Bool) → x.is_held ≡ t → IsLive m.table.nodes k i ⊎ IsWaiting m k i
  held_or_loose k i b e left x is true held = inl (lives_m k i (k, (x, is, held), owner-own l.table.nodes l.made are i k x b is (sym (ap (λ (o : Option Node). map.get (own_of o) i) is) ∙ e)))
  held_or_loose k i b e left x is false free = inr (from k i (inr (left, record { free = (x, is, free); kept = ap is_some e })))

  covered_at : (k i : ℕ) (b : Block) → map.get (own l.table.nodes k) i ≡ Some b → (IsLive l.table.nodes k i ⊎ IsWaiting l k i) ⊎ Left k → IsLive m.table.nodes k i ⊎ IsWaiting m k i
  covered_at k i b e (inl (inl live)) = inl (lives_m k i live)
  covered_at k i b e (inl (inr w)) = inr (from k i (inl w))
  covered_at k i b e (inr left) =
      let x = some_of (map.get l.table.nodes k) (node-there l.table.nodes k i b e) in
      held_or_loose k i b e left x.0 x.1 x.0.is_held refl

  pub covered : Covers m
  covered k i b e = let was = ap (λ (t : Table). map.get (own t.nodes k) i) (sym (same-table l m lines)) ∙ e in covered_at k i b was (covers k i b was)

-- the one node whose block is hidden
module _ (l : Lines) (n index : ℕ) (q r : Queue) (m : Lines) (keeper : ℕ) (hidden : IsHidden l.table.nodes n index keeper) (added : IsAdded q l keeper r m) where
  pub hidden-to : (k i : ℕ) → IsWaiting m k i → IsWaiting l k i ⊎ (IsHidden l.table.nodes n index k × IsLoose l.table.nodes k i)
  hidden-to k i w = elim (added.to k i w) [
    | inl old ↦ inl old
    | inr new ↦ inr (hidden ∙ ap (λ x. Some x) (sym new.0), new.1)
  ]

  pub hidden-from : (k i : ℕ) → IsWaiting l k i ⊎ (IsHidden l.table.nodes n index k × IsLoose l.table.nodes k i) → IsWaiting m k i
  hidden-from k i (inl w) = added.from k i (inl w)
  hidden-from k i (inr (is, loose)) = added.from k i (inr (some_same k keeper (sym is ∙ hidden), loose))

-- nothing is hidden
pub nothing-hidden : (l : Lines) (n index : ℕ) → None ≡ owner_above (parent_of l.table.nodes n) (owner l.table.nodes index) → (k i : ℕ) → IsWaiting l k i ⊎ (IsHidden l.table.nodes n index k × IsLoose l.table.nodes k i) → IsWaiting l k i
nothing-hidden l n index none k i (inl w) = w
nothing-hidden l n index none k i (inr (is, loose)) = none_some k (none ∙ is)
