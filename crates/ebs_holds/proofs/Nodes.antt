-- What becomes of other holders' nodes by the calls of a lineage.
use Rattle.std.proofs.Common.{◌≡◌, ◌+◌, ℕ, true, false, Bool, Option, Some, None, ◌⊎◌, inl, inr, sym, ap, subst, ◌∙◌}
use Rattle.std.proofs.lemmas.Bool.{false≢true}
use Rattle.std.specs.FinMap as map
use Rattle.ebs_lineage.specs.declared.node.Node.{Node}
use Rattle.ebs_lineage.specs.declared.node_id.NodeId.{NodeId}
use Rattle.ebs_lineage.specs.Table.{NodeMap, changed, closed_node}
use Rattle.ebs_lineage.specs.Lines.{Lines, IsFrozen, IsOpen, new_node, with_nodes, with_new}
use Rattle.ebs_lineage.proofs.Changes.{insert-other, changed-other}
use Rattle.ebs_holds.specs.declared.holder.Holder.{Holder}
use Rattle.ebs_holds.specs.Holders.{is_holder}
use Rattle.ebs_holds.specs.Orders.{exact_holders, holders_total}
use Rattle.ebs_holds.specs.Holds.{HeldBy, Holding, held_in, nodes_in, HasClosed, HasOpen, KeepsNode}
use Rattle.ebs_holds.proofs.Keyed.{cases, off_key}
use Rattle.ebs_holds.proofs.Holding.{old, off_it}
use Rattle.ebs_holds.proofs.Steps.{Stand}

-- ---- nodes that stay

pub keeps_same : (h k : Holding) → nodes_in k ≡ nodes_in h → held_in k ≡ held_in h → (q : Holder) → KeepsNode h k q
keeps_same h k nodes same q = record {
  is_open = λ x. (x.0, ap (λ (m : HeldBy). map.get m q) same ∙ x.1, subst (λ (m : NodeMap). IsOpen m x.0.number) (sym nodes) x.2);
  is_closed = λ x. (x.0, ap (λ (m : HeldBy). map.get m q) same ∙ x.1, subst (λ (m : NodeMap). IsFrozen m x.0.number) (sym nodes) x.2);
}

pub keeps_both : (g h k : Holding) (q : Holder) → KeepsNode g h q → KeepsNode h k q → KeepsNode g k q
keeps_both g h k q first second = record { is_open = λ x. second.is_open (first.is_open x); is_closed = λ x. second.is_closed (first.is_closed x) }

-- the holder has what it had, and its node is as it was
module _ (h k : Holding) (q : Holder) (same : map.get (held_in k) q ≡ map.get (held_in h) q) (stays : (n : NodeId) → map.get (held_in h) q ≡ Some n → map.get (nodes_in k) n.number ≡ map.get (nodes_in h) n.number) where
  pub keeps_node : KeepsNode h k q
  keeps_node = record {
    is_open = λ x. (x.0, same ∙ x.1, (x.2.0, stays x.0 x.1 ∙ x.2.1, x.2.2));
    is_closed = λ x. (x.0, same ∙ x.1, (x.2.0, stays x.0 x.1 ∙ x.2.1, x.2.2));
  }

-- another holder's key
other_key : (q key : Holder) → is_holder q key ≡ false → q ≡ key → ⊥
other_key q key off same = elim (cases holders_total exact_holders q key) [
  | inl t ↦ false≢true (sym off ∙ t.0)
  | inr t ↦ t.1 same
]

filled_other : (held new : HeldBy) (key : Holder) (n : NodeId) (q : Holder) → new ≡ map.insert held key n → is_holder q key ≡ false → map.get new q ≡ map.get held q
filled_other held new key n q fill off = ap (λ (m : HeldBy). map.get m q) fill ∙ off_key holders_total exact_holders held key n q off

-- ---- a node is made

module _ (h k : Holding) (are : Stand h.lines (held_in h)) (key : Holder) (n : NodeId) (up : Option ℕ) (is : k.lines ≡ with_new h.lines up) (fill : held_in k ≡ map.insert (held_in h) key n) where
  pub begun_keeps : (q : Holder) → is_holder q key ≡ false → KeepsNode h k q
  begun_keeps q off = keeps_node h k q (filled_other (held_in h) (held_in k) key n q fill off)
      (λ m has. ap (λ (l : Lines). map.get l.table.nodes m.number) is ∙ insert-other (nodes_in h) h.lines.made (new_node up) m.number (old (nodes_in h) h.lines.made (held_in h) are q m has))

-- ---- a node is closed

module _ (h k : Holding) (are : Stand h.lines (held_in h)) (key : Holder) (n : NodeId) (has : map.get (held_in h) key ≡ Some n) where
  pub sealed_keeps : k.lines ≡ with_nodes h.lines (changed (nodes_in h) n.number (closed_node true)) → held_in k ≡ held_in h → (q : Holder) → is_holder q key ≡ false → KeepsNode h k q
  sealed_keeps is same q off = keeps_node h k q (ap (λ (m : HeldBy). map.get m q) same)
      (λ m there. ap (λ (l : Lines). map.get l.table.nodes m.number) is ∙ changed-other (nodes_in h) n.number (closed_node true) m.number (off_it (nodes_in h) h.lines.made (held_in h) are key n has q m there (other_key q key off)))

  -- and an open child of it takes its place
  pub reopened_keeps : (c : NodeId) (l : Lines) → l ≡ with_new h.lines (Some n.number) → k.lines ≡ with_nodes l (changed l.table.nodes n.number (closed_node false)) → held_in k ≡ map.insert (held_in h) key c
      → (q : Holder) → is_holder q key ≡ false → KeepsNode h k q
  reopened_keeps c l is then fill q off = keeps_node h k q (filled_other (held_in h) (held_in k) key c q fill off)
      (λ m there.
      ap (λ (x : Lines). map.get x.table.nodes m.number) then
      ∙ changed-other l.table.nodes n.number (closed_node false) m.number (off_it (nodes_in h) h.lines.made (held_in h) are key n has q m there (other_key q key off))
      ∙ ap (λ (x : Lines). map.get x.table.nodes m.number) is
      ∙ insert-other (nodes_in h) h.lines.made (new_node (Some n.number)) m.number (old (nodes_in h) h.lines.made (held_in h) are q m there))
