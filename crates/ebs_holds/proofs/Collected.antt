-- The holders' arrays, and the slots of their blocks.
use Rattle.std.proofs.Common.{◌≡◌, ℕ, true, Option, Some, None, IsSome, refl, sym, ap, subst, ◌∙◌}
use Rattle.std.specs.Option.{option_map}
use Rattle.std.specs.Ordering.{nat_cmp}
use Rattle.std.specs.FinMap as map
use Rattle.ebs_model.specs.declared.array.Block.{Block}
use Rattle.ebs_lineage.specs.declared.node.Node.{Node}
use Rattle.ebs_lineage.specs.declared.node_id.NodeId.{NodeId}
use Rattle.ebs_lineage.specs.Lines.{Lines, AreLines, IsHeld, own}
use Rattle.ebs_lineage.specs.Reached.{FinishedKeepsReached, HasStamp, IsCollected, IsReached, ReachedIsKept}
use Rattle.ebs_slots.specs.inner.Slots.{SlotTable}
use Rattle.ebs_collect.specs.Slices.{bare, IsCounted, Leaves}
use Rattle.ebs_holds.specs.declared.holder.Holder.{Holder}
use Rattle.ebs_holds.specs.Holds.{HeldBy, array_of_node}
use Rattle.ebs_holds.proofs.Holding.{node, arrays_keep}
use Rattle.ebs_holds.proofs.Steps.{Stand, at}

none_some : {A B : Type 0} (a : A) → None ≡ Some a → B
none_some a e = absurd (cc)

some_same : {A : Type 0} (a b : A) → Some a ≡ Some b → a ≡ b
some_same a b e = cc

-- ---- after a slice

held_as : (o p : Option Node) → option_map bare o ≡ option_map bare p → (x : Node) → p ≡ Some x → x.is_held ≡ true → (y : Node) × (o ≡ Some y) × (y.is_held ≡ true)
held_as None p e x is h = none_some (bare x) (e ∙ ap (option_map bare) is)
held_as (Some y) p e x is h = (y, refl, ap (λ (z : Node). z.is_held) (some_same (bare y) (bare x) (e ∙ ap (option_map bare) is)) ∙ h)

module _ (l m : Lines) (held : HeldBy) (are : Stand l held) (leaves : Leaves l m) (lines : AreLines m.table.nodes m.made) where
  held_still : (n : ℕ) → IsHeld l.table.nodes n → IsHeld m.table.nodes n
  held_still n (x, is, h) = held_as (map.get m.table.nodes n) (map.get l.table.nodes n) (leaves.nodes n) x is h

  held_already : (n : ℕ) → IsHeld m.table.nodes n → IsHeld l.table.nodes n
  held_already n (x, is, h) = held_as (map.get l.table.nodes n) (map.get m.table.nodes n) (sym (leaves.nodes n)) x is h

  pub sliced_stand : Stand m held
  sliced_stand = record {
    lines = lines;
    apart = are.apart;
    there = λ q n e. held_still n.number (are.there q n e);
    only = λ n h. are.only n (held_already n.number h);
  }

  pub sliced_at : (q : Holder) → at m held q ≡ at l held q
  sliced_at q = arrays_keep l.table.nodes m.table.nodes held (λ k n e. leaves.arrays n.number (are.there k n e)) q

-- ---- slots

module _ (l : Lines) (held : HeldBy) (are : Stand l held) (s : SlotTable) (counted : IsCounted s l.table.nodes) where
  pub sliced_shared : FinishedKeepsReached → IsCollected l.table.nodes → (stamp : ℕ) → IsSome (map.get s.keys stamp) → (q : Holder) × HasStamp (at l held q) stamp
  sliced_shared law collected stamp has =
      let reached : IsReached l.table.nodes stamp = (law l.table.nodes s.keys counted.slotted collected stamp).0 has in
      let keeper = are.only (node reached.node) reached.held in
      (keeper.0, subst (λ (o : Option NodeId). HasStamp (array_of_node l.table.nodes o) stamp) (sym keeper.1) reached.has)

  pub block_slot : ReachedIsKept → (q : Holder) (index : ℕ) (block : Block) → map.get (at l held q) index ≡ Some block → IsSome (map.get s.keys block.stamp)
  block_slot law q index block found = by (map.get held q) refl found
    where
      by : (o : Option NodeId) → map.get held q ≡ o → map.get (array_of_node l.table.nodes o) index ≡ Some block → IsSome (map.get s.keys block.stamp)
      by None e found = none_some block (sym (map.get-empty nat_cmp index) ∙ found)
      by (Some n) e found =
          (counted.slotted block.stamp).1 (law l.table.nodes block.stamp (record { node = n.number; held = are.there q n e; has = record { index = index; block = block; found = found; same = refl } }))

  pub own_slot : (n index : ℕ) (block : Block) → map.get (own l.table.nodes n) index ≡ Some block → IsSome (map.get s.keys block.stamp)
  own_slot n index block found = (counted.slotted block.stamp).1 (record { node = n; has = record { index = index; block = block; found = found; same = refl } })
