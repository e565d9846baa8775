-- What a slice leaves.
use Rattle.std.specs.Prelude.{◌≡◌, ◌≤◌, ℕ}
use Rattle.std.specs.declared.option.Option.TheVariants.{Some}
use Rattle.std.specs.Option.{option_map}
use Rattle.std.specs.FinMap as map
use Rattle.ebs_model.specs.declared.array.Block.{Block}
use Rattle.ebs_lineage.specs.declared.node.Node.{Node}
use Rattle.ebs_lineage.specs.Table.{NodeMap}
use Rattle.ebs_lineage.specs.Lines.{Lines, IsHeld, array, own}
use Rattle.ebs_lineage.specs.Entries.{AreEntries}
use Rattle.ebs_lineage.specs.Reached.{AreSlotted}
use Rattle.ebs_slots.specs.inner.Slots.{SlotTable, count_of}

-- the slots are those of the stamps that nodes keep, and each is counted by the entries that have it
pub record IsCounted (s : SlotTable) (nodes : NodeMap) : Type 0 where
  pub slotted : AreSlotted s.keys nodes
  pub counts : (stamp : ℕ) → AreEntries nodes stamp (count_of s stamp)

-- a node without its own blocks
abbrev pub bare : Node → Node
bare x = record x { own = record x.own { blocks = map.empty } }

-- held nodes keep their arrays, and all nodes what isn't a block; no block comes
pub record Leaves (old new : Lines) : Type 0 where
  pub arrays : (h : ℕ) → IsHeld old.table.nodes h → array new.table.nodes h ≡ array old.table.nodes h
  pub nodes : (n : ℕ) → option_map bare (map.get new.table.nodes n) ≡ option_map bare (map.get old.table.nodes n)
  pub blocks : (n index : ℕ) (block : Block) → map.get (own new.table.nodes n) index ≡ Some block → map.get (own old.table.nodes n) index ≡ Some block
  pub spare : new.table.spare ≡ old.table.spare
  pub made : new.made ≡ old.made

-- a key that stays has the slot that it had and is counted by no more entries, and what is under lease stays
pub record Frees (old new : SlotTable) : Type 0 where
  pub keys : (key slot : ℕ) → map.get new.keys key ≡ Some slot → map.get old.keys key ≡ Some slot
  pub counts : (key slot : ℕ) → map.get new.keys key ≡ Some slot → count_of new key ≤ count_of old key
  pub area : new.area ≡ old.area
  pub leases : new.leases ≡ old.leases
  pub top : new.top ≡ old.top
