-- Slots that count the entries of a checkpoint's nodes.
use Rattle.std.specs.Prelude.{◌≡◌, ◌⊎◌, ℕ, ◌+◌, ◌==◌, true, List}
use Rattle.std.specs.declared.option.Option.{Option}
use Rattle.std.specs.declared.option.Option.TheVariants.{None, Some}
use Rattle.std.specs.Option.{option_map}
use Rattle.std.specs.List.{count_by, find, list_all, sum_by}
use Rattle.std.specs.FinMap as map
use Rattle.ebs_world.specs.declared.area.Area.TheVariants.{Blocks}
use Rattle.ebs_checkpoints.specs.declared.nodes.EntryRow.{EntryRow}
use Rattle.ebs_checkpoints.specs.declared.nodes.NodeRow.{NodeRow}
use Rattle.ebs_checkpoints.specs.declared.nodes.SlotRow.{SlotRow}
use Rattle.ebs_node_rules.specs.inner.Nodes.{ascends}
use Rattle.ebs_row_rules.specs.Numbers.{are_distinct}
use Rattle.ebs_row_rules.specs.Slots.{is_block_slot, slots}
use Rattle.ebs_slots.specs.inner.Slots.{SlotTable, count_of}

-- keys ascend, no two have one slot, and each slot ends at or below byte 2^62
pub record HaveSlots (standard : List SlotRow) : Type 0 where
  pub ascend : ascends (λ row. row.key) standard ≡ true
  pub apart : are_distinct (slots standard) ≡ true
  pub small : list_all is_block_slot (slots standard) ≡ true

-- the slot that the rows give a stamp
abbrev pub slot_in : List SlotRow → ℕ → Option ℕ
slot_in standard stamp = option_map (λ (row : SlotRow). row.slot) (find (λ (row : SlotRow). row.key == stamp) standard)

-- how many entries have the block of a stamp
abbrev pub entries_of : List EntryRow → ℕ → ℕ
entries_of entries stamp = count_by (λ entry. entry.block.stamp == stamp) entries

abbrev pub entries_in : List NodeRow → ℕ → ℕ
entries_in nodes stamp = sum_by (λ node. entries_of node.entries stamp) nodes

-- the number behind a slot that a stamp has, or zero where none has one
abbrev pub IsBehind : SlotTable → Type 0
IsBehind counted = (counted.top ≡ 0) ⊎ ((stamp : ℕ) × (slot : ℕ) × (map.get counted.keys stamp ≡ Some slot) × (counted.top ≡ slot + 1))

-- each stamp has the slot that the rows give it, and is counted by the entries that have its block
pub record IsCountedBy (nodes : List NodeRow) (standard : List SlotRow) (counted : SlotTable) : Type 0 where
  pub keys : (stamp : ℕ) → map.get counted.keys stamp ≡ slot_in standard stamp
  pub counts : (stamp : ℕ) → count_of counted stamp ≡ entries_in nodes stamp
  pub leases : counted.leases ≡ map.empty
  pub area : counted.area ≡ Blocks
  pub behind : IsBehind counted

-- a stamp that has a slot has that of the rows, and one that has none isn't counted
pub record IsSlotted (standard : List SlotRow) (counted : SlotTable) : Type 0 where
  pub keyed : (stamp slot : ℕ) → map.get counted.keys stamp ≡ Some slot → slot_in standard stamp ≡ Some slot
  pub uncounted : (stamp : ℕ) → map.get counted.keys stamp ≡ None → count_of counted stamp ≡ 0
  pub leases : counted.leases ≡ map.empty
  pub area : counted.area ≡ Blocks
  pub behind : IsBehind counted
