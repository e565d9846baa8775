-- The slots of what nodes keep.
use Rattle.std.specs.Prelude.{◌≡◌, ℕ, true, List}
use Rattle.std.specs.List.{AllByRecursion, list_all}
use Rattle.std.specs.Ordering.{nat_cmp}
use Rattle.std.specs.FinMap as map
use Rattle.ebs_checkpoints.specs.declared.nodes.NodeRow.{NodeRow}
use Rattle.ebs_checkpoints.specs.declared.nodes.SlotRow.{SlotRow}
use Rattle.ebs_checkpoints.specs.Nodes.{IsSlot}
use Rattle.ebs_row_rules.specs.Numbers.{are_distinct, are_same}
use Rattle.ebs_row_rules.specs.Order.{ascends}
use Rattle.ebs_row_rules.specs.Slots as row_slots
use Rattle.ebs_row_rules.specs.Slots.{entry_blocks, is_block_slot, keys, stamps}
use Rattle.ebs_pointed.specs.Stored.{IsSlotOf}

-- each stamp of an entry has the slot that it is kept in, in ascending stamp, and no two have one slot
pub record AreSlotsOf (kept : map.FinMap nat_cmp ℕ) (nodes : List NodeRow) (rows : List SlotRow) : Type 0 where
  pub stored : are_same (stamps (entry_blocks nodes)) (keys rows) ≡ true
  pub slots : AllByRecursion (IsSlotOf kept) rows
  pub ascend : ascends nat_cmp (λ (row : SlotRow). row.key) rows ≡ true
  pub places : list_all is_block_slot (row_slots.slots rows) ≡ true
  pub apart : are_distinct (row_slots.slots rows) ≡ true
  pub values : AllByRecursion IsSlot rows
