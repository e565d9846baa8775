-- The slots of the blocks that nodes keep.
use Rattle.std.specs.Prelude.{◌≡◌, ℕ, true, List, Some, IsSome}
use Rattle.std.specs.Ordering.{nat_cmp}
use Rattle.std.specs.FinMap as map
use Rattle.ebs_checkpoints.specs.declared.nodes.NodeRow.{NodeRow}
use Rattle.ebs_checkpoints.specs.declared.nodes.SlotRow.{SlotRow}
use Rattle.ebs_row_rules.specs.Numbers.{has}
use Rattle.ebs_row_rules.specs.Slots.{entry_blocks, stamps}

-- each stamp of an entry has a slot
abbrev pub AreStored : List NodeRow → map.FinMap nat_cmp ℕ → Type 0
AreStored nodes keys = (stamp : ℕ) → has (stamps (entry_blocks nodes)) stamp ≡ true → IsSome (map.get keys stamp)

-- the slot is that of the key
abbrev pub IsSlotOf : map.FinMap nat_cmp ℕ → SlotRow → Type 0
IsSlotOf keys row = map.get keys row.key ≡ Some row.slot
