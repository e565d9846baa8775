-- Nodes with their entries, copies and slots.
use Rattle.std.proofs.Common.{ℕ, List, ◌++◌}
use Rattle.ebs_checkpoints.specs.declared.nodes.EntryRow.{EntryRow}
use Rattle.ebs_checkpoints.specs.declared.nodes.CopyRow.{CopyRow}
use Rattle.ebs_checkpoints.specs.declared.nodes.SlotRow.{SlotRow}
use Rattle.ebs_checkpoints.specs.declared.nodes.NodeRow.{NodeRow}
use Rattle.ebs_records.specs.Fields.{IsWord, IsLong, word, long, flag, IsFlag, optional, IsOptional, AreMembers, members}
use Rattle.ebs_records.specs.Names.{IsBlock, block}

-- the block at an index
abbrev pub IsEntry : EntryRow → Type 0
IsEntry v = IsWord v.index × IsBlock v.block

abbrev pub entry : EntryRow → List ℕ
entry v = word v.index ++ block v.block

-- the copy of a block in the archive
abbrev pub IsCopy : CopyRow → Type 0
IsCopy v = IsWord v.index × (IsLong v.copy × IsBlock v.block)

abbrev pub copy : CopyRow → List ℕ
copy v = word v.index ++ (long v.copy ++ block v.block)

-- the slot of a stamp, or of a copy
abbrev pub IsSlot : SlotRow → Type 0
IsSlot v = IsLong v.key × IsLong v.slot

abbrev pub slot : SlotRow → List ℕ
slot v = long v.key ++ long v.slot

-- a node of a lineage, with its own entries
abbrev pub IsNode : NodeRow → Type 0
IsNode v = IsLong v.number × (IsOptional IsLong v.parent × (IsFlag v.writable × AreMembers IsEntry v.entries))

abbrev pub node : NodeRow → List ℕ
node v = long v.number ++ (optional long v.parent ++ (flag v.writable ++ members entry v.entries))
