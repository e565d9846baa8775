-- Beside what is promised: nodes with their entries, copies and slots.
use Rattle.std.proofs.Common.{◌++◌, refl}
use Rattle.ebs_checkpoints.specs.declared.nodes.EntryRow.{EntryRow}
use Rattle.ebs_checkpoints.specs.declared.nodes.CopyRow.{CopyRow}
use Rattle.ebs_checkpoints.specs.declared.nodes.SlotRow.{SlotRow}
use Rattle.ebs_checkpoints.specs.declared.nodes.NodeRow.{NodeRow}
use Rattle.ebs_records.specs.inner.Apart.{Apart, apart_pair, apart_by}
use Rattle.ebs_records.specs.Fields.{IsWord, IsLong, word, long, flag, IsFlag, optional, IsOptional, AreMembers, members}
use Rattle.ebs_records.specs.inner.Numbers.{apart_word, apart_long}
use Rattle.ebs_records.specs.inner.Choices.{apart_flag, apart_optional}
use Rattle.ebs_records.specs.inner.Lists.{apart_members}
use Rattle.ebs_records.specs.inner.Names.{apart_block}
use Rattle.ebs_records.specs.Names.{IsBlock, block}
use Rattle.ebs_checkpoints.specs.Nodes.{IsCopy, IsEntry, IsNode, IsSlot, copy, entry, node, slot}

pub apart_entry : Apart IsEntry entry
apart_entry = apart_by {V = EntryRow} (λ v. (v.index, v.block)) (λ p. record { index = p.0; block = p.1 })
    (λ p. IsWord p.0 × IsBlock p.1) (λ p. word p.0 ++ block p.1) (λ v. refl)
    (apart_pair IsWord word IsBlock block apart_word apart_block)

pub apart_copy : Apart IsCopy copy
apart_copy = apart_by {V = CopyRow} (λ v. (v.index, (v.copy, v.block))) (λ p. record { index = p.0; copy = p.1.0; block = p.1.1 })
    (λ p. IsWord p.0 × (IsLong p.1.0 × IsBlock p.1.1)) (λ p. word p.0 ++ (long p.1.0 ++ block p.1.1)) (λ v. refl)
    (apart_pair IsWord word _ _ apart_word (apart_pair IsLong long IsBlock block apart_long apart_block))

pub apart_slot : Apart IsSlot slot
apart_slot = apart_by {V = SlotRow} (λ v. (v.key, v.slot)) (λ p. record { key = p.0; slot = p.1 })
    (λ p. IsLong p.0 × IsLong p.1) (λ p. long p.0 ++ long p.1) (λ v. refl)
    (apart_pair IsLong long IsLong long apart_long apart_long)

apart_parent : Apart (IsOptional IsLong) (optional long)
apart_parent = apart_optional IsLong long apart_long

apart_entries : Apart (AreMembers IsEntry) (members entry)
apart_entries = apart_members IsEntry entry apart_entry

pub apart_node : Apart IsNode node
apart_node = apart_by {V = NodeRow} (λ v. (v.number, (v.parent, (v.writable, v.entries)))) (λ p. record { number = p.0; parent = p.1.0; writable = p.1.1.0; entries = p.1.1.1 })
    (λ p. IsLong p.0 × (IsOptional IsLong p.1.0 × (IsFlag p.1.1.0 × AreMembers IsEntry p.1.1.1))) (λ p. long p.0 ++ (optional long p.1.0 ++ (flag p.1.1.0 ++ members entry p.1.1.1))) (λ v. refl)
    (apart_pair IsLong long _ _ apart_long (apart_pair (IsOptional IsLong) (optional long) _ _ apart_parent (apart_pair IsFlag flag (AreMembers IsEntry) (members entry) apart_flag apart_entries)))
