-- Stamps, copies, and the slots that they have on the disk.
use Rattle.std.specs.Prelude.{ℕ, ◌+◌, ◌*◌, ◌^◌, Bool, ◌&&◌, List, ◌++◌, map, flat_map, nat_le, nat_lt}
use Rattle.std.specs.List.{list_all}
use Rattle.ebs_model.specs.Quotas.{block_size}
use Rattle.ebs_model.specs.declared.array.Block.{Block}
use Rattle.ebs_checkpoints.specs.declared.snapshots.SnapPoint.{SnapPoint}
use Rattle.ebs_checkpoints.specs.declared.nodes.NodeRow.{NodeRow}
use Rattle.ebs_checkpoints.specs.declared.nodes.EntryRow.{EntryRow}
use Rattle.ebs_checkpoints.specs.declared.nodes.CopyRow.{CopyRow}
use Rattle.ebs_checkpoints.specs.declared.nodes.SlotRow.{SlotRow}
use Rattle.ebs_checkpoints.specs.declared.checkpoint.Checkpoint.{Checkpoint}
use Rattle.ebs_row_rules.specs.Numbers.{are_distinct, are_same}
use Rattle.ebs_row_rules.specs.Stamps.{have_one_digest}

-- ---- the blocks

abbrev pub entry_block : EntryRow → Block
entry_block entry = entry.block

abbrev pub copy_block : CopyRow → Block
copy_block copy = copy.block

-- the blocks of the nodes' entries
abbrev pub entry_blocks : List NodeRow → List Block
entry_blocks nodes = flat_map (λ (n : NodeRow). map entry_block n.entries) nodes

-- the copies of all snapshots
abbrev pub copies_of : List SnapPoint → List CopyRow
copies_of snapshots = flat_map (λ (s : SnapPoint). s.copies) snapshots

-- the blocks of entries, and those of copies
abbrev pub blocks_of : Checkpoint → List Block
blocks_of point = entry_blocks point.nodes ++ map copy_block (copies_of point.snapshots)

abbrev pub stamps : List Block → List ℕ
stamps blocks = map (λ (b : Block). b.stamp) blocks

abbrev pub numbers : List CopyRow → List ℕ
numbers copies = map (λ (c : CopyRow). c.copy) copies

abbrev pub keys : List SlotRow → List ℕ
keys rows = map (λ (s : SlotRow). s.key) rows

abbrev pub slots : List SlotRow → List ℕ
slots rows = map (λ (s : SlotRow). s.slot) rows

-- ---- stamps

-- stamps are below the next one, and it is at most the number of accepted changes
abbrev pub has_stamps : Checkpoint → Bool
has_stamps point =
    nat_le point.next_stamp point.accepted
    && (list_all (λ n. nat_lt n point.next_stamp) (stamps (blocks_of point)) && have_one_digest (blocks_of point))

-- the stamps of entries are those that have a slot
abbrev pub has_stored_entries : Checkpoint → Bool
has_stored_entries point = are_same (stamps (entry_blocks point.nodes)) (keys point.standard)

-- ---- copies

-- the number of a copy is below the next one, and no other copy's
abbrev pub has_numbers : Checkpoint → Bool
has_numbers point =
    nat_le point.next_copy (2 ^ 42)
    && (list_all (λ n. nat_lt n point.next_copy) (numbers (copies_of point.snapshots)) && are_distinct (numbers (copies_of point.snapshots)))

-- the copies are those that have a slot
abbrev pub has_stored_copies : Checkpoint → Bool
has_stored_copies point = are_same (numbers (copies_of point.snapshots)) (keys point.archive)

-- ---- slots

-- slot k is the block from byte 524288 * k on in the area of blocks, and one block later in the archive; it ends at or below byte 2^62
abbrev pub is_block_slot : ℕ → Bool
is_block_slot slot = nat_le (block_size * (slot + 1)) (2 ^ 62)

abbrev pub is_copy_slot : ℕ → Bool
is_copy_slot slot = nat_le (block_size * (slot + 2)) (2 ^ 62)

-- no two blocks of an area have one slot
abbrev pub has_slots : Checkpoint → Bool
has_slots point =
    list_all is_block_slot (slots point.standard)
    && (are_distinct (slots point.standard) && (list_all is_copy_slot (slots point.archive) && are_distinct (slots point.archive)))

-- the blocks and the copies are just those that have slots, each one of its own
abbrev pub is_stored : Checkpoint → Bool
is_stored point = has_stamps point && (has_stored_entries point && (has_numbers point && (has_stored_copies point && has_slots point)))
