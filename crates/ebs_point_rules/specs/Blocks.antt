-- The blocks of nodes and of copies, with their slots.
use Rattle.std.specs.Prelude.{◌≡◌, ℕ, Bool, true, nat_lt, Some}
use Rattle.std.specs.List.{list_all, AllByRecursion}
use Rattle.std.specs.FinMap.{get}
use Rattle.ebs_model.specs.declared.array.Block.{Block}
use Rattle.ebs_model.specs.Machine.{Machine}
use Rattle.ebs_checkpoints.specs.declared.snapshots.SnapPoint.{SnapPoint}
use Rattle.ebs_checkpoints.specs.declared.checkpoint.Checkpoint.{Checkpoint}
use Rattle.ebs_row_rules.specs.Numbers.{are_distinct}
use Rattle.ebs_row_rules.specs.Slots.{blocks_of, stamps, slots, has_stored_entries, is_block_slot}
use Rattle.ebs_row_rules.specs.Stamps.{have_one_digest}
use Rattle.ebs_node_rules.specs.States.{has_node_by, status_of}
use Rattle.ebs_recovery.specs.Stands.{Holder, blocks_at}
use Rattle.ebs_recovery.specs.inner.Bases.{kept_block}

-- it is a block of a snapshot or of a volume, with its digest in the place of its bytes
pub record IsShown (m : Machine) (block : Block) : Type 0 where
  pub holder : Holder
  pub index : ℕ
  pub there : get (blocks_at m holder) index ≡ Some (kept_block block)

-- each block of a node or a copy is one of the machine's
abbrev pub AreShown : Machine → Checkpoint → Type 0
AreShown m point = AllByRecursion (IsShown m) (blocks_of point)

-- their stamps were given, each to one digest
pub record AreGiven (point : Checkpoint) : Type 0 where
  pub low : list_all (λ n. nat_lt n point.next_stamp) (stamps (blocks_of point)) ≡ true
  pub one : have_one_digest (blocks_of point) ≡ true

-- the blocks of nodes are just those that have slots, each one of its own
pub record HaveSlots (point : Checkpoint) : Type 0 where
  pub stored : has_stored_entries point ≡ true
  pub places : list_all is_block_slot (slots point.standard) ≡ true
  pub apart : are_distinct (slots point.standard) ≡ true

-- an upload's node is open while it goes on, and gone once it has failed; what is completed has a closed one, or copies
abbrev pub has_node : Checkpoint → SnapPoint → Bool
has_node point row = has_node_by (status_of row point.clock.second) point.nodes row

abbrev pub have_nodes : Checkpoint → Bool
have_nodes point = list_all (has_node point) point.snapshots
