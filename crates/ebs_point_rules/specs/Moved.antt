-- What stands in the archive, of which the machine says nothing.
use Rattle.std.specs.Prelude.{◌≡◌, Bool, true, ◌||◌}
use Rattle.std.specs.List.{list_all}
use Rattle.ebs_checkpoints.specs.declared.snapshots.SnapPoint.{SnapPoint}
use Rattle.ebs_checkpoints.specs.declared.checkpoint.Checkpoint.{Checkpoint}
use Rattle.ebs_row_rules.specs.Numbers.{are_distinct}
use Rattle.ebs_row_rules.specs.Slots.{has_numbers, has_stored_copies, is_copy_slot, slots}
use Rattle.ebs_node_rules.specs.Arrays.{arrays_of, copies_agree, gives_up}
use Rattle.ebs_node_rules.specs.States.{is_none_of}

-- an upload has no copies
abbrev pub is_moved_done : SnapPoint → Bool
is_moved_done row = row.completed || is_none_of row.copies

-- what is completed alone has copies. They are of the blocks that the row's node has, a row that is moved whole has no node, and each
-- copy has a number and a slot of its own
pub record AreMoved (point : Checkpoint) : Type 0 where
  pub done : list_all is_moved_done point.snapshots ≡ true
  pub agree : list_all (copies_agree point.nodes (arrays_of point.nodes)) point.snapshots ≡ true
  pub given_up : list_all (gives_up (arrays_of point.nodes)) point.snapshots ≡ true
  pub numbers : has_numbers point ≡ true
  pub stored : has_stored_copies point ≡ true
  pub places : list_all is_copy_slot (slots point.archive) ≡ true
  pub apart : are_distinct (slots point.archive) ≡ true
