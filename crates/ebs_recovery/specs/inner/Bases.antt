-- Beside what is promised: the kept form that a checkpoint says, in which each block has its digest in the place of its bytes.
use Rattle.std.specs.Prelude.{Some, map}
use Rattle.std.specs.FinMap as fin
use Rattle.ebs_model.specs.declared.array.Block.{Block}
use Rattle.ebs_model.specs.Keys.{snap_cmp, vol_cmp}
use Rattle.ebs_model.specs.inner.MapValues.{map_values}
use Rattle.ebs_model.specs.Arrays.{WholeBlock, WholeArray}
use Rattle.ebs_model.specs.Time.{Snapshot}
use Rattle.ebs_model.specs.Machine.{Machine}
use Rattle.ebs_checkpoints.specs.declared.snapshots.SnapPoint.{SnapPoint}
use Rattle.ebs_checkpoints.specs.declared.checkpoint.Checkpoint.{Checkpoint}
use Rattle.ebs_node_rules.specs.Arrays.{Array, Arrays, array_in, arrays_of, row_array}
use Rattle.ebs_recovery.specs.Made.{State}
use Rattle.ebs_recovery.specs.Bases.{row_of, machine_with, slots_of}

-- a digest in the place of the bytes
abbrev pub kept_block : Block → WholeBlock
kept_block block = record { stamp = block.stamp; bytes = block.digest }

abbrev pub kept_array : Array → WholeArray
kept_array array = map_values kept_block array

abbrev pub snapshot_of : Arrays → SnapPoint → Snapshot
snapshot_of arrays p = record { row = row_of p; array = kept_array (row_array arrays p) }

unfoldable pub snaps_of : Checkpoint → fin.FinMap snap_cmp Snapshot
snaps_of point = fin.from_entries (map (λ p. (p.key, snapshot_of (arrays_of point.nodes) p)) point.snapshots)

unfoldable pub disks_of : Checkpoint → fin.FinMap vol_cmp WholeArray
disks_of point = fin.from_entries (map (λ v. (v.row.key, kept_array (array_in (arrays_of point.nodes) (Some v.node)))) point.volumes)

abbrev pub machine_of : Checkpoint → Machine
machine_of point = machine_with point (snaps_of point) (disks_of point)

abbrev pub state_of : Checkpoint → State
state_of point = record { machine = machine_of point; slots = slots_of point.standard }
