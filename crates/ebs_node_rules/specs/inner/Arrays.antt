-- Beside what is promised: indexes ascend.
use Rattle.std.specs.Prelude.{Bool, List}
use Rattle.std.specs.List.{list_all}
use Rattle.ebs_checkpoints.specs.declared.nodes.NodeRow.{NodeRow}
use Rattle.ebs_checkpoints.specs.declared.snapshots.SnapPoint.{SnapPoint}
use Rattle.ebs_node_rules.specs.inner.Nodes.{ascends}

abbrev pub entries_ascend : List NodeRow → Bool
entries_ascend nodes = list_all (λ node. ascends (λ entry. entry.index) node.entries) nodes

abbrev pub copies_ascend : List SnapPoint → Bool
copies_ascend snapshots = list_all (λ snapshot. ascends (λ copy. copy.index) snapshot.copies) snapshots
