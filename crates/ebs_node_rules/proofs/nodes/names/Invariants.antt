use Rattle.std.proofs.Common.{◌≡◌, take}
use Rattle.std.specs.List.{filter_map}
use Rattle.ebs_node_rules.specs.Nodes.{names}
use Rattle.ebs_node_rules.proofs.nodes.names.Given as goal

abbrev pub invariant-loop-snapshot : goal.invariant-loop-snapshot
invariant-loop-snapshot l = l.names.items ≡ filter_map (λ snapshot. snapshot.node) (take l.snapshot-index l.snapshots)

abbrev pub invariant-loop-volume : goal.invariant-loop-volume
invariant-loop-volume l = l.names.items ≡ names l.snapshots (take l.volume-index l.volumes)
