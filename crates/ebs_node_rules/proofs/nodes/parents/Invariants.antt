use Rattle.std.proofs.Common.{◌≡◌, take}
use Rattle.ebs_node_rules.specs.Nodes.{parents}
use Rattle.ebs_node_rules.proofs.nodes.parents.Given as goal

abbrev pub invariant-loop-node : goal.invariant-loop-node
invariant-loop-node l = l.parents.items ≡ parents (take l.node-index l.nodes)
