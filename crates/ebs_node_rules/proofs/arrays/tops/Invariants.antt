use Rattle.std.proofs.Common.{◌≡◌, drop}
use Rattle.ebs_node_rules.specs.Arrays.{Arrays, arrays_of, with_nodes}
use Rattle.ebs_node_rules.specs.inner.Lookups.{AreTops}
use Rattle.ebs_node_rules.proofs.arrays.tops.Given as goal

abbrev pub invariant-loop-node : goal.invariant-loop-node
invariant-loop-node l = (rows : Arrays) × AreTops l.tops rows × (with_nodes rows (drop l.node-index l.nodes) ≡ arrays_of l.nodes)
