use Rattle.std.proofs.Common.{◌≡◌}
use Rattle.std.specs.FinMap.{get}
use Rattle.ebs_node_rules.specs.Arrays.{array_in, arrays_of}
use Rattle.ebs_node_rules.proofs.Chains.{height}
use Rattle.ebs_node_rules.proofs.arrays.block_at.Given as goal

abbrev pub invariant-loop-found : goal.invariant-loop-found
invariant-loop-found l = get (array_in (arrays_of l.nodes) l.at) l.index ≡ get (array_in (arrays_of l.nodes) l.initial.at) l.index

abbrev pub decreases-loop-found : goal.decreases-loop-found
decreases-loop-found l = height l.at
