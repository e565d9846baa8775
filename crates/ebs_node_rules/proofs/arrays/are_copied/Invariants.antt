use Rattle.std.proofs.Common.{◌≡◌}
use Rattle.ebs_node_rules.specs.Arrays.{array_in, arrays_of, all_keys, is_copied}
use Rattle.ebs_node_rules.proofs.Chains.{height}
use Rattle.ebs_node_rules.proofs.arrays.are_copied.Given as goal

abbrev pub invariant-loop-found : goal.invariant-loop-found
invariant-loop-found l = all_keys (is_copied l.copies) (array_in (arrays_of l.nodes) l.at) ≡ all_keys (is_copied l.copies) (array_in (arrays_of l.nodes) l.initial.at)

abbrev pub decreases-loop-found : goal.decreases-loop-found
decreases-loop-found l = height l.at
