use Rattle.std.proofs.Common.{◌≡◌, true, take}
use Rattle.std.specs.List.{list_all}
use Rattle.ebs_node_rules.specs.Arrays.{arrays_of, fits_array}
use Rattle.ebs_node_rules.proofs.arrays.snapshots_fit.Given as goal

abbrev pub invariant-loop-snapshot : goal.invariant-loop-snapshot
invariant-loop-snapshot l = list_all (fits_array l.nodes (arrays_of l.nodes)) (take l.snapshot-index l.snapshots) ≡ true
