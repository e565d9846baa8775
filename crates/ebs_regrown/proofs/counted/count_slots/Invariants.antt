use Rattle.std.proofs.Common.{drop}
use Rattle.ebs_regrown.specs.Counted.{entries_in}
use Rattle.ebs_regrown.proofs.Entries.{IsCounting}
use Rattle.ebs_regrown.proofs.counted.count_slots.Given as goal

abbrev pub invariant-loop-node : goal.invariant-loop-node
invariant-loop-node l = IsCounting l.standard (entries_in l.nodes) (entries_in (drop l.node-index l.nodes)) l.counted
