use Rattle.std.proofs.Common.{◌≤◌, length, drop, []}
use Rattle.ebs_tables.specs.Full.{held}
use Rattle.ebs_holds.specs.Holders.{holder_cmp}
use Rattle.ebs_restored.specs.Holders.{HaveNodes, named}
use Rattle.ebs_restored.proofs.holders.hold_volumes.Given as goal

abbrev pub invariant-loop-at : goal.invariant-loop-at
invariant-loop-at l = (l.at ≤ length l.volumes) × HaveNodes l.numbers (named [] (drop l.at l.volumes)) (held holder_cmp l.nodes)

abbrev pub decreases-loop-at : goal.decreases-loop-at
decreases-loop-at l = l.at
