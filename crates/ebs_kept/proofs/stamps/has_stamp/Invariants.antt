use Rattle.std.proofs.Common.{◌≤◌, ◌-◌, ◌^◌}
use Rattle.ebs_lineage.specs.Lines.{array}
use Rattle.ebs_kept.proofs.Live.{NoneBelow}
use Rattle.ebs_kept.proofs.stamps.has_stamp.Given as goal

abbrev pub invariant-loop-from : goal.invariant-loop-from
invariant-loop-from l = NoneBelow l.stamp (array l.lineage.table.nodes l.node.number) l.from × (l.from ≤ 2 ^ 32)

abbrev pub decreases-loop-from : goal.decreases-loop-from
decreases-loop-from l = 2 ^ 32 - l.from
