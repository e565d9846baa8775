use Rattle.std.proofs.Common.{◌≤◌, ◌-◌, ◌^◌}
use Rattle.ebs_lineage.specs.Lines.{array}
use Rattle.ebs_kept.proofs.Gathered.{AddsBelow}
use Rattle.ebs_kept.proofs.stamps.add_changes.Given as goal

abbrev pub invariant-loop-from : goal.invariant-loop-from
invariant-loop-from l = AddsBelow (array l.lineage.table.nodes l.node.number) l.from l.initial.digests l.digests × (l.from ≤ 2 ^ 32)

abbrev pub decreases-loop-from : goal.decreases-loop-from
decreases-loop-from l = 2 ^ 32 - l.from
