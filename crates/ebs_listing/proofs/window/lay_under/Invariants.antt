use Rattle.std.proofs.Common.{◌≤◌, ◌-◌, ◌^◌}
use Rattle.ebs_listing.proofs.Windowed.{IsLaidTo}
use Rattle.ebs_listing.proofs.window.lay_under.Given as goal

abbrev pub invariant-loop-from : goal.invariant-loop-from
invariant-loop-from l = IsLaidTo l.lineage.table.nodes l.node.number l.start l.initial.window l.window l.from × (l.from ≤ 2 ^ 32)

abbrev pub decreases-loop-from : goal.decreases-loop-from
decreases-loop-from l = 2 ^ 32 - l.from
