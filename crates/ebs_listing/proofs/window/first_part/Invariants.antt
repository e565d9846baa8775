use Rattle.std.proofs.Common.{◌≤◌, ◌-◌, ◌^◌}
use Rattle.ebs_listing.proofs.Windowed.{IsBelow}
use Rattle.ebs_listing.proofs.window.first_part.Given as goal

abbrev pub invariant-loop-from : goal.invariant-loop-from
invariant-loop-from l = IsBelow l.blocks l.from l.kept × (l.from ≤ 2 ^ 32)

abbrev pub decreases-loop-from : goal.decreases-loop-from
decreases-loop-from l = 2 ^ 32 - l.from
