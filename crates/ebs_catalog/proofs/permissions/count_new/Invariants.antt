use Rattle.std.proofs.Common.{◌≡◌, ◌≤◌, ◌+◌, length}
use Rattle.ebs_catalog.specs.Shared.{left_of}
use Rattle.ebs_catalog.proofs.permissions.count_new.Given as goal

-- what was counted, with what is left to count, is all
abbrev pub invariant-loop-left : goal.invariant-loop-left
invariant-loop-left l =
    (l.count + left_of l.others l.remove l.left ≡ left_of l.others l.remove l.initial.left)
    × (l.count + length l.left ≤ length l.initial.left)

abbrev pub decreases-loop-left : goal.decreases-loop-left
decreases-loop-left l = length l.left
