use Rattle.std.proofs.Common.{◌≡◌, ◌++◌}
use Rattle.std.specs.FinMap as fin
use Rattle.ebs_pointed.proofs.accounts.in_order.Given as goal

abbrev pub invariant-loop-number : goal.invariant-loop-number
invariant-loop-number l = l.rows ++ fin.values l.left ≡ fin.values l.initial.left

abbrev pub decreases-loop-number : goal.decreases-loop-number
decreases-loop-number l = fin.len l.left
