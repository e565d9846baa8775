use Rattle.std.proofs.Common.{length, ◌≡◌}
use Rattle.ebs_tables.specs.Full.{filled}
use Rattle.ebs_tables.proofs.filled.first_filled.Given as goal

abbrev pub invariant-loop-key : goal.invariant-loop-key
invariant-loop-key g l = filled l.initial.slots ≡ filled l.slots

abbrev pub decreases-loop-key : goal.decreases-loop-key
decreases-loop-key g l = length l.slots
