use Rattle.std.proofs.Common.{◌<◌, ℕ}
use Rattle.ebs_slots.specs.inner.Freed.{Has, IsUnused}
use Rattle.ebs_slots.proofs.choosing.pop_unused.Given as goal

abbrev pub invariant-loop-slot : goal.invariant-loop-slot
invariant-loop-slot l = (n : ℕ) → n < l.top → IsUnused l.owners.entries l.leases.entries n → Has l.fn.freed.items n → Has l.freed.items n

abbrev pub decreases-loop-slot : goal.decreases-loop-slot
decreases-loop-slot l = goal.left-loop-slot l
