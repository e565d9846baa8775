use Rattle.std.proofs.Common.{◌-◌, ◌<◌, ◌≤◌, ℕ}
use Rattle.ebs_slots.specs.inner.Freed.{IsUnused}
use Rattle.ebs_slots.proofs.choosing.first_unused.Given as goal

abbrev pub invariant-loop-at : goal.invariant-loop-at
invariant-loop-at l = (l.fn.low ≤ l.at) × (l.at ≤ l.top) × ((n : ℕ) → l.fn.low ≤ n → n < l.at → IsUnused l.owners.entries l.leases.entries n → ⊥)

abbrev pub decreases-loop-at : goal.decreases-loop-at
decreases-loop-at l = l.top - l.at
