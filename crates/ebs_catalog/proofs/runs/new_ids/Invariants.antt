use Rattle.std.proofs.Common.{◌≡◌, ℕ, ◌+◌}
use Rattle.ebs_catalog.proofs.Numbered.{numbered}
use Rattle.ebs_catalog.proofs.runs.new_ids.Given as goal

-- those of the numbers so far
abbrev pub invariant-loop-number : goal.invariant-loop-number
invariant-loop-number l = (count : ℕ) × (l.number ≡ l.first + count) × (l.ids ≡ numbered l.account l.first count)
