use Rattle.std.proofs.Common.{ℕ, ◌≡◌, true, take}
use Rattle.std.specs.FinMap as maps
use Rattle.ebs_row_rules.specs.Numbers as numbers
use Rattle.ebs_row_rules.proofs.number_lists.are_distinct.Given as goal

abbrev pub invariant-loop-number : goal.invariant-loop-number
invariant-loop-number l = ((n : ℕ) → maps.contains_key l.seen n ≡ numbers.has (take l.number-index l.list) n) × (numbers.are_distinct (take l.number-index l.list) ≡ true)
