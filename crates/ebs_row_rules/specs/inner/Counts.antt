-- Beside what is promised: keys are ordered by their accounts first.
use Rattle.std.specs.Prelude.{◌≡◌, ℕ, ◌<◌, ◌≤◌, true}
use Rattle.std.proofs.Common.{arith}
use Rattle.std.specs.declared.cmp.Ordering.{Ordering}
use Rattle.std.specs.declared.cmp.Ordering.TheVariants.{Less, Equal, Greater}
use Rattle.std.specs.Ordering.{nat_cmp, ordering_then, is_lt, MatchOrdering}
use Rattle.std.specs.Cmp.{ranks}

first_part : (a b : ℕ) (first second : Ordering) → MatchOrdering first (a < b) (a ≡ b) (b < a) → is_lt (ordering_then first second) ≡ true → a ≤ b
first_part a b Less second r h = omega (arith, r)
first_part a b Equal second r h = omega (arith, r)
first_part a b Greater second r h = absurd cc

pub account_first : (a b m n : ℕ) → is_lt (ordering_then (nat_cmp a b) (nat_cmp m n)) ≡ true → a ≤ b
account_first a b m n h = first_part a b (nat_cmp a b) (nat_cmp m n) (ranks a b) h
