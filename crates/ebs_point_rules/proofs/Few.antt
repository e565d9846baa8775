-- Numbers that rise below a limit are no more than that.
use Rattle.std.proofs.Common.{◌≡◌, ℕ, ◌+◌, ◌<◌, ◌≤◌, arith, true, List, [], ◌∷◌, length}
use Rattle.std.specs.Prelude.{nat_lt}
use Rattle.std.specs.List.{list_all, AllByRecursion}
use Rattle.std.specs.Ordering.{nat_cmp}
use Rattle.ebs_row_rules.specs.Order as steps
use Rattle.ebs_node_rules.specs.inner.Nodes as pairs
use Rattle.ebs_checkpoint_rules.proofs.Ascents.{pairwise}
use Rattle.ebs_lawful_points.proofs.Parts.{two, each-of, weaker}
use Rattle.ebs_lawful_points.proofs.SnapPoints.{less}

module _ {X : Type 0} (key : X → ℕ) (limit : ℕ) where
  from : (low : ℕ) → low ≤ limit → (xs : List X) → AllByRecursion (λ x. low ≤ key x) xs → AllByRecursion (λ x. key x < limit) xs → pairs.ascends key xs ≡ true → low + length xs ≤ limit
  from low room [] above below up = omega (arith, room)
  from low room (x ∷ xs) above below up =
      let both = two (list_all (λ y. nat_lt (key x) (key y)) xs) (pairs.ascends key xs) up in
      let here : low ≤ key x = above.0 in
      let small : key x < limit = below.0 in
      let rest : (key x + 1) + length xs ≤ limit = from (key x + 1) (omega (arith, small)) xs
      (weaker (λ (y : X). nat_lt (key x) (key y) ≡ true) (λ (y : X). key x + 1 ≤ key y) (λ y e. let l = less (key x) (key y) e in omega (arith, l)) xs (each-of (λ y. nat_lt (key x) (key y)) xs both.0)) below.1 both.1 in
      omega (arith, here, rest)

  pub few-rise : (xs : List X) → AllByRecursion (λ x. key x < limit) xs → steps.ascends nat_cmp key xs ≡ true → length xs ≤ limit
  few-rise xs below up = let all : 0 + length xs ≤ limit = from 0 (omega arith) xs (any xs) below (pairwise key xs up) in omega (arith, all)
    where
      any : (ys : List X) → AllByRecursion (λ y. 0 ≤ key y) ys
      any [] = tt
      any (y ∷ ys) = (omega arith, any ys)
