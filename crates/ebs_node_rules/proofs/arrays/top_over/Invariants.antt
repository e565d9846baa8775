use Rattle.std.proofs.Common.{◌≡◌, ℕ, ◌&&◌, leb, ltb, take}
use Rattle.std.specs.List.{list_all}
use Rattle.ebs_node_rules.proofs.arrays.top_over.Given as goal

abbrev pub invariant-loop-entry : goal.invariant-loop-entry
invariant-loop-entry l = (limit : ℕ) → leb l.top limit ≡ (leb l.below limit && list_all (λ entry. ltb entry.index limit) (take l.entry-index l.entries))
