use Rattle.std.proofs.Common.{◌≡◌, ◌++◌, ℕ, map}
use Rattle.std.specs.List.{AllByRecursion}
use Rattle.ebs_bin.specs.Books.{Shelf, book}
use Rattle.ebs_point_rules.specs.Values.{HasRuleValues}
use Rattle.ebs_pointed.specs.Rules.{all_in_order}
use Rattle.ebs_pointed.proofs.rules.all_of.Given as goal

abbrev pub invariant-loop-rules : goal.invariant-loop-rules
invariant-loop-rules l = record {
  rows : l.rows ++ all_in_order (map (λ (e : ℕ × Shelf). (e.0, book e.1)) l.rules-iterator) ≡ all_in_order (map (λ (e : ℕ × Shelf). (e.0, book e.1)) l.initial.rules-iterator);
  values : AllByRecursion HasRuleValues l.rows;
}
