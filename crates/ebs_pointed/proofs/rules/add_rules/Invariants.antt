use Rattle.std.proofs.Common.{◌≡◌, ◌++◌, ℕ, map}
use Rattle.std.specs.List.{AllByRecursion}
use Rattle.ebs_model.specs.declared.rules.Rule.{Rule}
use Rattle.ebs_bin.specs.Books.{book}
use Rattle.ebs_point_rules.specs.Values.{HasRuleValues}
use Rattle.ebs_pointed.specs.Rules.{in_order}
use Rattle.ebs_pointed.proofs.rules.add_rules.Given as goal

abbrev pub invariant-loop-rule : goal.invariant-loop-rule
invariant-loop-rule l = record {
  rows : l.rows ++ map (λ (e : ℕ × Rule). e.1) l.rule-iterator ≡ l.initial.rows ++ in_order (book l.rules).rules;
  values : AllByRecursion HasRuleValues l.initial.rows → AllByRecursion HasRuleValues l.rows;
}
