use Rattle.std.proofs.Common.{◌≡◌, ◌++◌, map}
use Rattle.ebs_model.specs.Rules.{rule_view}
use Rattle.ebs_catalog.proofs.rules.views_of.Given as goal

-- the rules that are shown so far, with what is still to come, are all
abbrev pub invariant-loop-rule : goal.invariant-loop-rule
invariant-loop-rule l = l.views.items ++ map (λ e. rule_view l.at.second e.1) l.rule-iterator ≡ map (λ e. rule_view l.at.second e.1) l.initial.rule-iterator
