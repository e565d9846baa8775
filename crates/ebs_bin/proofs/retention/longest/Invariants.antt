use Rattle.std.proofs.Common.{◌≡◌, map}
use Rattle.ebs_model.specs.Rules.{longest}
use Rattle.ebs_bin.proofs.Longest.{joined}
use Rattle.ebs_bin.proofs.retention.longest.Given as goal

abbrev pub invariant-loop-rule : goal.invariant-loop-rule
invariant-loop-rule l = joined l.most (longest l.tags (map (λ e. e.1) l.rule-iterator)) ≡ longest l.tags (map (λ e. e.1) l.initial.rule-iterator)
