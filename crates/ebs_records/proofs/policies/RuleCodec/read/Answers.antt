use Rattle.std.proofs.Common.{◌++◌}
use Rattle.std.proofs.lemmas.Result.{err_from_is_err_and}
use Rattle.ebs_model.specs.declared.rules.Rule.{Rule}
use Rattle.ebs_records.specs.Fields.{IsWord, word, optional, IsOptional, IsRule, rule, IsText, text, AreMembers, members, IsRuleTag, rule_tag}
use Rattle.ebs_records.specs.States.{IsRuleLock, rule_lock}
use Rattle.ebs_records.proofs.Views.{unread_by}
use Rattle.ebs_records.proofs.policies.RuleCodec.read.Goals as goal

pub returns-in_err-key : goal.returns-in_err-key
returns-in_err-key c =
    let p = err_from_is_err_and c.from_residual.result c.from_residual.ensures.1 in
    rw (p.1, p.2) (unread_by (λ (v : Rule). (v.key, (v.days, (v.tags, (v.description, v.lock))))) (λ p. IsRule p.0 × (IsWord p.1.0 × (AreMembers IsRuleTag p.1.1.0 × (IsOptional IsText p.1.1.1.0 × IsRuleLock p.1.1.1.1)))) (λ p. rule p.0 ++ (word p.1.0 ++ (members rule_tag p.1.1.0 ++ (optional text p.1.1.1.0 ++ rule_lock p.1.1.1.1)))) c.args.input.now c.read.new.input c.in_err-key.field-0.0 c.in_err-key.ensures)
