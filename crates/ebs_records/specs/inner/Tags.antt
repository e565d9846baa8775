-- Beside what is promised: tags, and those of a rule, which may leave the value out.
use Rattle.std.proofs.Common.{◌++◌, refl}
use Rattle.ebs_model.specs.declared.tags.Tag.{Tag}
use Rattle.ebs_model.specs.declared.rules.RuleTag.{RuleTag}
use Rattle.ebs_records.specs.Fields.{IsTag, tag, IsText, text, IsRuleTag, rule_tag, optional, IsOptional}
use Rattle.ebs_records.specs.inner.Apart.{Apart, apart_pair, apart_by}
use Rattle.ebs_records.specs.inner.Choices.{apart_optional}
use Rattle.ebs_records.specs.inner.Lists.{apart_text}

pub apart_tag : Apart IsTag tag
apart_tag = apart_by {V = Tag} (λ t. (t.key, t.value)) (λ p. record { key = p.0; value = p.1 }) (λ p. IsText p.0 × IsText p.1) (λ p. text p.0 ++ text p.1) (λ v. refl) (apart_pair IsText text IsText text apart_text apart_text)

pub apart_rule_tag : Apart IsRuleTag rule_tag
apart_rule_tag = apart_by {V = RuleTag} (λ t. (t.key, t.value)) (λ p. record { key = p.0; value = p.1 }) (λ p. IsText p.0 × IsOptional IsText p.1) (λ p. text p.0 ++ optional text p.1) (λ v. refl)
    (apart_pair IsText text (IsOptional IsText) (optional text) apart_text (apart_optional IsText text apart_text))
