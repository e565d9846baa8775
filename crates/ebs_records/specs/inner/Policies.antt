-- Rules of the Recycle Bin and lifecycle policies.
use Rattle.std.proofs.Common.{◌++◌, refl}
use Rattle.ebs_model.specs.declared.rules.Rule.{Rule}
use Rattle.ebs_model.specs.declared.policy.Policy.{Policy}
use Rattle.ebs_records.specs.States.{IsRetain, retain, IsRuleLock, rule_lock}
use Rattle.ebs_records.specs.Fields.{AreMembers, members, IsRuleTag, rule_tag, IsTag, tag, optional, IsOptional, IsText, text, IsWord, IsRule, word, rule, IsMoment, IsPolicyKey, moment, policy_key}
use Rattle.ebs_records.specs.inner.Apart.{Apart, apart_pair, apart_by}
use Rattle.ebs_records.specs.inner.Choices.{apart_optional}
use Rattle.ebs_records.specs.inner.Keys.{apart_rule, apart_moment}
use Rattle.ebs_records.specs.inner.Lists.{apart_members, apart_text}
use Rattle.ebs_records.specs.inner.Names.{apart_policy_key}
use Rattle.ebs_records.specs.inner.Numbers.{apart_word}
use Rattle.ebs_records.specs.inner.States.{apart_rule_lock, apart_retain}
use Rattle.ebs_records.specs.inner.Tags.{apart_rule_tag, apart_tag}
use Rattle.ebs_records.specs.Policies.{IsPolicy, IsRuleRow, policy, rule_row}

apart_rule_tags : Apart (AreMembers IsRuleTag) (members rule_tag)
apart_rule_tags = apart_members IsRuleTag rule_tag apart_rule_tag

apart_tags : Apart (AreMembers IsTag) (members tag)
apart_tags = apart_members IsTag tag apart_tag

apart_description : Apart (IsOptional IsText) (optional text)
apart_description = apart_optional IsText text apart_text

pub apart_rule_row : Apart IsRuleRow rule_row
apart_rule_row = apart_by {V = Rule} (λ v. (v.key, (v.days, (v.tags, (v.description, v.lock))))) (λ p. record { key = p.0; days = p.1.0; tags = p.1.1.0; description = p.1.1.1.0; lock = p.1.1.1.1 })
    (λ p. IsRule p.0 × (IsWord p.1.0 × (AreMembers IsRuleTag p.1.1.0 × (IsOptional IsText p.1.1.1.0 × IsRuleLock p.1.1.1.1)))) (λ p. rule p.0 ++ (word p.1.0 ++ (members rule_tag p.1.1.0 ++ (optional text p.1.1.1.0 ++ rule_lock p.1.1.1.1)))) (λ v. refl)
    (apart_pair IsRule rule _ _ apart_rule (apart_pair IsWord word _ _ apart_word (apart_pair (AreMembers IsRuleTag) (members rule_tag) _ _ apart_rule_tags (apart_pair (IsOptional IsText) (optional text) IsRuleLock rule_lock apart_description apart_rule_lock))))

pub apart_policy : Apart IsPolicy policy
apart_policy = apart_by {V = Policy} (λ v. (v.key, (v.targets, (v.hours, (v.at, (v.retain, (v.add, v.last))))))) (λ p. record { key = p.0; targets = p.1.0; hours = p.1.1.0; at = p.1.1.1.0; retain = p.1.1.1.1.0; add = p.1.1.1.1.1.0; last = p.1.1.1.1.1.1 })
    (λ p. IsPolicyKey p.0 × (AreMembers IsTag p.1.0 × (IsWord p.1.1.0 × (IsWord p.1.1.1.0 × (IsRetain p.1.1.1.1.0 × (AreMembers IsTag p.1.1.1.1.1.0 × IsMoment p.1.1.1.1.1.1)))))) (λ p. policy_key p.0 ++ (members tag p.1.0 ++ (word p.1.1.0 ++ (word p.1.1.1.0 ++ (retain p.1.1.1.1.0 ++ (members tag p.1.1.1.1.1.0 ++ moment p.1.1.1.1.1.1)))))) (λ v. refl)
    (apart_pair IsPolicyKey policy_key _ _ apart_policy_key (apart_pair (AreMembers IsTag) (members tag) _ _ apart_tags (apart_pair IsWord word _ _ apart_word (apart_pair IsWord word _ _ apart_word (apart_pair IsRetain retain _ _ apart_retain (apart_pair (AreMembers IsTag) (members tag) IsMoment moment apart_tags apart_moment))))))
