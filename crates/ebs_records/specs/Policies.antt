-- Rules of the Recycle Bin and lifecycle policies.
use Rattle.std.proofs.Common.{ℕ, List, ◌++◌}
use Rattle.ebs_model.specs.declared.rules.Rule.{Rule}
use Rattle.ebs_model.specs.declared.policy.Policy.{Policy}
use Rattle.ebs_records.specs.States.{IsRetain, retain, IsRuleLock, rule_lock}
use Rattle.ebs_records.specs.Fields.{AreMembers, members, IsRuleTag, rule_tag, IsTag, tag, optional, IsOptional, IsText, text, IsWord, IsRule, word, rule, IsMoment, IsPolicyKey, moment, policy_key}

-- a rule of the Recycle Bin
abbrev pub IsRuleRow : Rule → Type 0
IsRuleRow v = IsRule v.key × (IsWord v.days × (AreMembers IsRuleTag v.tags × (IsOptional IsText v.description × IsRuleLock v.lock)))

abbrev pub rule_row : Rule → List ℕ
rule_row v = rule v.key ++ (word v.days ++ (members rule_tag v.tags ++ (optional text v.description ++ rule_lock v.lock)))

-- a lifecycle policy
abbrev pub IsPolicy : Policy → Type 0
IsPolicy v = IsPolicyKey v.key × (AreMembers IsTag v.targets × (IsWord v.hours × (IsWord v.at × (IsRetain v.retain × (AreMembers IsTag v.add × IsMoment v.last)))))

abbrev pub policy : Policy → List ℕ
policy v = policy_key v.key ++ (members tag v.targets ++ (word v.hours ++ (word v.at ++ (retain v.retain ++ (members tag v.add ++ moment v.last)))))
