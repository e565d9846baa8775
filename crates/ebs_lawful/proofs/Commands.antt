-- Commands on rules whose fields are within their limits.
use Rattle.std.proofs.Common.{◌≡◌, true}
use Rattle.ebs_model.specs.declared.rules.RuleCommand.{RuleCommand}
use Rattle.ebs_model.specs.declared.rules.RuleCommand.TheVariants.{Create, Update, Delete, Lock, Unlock}
use Rattle.ebs_model.specs.Limits.{is_retention, is_retention_given, are_rule_tags, are_rule_tags_given, is_description, is_first_delay, is_delay}

abbrev pub IsRuleCommand : RuleCommand → Type 0
IsRuleCommand (Create days tags description delay) = (is_retention days ≡ true) × (are_rule_tags tags ≡ true) × (is_description description ≡ true) × (is_first_delay tags delay ≡ true)
IsRuleCommand (Update key days tags description) = (is_retention_given days ≡ true) × (are_rule_tags_given tags ≡ true) × (is_description description ≡ true)
IsRuleCommand (Delete key) = Unit {0}
IsRuleCommand (Lock key delay) = is_delay delay ≡ true
IsRuleCommand (Unlock key) = Unit {0}
