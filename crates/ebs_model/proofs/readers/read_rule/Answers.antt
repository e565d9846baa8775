use Rattle.std.proofs.Common.{◌≡◌, ◌<◌, ◌^◌, ◌∙◌, sym, subst, IfSome}
use Rattle.std.specs.declared.option.Option.{Option}
use Rattle.ebs_model.specs.Ids.{rule_id}
use Rattle.ebs_model.specs.declared.keys.RuleKey.{RuleKey}
use Rattle.ebs_model.proofs.ReaderLaws.{rule_spelled, rule_spelled_text, rule_spelled_below, rule_whole}
use Rattle.ebs_model.proofs.readers.read_rule.Goals as goal

pub returns-clause-spelled : goal.returns-clause-spelled
returns-clause-spelled c =
    let P : Option RuleKey → Type 0 = λ r. IfSome r (λ key. rule_id key ≡ c.args.text.now) in
    subst P (sym c.rule_of.ensures) (rule_spelled_text _ c.args.text.now (rule_spelled c.args.text.now))

pub returns-clause-below : goal.returns-clause-below
returns-clause-below c =
    let P : Option RuleKey → Type 0 = λ r. IfSome r (λ key. key.number < 2 ^ 28) in
    subst P (sym c.rule_of.ensures) (rule_spelled_below _ c.args.text.now (rule_spelled c.args.text.now))

pub returns-clause-whole : goal.returns-clause-whole
returns-clause-whole c = λ key small low e. c.rule_of.ensures ∙ rule_whole key c.args.text.now small low e
