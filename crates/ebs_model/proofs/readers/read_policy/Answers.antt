use Rattle.std.proofs.Common.{◌≡◌, ◌<◌, ◌^◌, ◌∙◌, sym, subst, IfSome}
use Rattle.std.specs.declared.option.Option.{Option}
use Rattle.ebs_model.specs.Ids.{policy_id}
use Rattle.ebs_model.specs.declared.keys.PolicyKey.{PolicyKey}
use Rattle.ebs_model.proofs.ReaderLaws.{policy_spelled, policy_spelled_text, policy_spelled_below, policy_whole}
use Rattle.ebs_model.proofs.readers.read_policy.Goals as goal

pub returns-clause-spelled : goal.returns-clause-spelled
returns-clause-spelled c =
    let P : Option PolicyKey → Type 0 = λ r. IfSome r (λ key. policy_id key ≡ c.args.text.now) in
    subst P (sym c.policy_of.ensures) (policy_spelled_text _ c.args.text.now (policy_spelled c.args.text.now))

pub returns-clause-below : goal.returns-clause-below
returns-clause-below c =
    let P : Option PolicyKey → Type 0 = λ r. IfSome r (λ key. key.number < 2 ^ 28) in
    subst P (sym c.policy_of.ensures) (policy_spelled_below _ c.args.text.now (policy_spelled c.args.text.now))

pub returns-clause-whole : goal.returns-clause-whole
returns-clause-whole c = λ key small low e. c.policy_of.ensures ∙ policy_whole key c.args.text.now small low e
