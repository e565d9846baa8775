use Rattle.std.proofs.Common.{◌≡◌, ℕ, ◌∙◌, sym, subst, IfSome}
use Rattle.std.specs.declared.option.Option.{Option}
use Rattle.ebs_model.specs.Ids.{decimal_of_width}
use Rattle.ebs_model.proofs.ReaderLaws.{account_spelled, account_whole}
use Rattle.ebs_model.proofs.readers.read_account.Goals as goal

pub returns-clause-spelled : goal.returns-clause-spelled
returns-clause-spelled c =
    let P : Option ℕ → Type 0 = λ r. IfSome r (λ account. decimal_of_width 12 account ≡ c.args.text.now) in
    subst P (sym c.account_of.ensures) (account_spelled c.args.text.now)

pub returns-clause-whole : goal.returns-clause-whole
returns-clause-whole c = λ account small e. c.account_of.ensures ∙ account_whole c.args.text.now account small e
