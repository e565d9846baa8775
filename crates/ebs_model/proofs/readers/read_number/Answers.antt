use Rattle.std.proofs.Common.{ℕ, ◌<◌, ◌^◌, sym, subst, IfSome}
use Rattle.std.specs.declared.option.Option.{Option}
use Rattle.ebs_model.proofs.ReaderLaws.{number_below}
use Rattle.ebs_model.proofs.readers.read_number.Goals as goal

pub returns-clause-below : goal.returns-clause-below
returns-clause-below c =
    let P : Option ℕ → Type 0 = λ r. IfSome r (λ number. number < 10 ^ 10) in
    subst P (sym c.number_of.ensures) (number_below c.args.text.now)
