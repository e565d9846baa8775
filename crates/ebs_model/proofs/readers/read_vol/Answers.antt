use Rattle.std.proofs.Common.{◌≡◌, ◌<◌, ◌^◌, ◌∙◌, sym, subst, IfSome}
use Rattle.std.specs.declared.option.Option.{Option}
use Rattle.ebs_model.specs.Ids.{vol_id}
use Rattle.ebs_model.specs.declared.keys.VolKey.{VolKey}
use Rattle.ebs_model.proofs.ReaderLaws.{vol_spelled, vol_spelled_text, vol_spelled_below, vol_whole}
use Rattle.ebs_model.proofs.readers.read_vol.Goals as goal

pub returns-clause-spelled : goal.returns-clause-spelled
returns-clause-spelled c =
    let P : Option VolKey → Type 0 = λ r. IfSome r (λ key. vol_id key ≡ c.args.text.now) in
    subst P (sym c.vol_of.ensures) (vol_spelled_text _ c.args.text.now (vol_spelled c.args.text.now))

pub returns-clause-below : goal.returns-clause-below
returns-clause-below c =
    let P : Option VolKey → Type 0 = λ r. IfSome r (λ key. key.number < 2 ^ 28) in
    subst P (sym c.vol_of.ensures) (vol_spelled_below _ c.args.text.now (vol_spelled c.args.text.now))

pub returns-clause-whole : goal.returns-clause-whole
returns-clause-whole c = λ key small low e. c.vol_of.ensures ∙ vol_whole key c.args.text.now small low e
