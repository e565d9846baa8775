use Rattle.std.proofs.Common.{◌≡◌, ◌<◌, ◌^◌, ◌∙◌, sym, subst, IfSome}
use Rattle.std.specs.declared.option.Option.{Option}
use Rattle.ebs_model.specs.Ids.{snap_id}
use Rattle.ebs_model.specs.declared.keys.SnapKey.{SnapKey}
use Rattle.ebs_model.proofs.ReaderLaws.{snap_spelled, spelled_text, spelled_below, snap_whole}
use Rattle.ebs_model.proofs.readers.read_snap.Goals as goal

pub returns-clause-spelled : goal.returns-clause-spelled
returns-clause-spelled c =
    let P : Option SnapKey → Type 0 = λ r. IfSome r (λ key. snap_id key ≡ c.args.text.now) in
    subst P (sym c.snap_of.ensures) (spelled_text _ c.args.text.now (snap_spelled c.args.text.now))

pub returns-clause-below : goal.returns-clause-below
returns-clause-below c =
    let P : Option SnapKey → Type 0 = λ r. IfSome r (λ key. key.number < 2 ^ 28) in
    subst P (sym c.snap_of.ensures) (spelled_below _ c.args.text.now (snap_spelled c.args.text.now))

pub returns-clause-whole : goal.returns-clause-whole
returns-clause-whole c = λ key small low e. c.snap_of.ensures ∙ snap_whole key c.args.text.now small low e
