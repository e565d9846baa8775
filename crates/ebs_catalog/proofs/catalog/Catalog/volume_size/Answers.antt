use Rattle.std.proofs.Common.{◌≡◌, ◌<◌, ◌^◌, true, Option, unwrap_or, sym, ap, subst, ◌∙◌}
use Rattle.ebs_model.specs.declared.keys.SnapKey.{SnapKey}
use Rattle.ebs_model.specs.Limits.{is_size}
use Rattle.ebs_model.specs.inner.Rows.{aged}
use Rattle.ebs_catalog.specs.Held.{rows_in}
use Rattle.ebs_catalog.specs.Decided.{IsVolumeSize, IsOfSource}
use Rattle.ebs_catalog.proofs.Commits.{size-fits}
use Rattle.ebs_catalog.proofs.Creates.{sized-row}
use Rattle.ebs_catalog.proofs.catalog.Catalog.volume_size.Goals as goal

pub narrow-requires : goal.narrow-requires
narrow-requires c =
    let rows = rows_in c.args.self.now in
    let now = c.args.at.second in
    let size = unwrap_or c.args.size 0 in
    let of : IsOfSource (aged now rows) c.in-Some.origin size = subst (λ (o : Option SnapKey). IsVolumeSize (aged now rows) o size) c.in-Some.is c.requires in
    let sound = of.within (sized-row now rows.snaps c.in-Some.origin of.row of.found c.limits.ensures) in
    subst (λ n. n < 2 ^ 32) (sym c.unwrap_or-size.ensures) (size-fits size sound)

pub returns-in-Some-clause-sound : goal.returns-in-Some-clause-sound
returns-in-Some-clause-sound c =
    let rows = rows_in c.args.self.now in
    let now = c.args.at.second in
    let size = unwrap_or c.args.size 0 in
    let of : IsOfSource (aged now rows) c.in-Some.origin size = subst (λ (o : Option SnapKey). IsVolumeSize (aged now rows) o size) c.in-Some.is c.requires in
    ap is_size (c.narrow.ensures ∙ c.unwrap_or-size.ensures) ∙ of.within (sized-row now rows.snaps c.in-Some.origin of.row of.found c.limits.ensures)

pub narrow-requires-in-None : goal.narrow-requires-in-None
narrow-requires-in-None c =
    let rows = rows_in c.args.self.now in
    let now = c.args.at.second in
    let size = unwrap_or c.args.size 0 in
    let sound : is_size size ≡ true = subst (λ (o : Option SnapKey). IsVolumeSize (aged now rows) o size) c.in-None.is c.requires in
    subst (λ n. n < 2 ^ 32) (sym c.unwrap_or-size.ensures) (size-fits size sound)
