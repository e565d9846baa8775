use Rattle.std.proofs.Common.{not, sym, ap, ◌∙◌}
use Rattle.std.specs.List.{filter}
use Rattle.ebs_model.specs.declared.request.Request.{Request}
use Rattle.ebs_catalog.specs.Held.{stale, is_about_by}
use Rattle.ebs_catalog.proofs.Commits.{filter-all}
use Rattle.ebs_catalog.proofs.catalog.Catalog.commit_request.Goals as goal

pub returns-in-CreateVolume-clause-stale : goal.returns-in-CreateVolume-clause-stale
returns-in-CreateVolume-clause-stale c =
    let before = stale c.args.self.now c.args.at.second in
    c.add_volume.ensures.stale ∙ sym (filter-all before) ∙ ap (λ (r : Request). filter (λ q. not (is_about_by c.args.made.now r q)) before) (sym c.in-CreateVolume.is)

pub returns-in_default : goal.returns-in_default
returns-in_default c =
    let made = c.args.made.now in
    record { rows = c.commit_rows.ensures.rows made c.args.volume.now; stale = c.commit_rows.ensures.stale made; latest = c.commit_rows.ensures.latest }
