use Rattle.std.proofs.Common.{not, Option, ap, ◌∙◌}
use Rattle.std.specs.List.{filter}
use Rattle.ebs_model.specs.declared.keys.SnapKey.{SnapKey}
use Rattle.ebs_model.specs.inner.Rows.{aged}
use Rattle.ebs_catalog.specs.Held.{rows_in, stale, is_about_by}
use Rattle.ebs_catalog.proofs.Passes.{decided-passed}
use Rattle.ebs_catalog.proofs.Policed.{about-others}
use Rattle.ebs_catalog.proofs.catalog.Catalog.commit_others.Goals as goal

pub commit_request-requires-clause-decided : goal.commit_request-requires-clause-decided
commit_request-requires-clause-decided c = decided-passed (aged c.args.change.at.second (rows_in c.args.self.now)) c.args.change c.requires.decided

pub returns-clause-stale : goal.returns-clause-stale
returns-clause-stale c =
    c.commit_request.ensures.stale
    ∙ ap (λ (o : Option SnapKey). filter (λ q. not (is_about_by o c.args.change.request q)) (stale c.args.self.now c.args.change.at.second)) c.made_snap-snapshot.ensures
    ∙ about-others c.args.change c.requires.policies (stale c.args.self.now c.args.change.at.second)
