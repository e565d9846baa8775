use Rattle.std.proofs.Common.{sym, ◌∙◌}
use Rattle.ebs_model.specs.Decisions.{made_snap}
use Rattle.ebs_model.specs.inner.Rows.{aged}
use Rattle.ebs_catalog.specs.Held.{rows_in, stale}
use Rattle.ebs_catalog.proofs.Passes.{decided-policies}
use Rattle.ebs_catalog.proofs.Policed.{about-table}
use Rattle.ebs_catalog.proofs.catalog.Catalog.commit_policies.Goals as goal

pub commit_table-requires-clause-decided : goal.commit_table-requires-clause-decided
commit_table-requires-clause-decided c = decided-policies (aged c.args.change.at.second (rows_in c.args.self.now)) c.args.change c.requires.decided

pub returns-else-is_run-clause-stale : goal.returns-else-is_run-clause-stale
returns-else-is_run-clause-stale c =
    let change = c.args.change in
    let before = stale c.args.self.now change.at.second in
    c.commit_table.ensures.stale change.at.second
    ∙ sym (about-table (made_snap change.made) change.made change.ended change.request c.requires.call (sym c.is_run.ensures ∙ c.if-is_run.false) before)
