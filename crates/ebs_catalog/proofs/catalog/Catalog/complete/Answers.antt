use Rattle.std.proofs.Common.{refl, ap, ◌∙◌}
use Rattle.std.specs.FinMap.{insert}
use Rattle.ebs_tables.specs.Full.{full}
use Rattle.ebs_model.specs.Rows.{Rows, changed_row}
use Rattle.ebs_model.specs.inner.Rows.{aged}
use Rattle.ebs_catalog.specs.Held.{rows_in}
use Rattle.ebs_catalog.proofs.Stale.{stale_in, stale-removed}
use Rattle.ebs_catalog.proofs.Commits.{raw-found, row-aged, left-empty, others}
use Rattle.ebs_model.specs.Calls.Complete.{completed_row}
use Rattle.ebs_catalog.proofs.catalog.Catalog.complete.Goals as goal

pub returns-clause-rows : goal.returns-clause-rows
returns-clause-rows c =
    let rows = rows_in c.args.self.now in
    let now = c.args.at.second in
    let k = c.args.key.now in
    let o = c.requires.pending in
    let raw = raw-found now rows.snaps k o.row o.found o.pending in
    ap (aged now) c.commit_complete.ensures.rows
    ∙ row-aged now rows k o.row completed_row raw.0 o.found (left-empty now (completed_row o.row) raw.1 refl)

pub returns-clause-stale : goal.returns-clause-stale
returns-clause-stale c =
    let rows = rows_in c.args.self.now in
    let now = c.args.at.second in
    let k = c.args.key.now in
    let o = c.requires.pending in
    let raw = raw-found now rows.snaps k o.row o.found o.pending in
    let new = ap (λ (r : Rows). r.snaps) c.commit_complete.ensures.rows ∙ ap (changed_row rows.snaps k completed_row) raw.0 in
    (λ i. stale_in (new i) (c.commit_complete.ensures.waits i) now)
    ∙ stale-removed rows.snaps (insert rows.snaps k (completed_row o.row)) (full c.args.self.now.waits) k now (others rows.snaps k (completed_row o.row))
