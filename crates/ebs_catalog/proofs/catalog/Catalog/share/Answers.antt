use Rattle.std.proofs.Common.{refl, ap, ◌∙◌}
use Rattle.ebs_tables.specs.Full.{full}
use Rattle.ebs_model.specs.Time.{status_at}
use Rattle.ebs_model.specs.Rows.{Rows, changed_row}
use Rattle.ebs_model.specs.inner.Rows.{aged}
use Rattle.ebs_catalog.specs.Held.{rows_in}
use Rattle.ebs_catalog.specs.Shows.{shared_row}
use Rattle.ebs_catalog.proofs.Stale.{stale_in}
use Rattle.ebs_catalog.proofs.Commits.{raw-sound, done-sound, row-aged, left-open, stale-again}
use Rattle.ebs_catalog.proofs.catalog.Catalog.share.Goals as goal

pub returns-clause-rows : goal.returns-clause-rows
returns-clause-rows c =
    let rows = rows_in c.args.self.now in
    let now = c.args.at.second in
    let k = c.args.key.now in
    let f = shared_row c.args.shared c.args.add_all c.args.remove_all in
    let d = c.requires.done in
    let sound = done-sound (status_at d.row now) d.completed in
    let raw = raw-sound now rows.snaps k d.row d.found sound in
    ap (aged now) c.commit_permission.ensures.rows
    ∙ row-aged now rows k d.row f raw.0 d.found (left-open now (f d.row) raw.1 sound)

pub returns-clause-stale : goal.returns-clause-stale
returns-clause-stale c =
    let rows = rows_in c.args.self.now in
    let now = c.args.at.second in
    let k = c.args.key.now in
    let f = shared_row c.args.shared c.args.add_all c.args.remove_all in
    let d = c.requires.done in
    let raw = raw-sound now rows.snaps k d.row d.found (done-sound (status_at d.row now) d.completed) in
    let new = ap (λ (r : Rows). r.snaps) c.commit_permission.ensures.rows ∙ ap (changed_row rows.snaps k f) raw.0 in
    (λ i. stale_in (new i) (c.commit_permission.ensures.waits i) now)
    ∙ stale-again rows.snaps k d.row (f d.row) now (full c.args.self.now.waits) raw.0 refl
