use Rattle.std.proofs.Common.{refl, sym, ap, subst, ◌∙◌}
use Rattle.std.specs.FinMap.{get, insert}
use Rattle.ebs_tables.specs.Full.{full}
use Rattle.ebs_model.specs.declared.rows.SnapRow.{SnapRow}
use Rattle.ebs_model.specs.Rows.{Rows, changed_row}
use Rattle.ebs_model.specs.inner.Rows.{aged}
use Rattle.ebs_catalog.specs.Held.{rows_in, is_ended, HasIndex}
use Rattle.ebs_catalog.proofs.Stale.{stale_in}
use Rattle.ebs_catalog.proofs.RowsKept.{found}
use Rattle.ebs_model.specs.inner.Orders.{snaps_total, exact_snaps}
use Rattle.ebs_catalog.proofs.Commits.{raw-found, row-aged, fresh, still-open, left-open, open-ended, stale-kept, others, index-fits}
use Rattle.ebs_model.specs.Calls.Put.{put_row}
use Rattle.ebs_catalog.proofs.catalog.Catalog.add_index.Goals as goal

pub narrow-requires : goal.narrow-requires
narrow-requires c =
    let rows = rows_in c.args.self.now in
    let p = c.requires.place in
    let raw = raw-found c.args.at.second rows.snaps c.args.key.now p.row p.found p.pending in
    index-fits c.args.index p.row.size (c.limits.ensures p.row raw.0).size p.within

pub commit_put-requires : goal.commit_put-requires
commit_put-requires c =
    let rows = rows_in c.args.self.now in
    let p = c.requires.place in
    let raw = raw-found c.args.at.second rows.snaps c.args.key.now p.row p.found p.pending in
    let fits = index-fits c.args.index p.row.size (c.limits.ensures p.row raw.0).size p.within in
    record { room = subst (λ n. HasIndex (get (full c.args.self.now.snaps) c.args.key.now) n) (sym c.narrow.ensures) (c.requires.room fits); waits = c.awaits.ensures p.row raw.0 p.pending }

pub returns-clause-rows : goal.returns-clause-rows
returns-clause-rows c =
    let rows = rows_in c.args.self.now in
    let at = c.args.at in
    let k = c.args.key.now in
    let p = c.requires.place in
    let raw = raw-found at.second rows.snaps k p.row p.found p.pending in
    let row : SnapRow = put_row at c.args.index p.row in
    let timeout = (c.limits.ensures p.row raw.0).timeout (still-open at.second p.row p.pending) in
    ap (aged at.second) (c.commit_put.ensures.rows ∙ (λ i. record rows { snaps = changed_row rows.snaps k (put_row at (c.narrow.ensures i)) (get rows.snaps k) }))
    ∙ row-aged at.second rows k p.row (put_row at c.args.index) raw.0 p.found (left-open at.second row raw.1 (fresh at row refl timeout))

pub returns-clause-stale : goal.returns-clause-stale
returns-clause-stale c =
    let rows = rows_in c.args.self.now in
    let at = c.args.at in
    let k = c.args.key.now in
    let p = c.requires.place in
    let raw = raw-found at.second rows.snaps k p.row p.found p.pending in
    let row : SnapRow = put_row at c.args.index p.row in
    let timeout = (c.limits.ensures p.row raw.0).timeout (still-open at.second p.row p.pending) in
    let new = ap (λ (r : Rows). r.snaps) c.commit_put.ensures.rows ∙ (λ i. changed_row rows.snaps k (put_row at (c.narrow.ensures i)) (raw.0 i)) in
    let ended = ap (is_ended at.second) (found snaps_total exact_snaps rows.snaps k row) ∙ open-ended at.second row raw.1 (fresh at row refl timeout) in
    (λ i. stale_in (new i) (c.commit_put.ensures.waits i) at.second)
    ∙ stale-kept rows.snaps (insert rows.snaps k row) k at.second (others rows.snaps k row) ended (full c.args.self.now.waits)
