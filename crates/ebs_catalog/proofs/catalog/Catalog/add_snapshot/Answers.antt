use Rattle.std.proofs.Common.{not, Option, refl, sym, ap, ◌∙◌}
use Rattle.std.specs.List.{filter}
use Rattle.std.specs.FinMap.{get, insert}
use Rattle.ebs_tables.specs.Full.{full}
use Rattle.ebs_model.specs.declared.keys.SnapKey.{SnapKey}
use Rattle.ebs_model.specs.inner.Orders.{snaps_total, exact_snaps}
use Rattle.ebs_model.specs.Rows.{Rows}
use Rattle.ebs_model.specs.inner.Rows.{aged}
use Rattle.ebs_model.specs.Step.{is_made}
use Rattle.ebs_model.specs.Calls.Disk.{snapped_row, with_snapped, commit_snap}
use Rattle.ebs_catalog.specs.Held.{rows_in, is_ended, stale}
use Rattle.ebs_catalog.proofs.Stale.{stale_in}
use Rattle.ebs_catalog.proofs.RowsKept.{found}
use Rattle.ebs_catalog.proofs.Commits.{snapped-aged, open-ended, filter-all, stale-kept, others}
use Rattle.ebs_catalog.proofs.catalog.Catalog.add_snapshot.Goals as goal

pub returns-in-Some-clause-rows : goal.returns-in-Some-clause-rows
returns-in-Some-clause-rows c =
    let rows = rows_in c.args.self.now in
    let at = c.args.at in
    let volume = c.args.volume.now in
    ap (aged at.second) c.commit_snap.ensures.rows
    ∙ snapped-aged at.second rows at c.in-Some.key volume c.args.description c.args.tags (get rows.vols volume)
    ∙ ap (λ o. commit_snap (aged at.second rows) at o volume c.args.description c.args.tags) (sym c.in-Some.is)

pub returns-in-Some-clause-stale : goal.returns-in-Some-clause-stale
returns-in-Some-clause-stale c =
    let rows = rows_in c.args.self.now in
    let at = c.args.at in
    let k = c.in-Some.key in
    let volume = c.args.volume.now in
    let row = snapped_row at k volume c.requires.there.row c.args.description c.args.tags in
    let new = ap (λ (r : Rows). r.snaps) (c.commit_snap.ensures.rows ∙ ap (with_snapped rows at k volume c.args.description c.args.tags) c.requires.there.found) in
    let ended = ap (is_ended at.second) (found snaps_total exact_snaps rows.snaps k row) ∙ open-ended at.second row refl refl in
    (λ i. stale_in (new i) (c.commit_snap.ensures.waits i) at.second)
    ∙ stale-kept rows.snaps (insert rows.snaps k row) k at.second (others rows.snaps k row) ended (full c.args.self.now.waits)
    ∙ ap (λ (o : Option SnapKey). filter (λ q. not (is_made q o)) (stale c.args.self.now at.second)) (sym c.in-Some.is)

pub returns-in-None-clause-stale : goal.returns-in-None-clause-stale
returns-in-None-clause-stale c = sym (filter-all (stale c.args.self.now c.args.at.second)) ∙ ap (λ (o : Option SnapKey). filter (λ q. not (is_made q o)) (stale c.args.self.now c.args.at.second)) (sym c.in-None.is)
