use Rattle.std.proofs.Common.{◌≡◌, true, sym, ap, ◌∙◌}
use Rattle.std.specs.FinMap.{insert}
use Rattle.ebs_tables.specs.Full.{full}
use Rattle.ebs_model.specs.declared.rows.SnapRow.{SnapRow}
use Rattle.ebs_model.specs.Rows.{Rows, changed_row}
use Rattle.ebs_model.specs.inner.Rows.{aged}
use Rattle.ebs_model.specs.Calls.Bin.{recovered}
use Rattle.ebs_catalog.specs.Held.{rows_in}
use Rattle.ebs_catalog.proofs.Stale.{stale_in, stale-removed}
use Rattle.ebs_catalog.proofs.Commits.{others}
use Rattle.ebs_catalog.proofs.Binned.{raw, raw-completed, recovered-aged}
use Rattle.ebs_catalog.proofs.catalog.Catalog.recover.Goals as goal

pub take_from_bin-requires : goal.take_from_bin-requires
take_from_bin-requires c =
    let b = c.requires.binned in
    record { completed = raw-completed (rows_in c.args.self.now) c.args.at c.args.key.now b.row b.found b.ahead c.limits.ensures }

pub returns-clause-rows : goal.returns-clause-rows
returns-clause-rows c =
    let rows = rows_in c.args.self.now in
    let b = c.requires.binned in
    let r = raw c.args.at.second rows.snaps c.args.key.now b.row b.found in
    let whole : r.kept.completed ≡ true = raw-completed rows c.args.at c.args.key.now b.row b.found b.ahead c.limits.ensures r.kept r.at in
    ap (aged c.args.at.second) c.take_from_bin.ensures.rows
    ∙ recovered-aged rows c.args.at c.args.key.now b.row b.found (ap (λ (x : SnapRow). x.completed) (sym r.rested) ∙ whole)

pub returns-clause-stale : goal.returns-clause-stale
returns-clause-stale c =
    let rows = rows_in c.args.self.now in
    let now = c.args.at.second in
    let k = c.args.key.now in
    let b = c.requires.binned in
    let r = raw now rows.snaps k b.row b.found in
    let new = ap (λ (r : Rows). r.snaps) c.take_from_bin.ensures.rows ∙ ap (changed_row rows.snaps k recovered) r.at in
    (λ i. stale_in (new i) (c.take_from_bin.ensures.waits i) now)
    ∙ stale-removed rows.snaps (insert rows.snaps k (recovered r.kept)) (full c.args.self.now.waits) k now (others rows.snaps k (recovered r.kept))
