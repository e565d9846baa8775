use Rattle.std.proofs.Common.{sym, ap, ◌∙◌}
use Rattle.ebs_tables.proofs.TreeMaps.{rewritten}
use Rattle.ebs_model.specs.Time.{rested_row, stays}
use Rattle.ebs_catalog.specs.Held.{rows_in}
use Rattle.ebs_pointed.proofs.Keys.{entries-left, have_kept_keys}
use Rattle.ebs_pointed.proofs.snapshots.snapshots_of.Goals as goal

pub rows_at-requires : goal.rows_at-requires
rows_at-requires c = have_kept_keys (rows_in c.args.catalog.now).snaps c.snapshots.result c.snapshots.ensures c.requires

pub returns-clause-listed : goal.returns-clause-listed
returns-clause-listed c =
    let now = c.args.at.second in
    entries-left now (rows_in c.args.catalog.now).snaps ∙ ap (rewritten (stays now) (rested_row now)) (sym c.snapshots.ensures) ∙ c.in_ok-points.ensures.listed
