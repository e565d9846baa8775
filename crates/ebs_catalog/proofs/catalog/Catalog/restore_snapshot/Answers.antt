use Rattle.std.proofs.Common.{cond, is_some, ap, ◌∙◌}
use Rattle.std.specs.FinMap.{contains_key, insert}
use Rattle.ebs_tables.specs.Full.{held}
use Rattle.ebs_model.specs.Keys.{snap_cmp}
use Rattle.ebs_model.specs.inner.Orders.{snaps_total, exact_snaps}
use Rattle.ebs_catalog.proofs.RowsKept.{found}
use Rattle.ebs_catalog.proofs.Stale.{Waits}
use Rattle.ebs_catalog.proofs.catalog.Catalog.restore_snapshot.Goals as goal

pub fill_snapshot-requires-clause-waits : goal.fill_snapshot-requires-clause-waits
fill_snapshot-requires-clause-waits c = λ e.
    let key = c.args.row.key in
    let w = held snap_cmp c.self.inside.waits in
    ap (λ (x : Waits). contains_key x key) c.in_ok-begin_wait.ensures.waits ∙ ap (λ b. contains_key (cond b (insert w key tt) w) key) e ∙ ap is_some (found snaps_total exact_snaps w key tt)
