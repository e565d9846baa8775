use Rattle.std.proofs.Common.{◌≡◌, ◌≤◌, length}
use Rattle.ebs_model.specs.inner.Rows.{aged}
use Rattle.ebs_catalog.specs.Held.{rows_in, stale}
use Rattle.ebs_kept.specs.inner.Counted.{KeepsShown}
use Rattle.ebs_kept.proofs.collecting.end_rows.Given as goal

abbrev pub invariant-loop-key : goal.invariant-loop-key
invariant-loop-key l = record {
  rows : aged l.now.second (rows_in l.catalog) ≡ aged l.now.second (rows_in l.fn.catalog);
  latest : l.catalog.latest ≤ l.now.second;
  keeps : KeepsShown l.now.second (rows_in l.fn.catalog) l.fn.holdings l.holdings;
}

abbrev pub decreases-loop-key : goal.decreases-loop-key
decreases-loop-key l = length (stale l.catalog l.now.second)
