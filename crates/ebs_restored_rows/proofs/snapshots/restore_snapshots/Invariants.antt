use Rattle.std.proofs.Common.{◌≡◌, vec_len, All}
use Rattle.ebs_catalog.specs.Held.{rows_in}
use Rattle.ebs_restored_rows.specs.Placed.{put_all, with_snapshot}
use Rattle.ebs_restored_rows.specs.Restores.{MayRestoreSnapshot}
use Rattle.ebs_restored_rows.proofs.snapshots.restore_snapshots.Given as goal

abbrev pub invariant-snapshot : goal.invariant-snapshot
invariant-snapshot l = record {
  may : All (MayRestoreSnapshot (rows_in l.catalog).own) l.rows.items;
  rows : put_all with_snapshot (rows_in l.catalog) l.rows.items ≡ put_all with_snapshot (rows_in l.initial.catalog) l.fn.snapshots;
  latest : l.catalog.latest ≡ l.initial.catalog.latest;
}

abbrev pub decreases-snapshot : goal.decreases-snapshot
decreases-snapshot l = vec_len l.rows
