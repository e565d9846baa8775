use Rattle.std.proofs.Common.{◌≡◌, vec_len, All}
use Rattle.ebs_catalog.specs.Held.{rows_in}
use Rattle.ebs_restored_rows.specs.Placed.{put_all, with_volume}
use Rattle.ebs_restored_rows.specs.Restores.{MayRestoreVolume}
use Rattle.ebs_restored_rows.proofs.owned.restore_volumes.Given as goal

abbrev pub invariant-volume : goal.invariant-volume
invariant-volume l = record {
  may : All (MayRestoreVolume (rows_in l.catalog).own) l.rows.items;
  rows : put_all with_volume (rows_in l.catalog) l.rows.items ≡ put_all with_volume (rows_in l.initial.catalog) l.fn.volumes;
  latest : l.catalog.latest ≡ l.initial.catalog.latest;
}

abbrev pub decreases-volume : goal.decreases-volume
decreases-volume l = vec_len l.rows
