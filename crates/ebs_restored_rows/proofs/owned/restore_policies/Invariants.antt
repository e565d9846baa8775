use Rattle.std.proofs.Common.{◌≡◌, vec_len, All}
use Rattle.ebs_catalog.specs.Held.{rows_in}
use Rattle.ebs_restored_rows.specs.Placed.{put_all, with_policy}
use Rattle.ebs_restored_rows.specs.Restores.{MayRestorePolicy}
use Rattle.ebs_restored_rows.proofs.owned.restore_policies.Given as goal

abbrev pub invariant-policy : goal.invariant-policy
invariant-policy l = record {
  may : All MayRestorePolicy l.rows.items;
  rows : put_all with_policy (rows_in l.catalog) l.rows.items ≡ put_all with_policy (rows_in l.initial.catalog) l.fn.policies;
  latest : l.catalog.latest ≡ l.initial.catalog.latest;
}

abbrev pub decreases-policy : goal.decreases-policy
decreases-policy l = vec_len l.rows
