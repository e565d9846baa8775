use Rattle.std.proofs.Common.{◌≡◌, vec_len, All}
use Rattle.ebs_catalog.specs.Held.{rows_in}
use Rattle.ebs_restored_rows.specs.Placed.{put_all, with_account}
use Rattle.ebs_restored_rows.specs.Restores.{MayRestoreAccount}
use Rattle.ebs_restored_rows.proofs.accounts.restore_accounts.Given as goal

abbrev pub invariant-account : goal.invariant-account
invariant-account l = record {
  may : All MayRestoreAccount l.rows.items;
  rows : put_all with_account (rows_in l.catalog) l.rows.items ≡ put_all with_account (rows_in l.initial.catalog) l.fn.accounts;
  latest : l.catalog.latest ≡ l.initial.catalog.latest;
}

abbrev pub decreases-account : goal.decreases-account
decreases-account l = vec_len l.rows
