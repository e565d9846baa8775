use Rattle.std.proofs.Common.{◌≡◌, vec_len}
use Rattle.ebs_catalog.specs.Held.{rows_in}
use Rattle.ebs_restored_rows.specs.Placed.{put_all, with_token}
use Rattle.ebs_restored_rows.specs.Restores.{MayRestoreTokens}
use Rattle.ebs_restored_rows.proofs.accounts.restore_tokens.Given as goal

abbrev pub invariant-token : goal.invariant-token
invariant-token l = record {
  may : MayRestoreTokens (rows_in l.catalog).own l.account l.rows.items;
  rows : put_all (with_token l.account) (rows_in l.catalog) l.rows.items ≡ put_all (with_token l.account) (rows_in l.initial.catalog) l.fn.tokens;
  latest : l.catalog.latest ≡ l.initial.catalog.latest;
}

abbrev pub decreases-token : goal.decreases-token
decreases-token l = vec_len l.rows
