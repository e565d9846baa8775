use Rattle.ebs_catalog.specs.Held.{rows_in}
use Rattle.ebs_restored_rows.proofs.Allowed.{tokens-may}
use Rattle.ebs_restored_rows.proofs.accounts.restore_account.Goals as goal

pub restore_tokens-requires : goal.restore_tokens-requires
restore_tokens-requires c = tokens-may (rows_in c.args.catalog.now) (rows_in c.restore_own.new.catalog) c.args.row c.in_ok-restore_own.ensures.rows c.requires
