use Rattle.std.proofs.Common.{length}
use Rattle.ebs_pointed.proofs.fields.+check_accounts.Given as goal

abbrev pub decreases-check_accounts : goal.decreases-check_accounts
decreases-check_accounts l = length l.accounts.now
