use Rattle.std.proofs.Common.{length}
use Rattle.ebs_model.proofs.limits.+rises.Given as goal

abbrev pub decreases-rises : goal.decreases-rises
decreases-rises l = length l.accounts.now
