use Rattle.std.proofs.Common.{length}
use Rattle.ebs_holds.proofs.changes.+begin_run.Given as goal

abbrev pub decreases-begin_run : goal.decreases-begin_run
decreases-begin_run l = length l.sources.now
