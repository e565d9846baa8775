use Rattle.std.proofs.Common.{length}
use Rattle.ebs_holds.proofs.changes.+prepare_all.Given as goal

abbrev pub decreases-prepare_all : goal.decreases-prepare_all
decreases-prepare_all l = length l.made.now
