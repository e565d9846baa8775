use Rattle.std.proofs.Common.{length}
use Rattle.ebs_holds.proofs.changes.+give_back_all.Given as goal

abbrev pub decreases-give_back_all : goal.decreases-give_back_all
decreases-give_back_all l = length l.made.now
