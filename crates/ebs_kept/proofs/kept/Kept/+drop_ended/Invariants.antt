use Rattle.std.proofs.Common.{length}
use Rattle.ebs_kept.proofs.kept.Kept.+drop_ended.Given as goal

abbrev pub decreases-drop_ended : goal.decreases-drop_ended
decreases-drop_ended l = length l.ended.now
