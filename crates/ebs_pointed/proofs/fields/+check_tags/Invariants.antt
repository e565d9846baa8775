use Rattle.std.proofs.Common.{length}
use Rattle.ebs_pointed.proofs.fields.+check_tags.Given as goal

abbrev pub decreases-check_tags : goal.decreases-check_tags
decreases-check_tags l = length l.tags.now
