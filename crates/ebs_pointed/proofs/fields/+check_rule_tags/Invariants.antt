use Rattle.std.proofs.Common.{length}
use Rattle.ebs_pointed.proofs.fields.+check_rule_tags.Given as goal

abbrev pub decreases-check_rule_tags : goal.decreases-check_rule_tags
decreases-check_rule_tags l = length l.tags.now
