use Rattle.std.proofs.Common.{length}
use Rattle.ebs_model.proofs.limits.+has_distinct_rule_keys.Given as goal

abbrev pub decreases-has_distinct_rule_keys : goal.decreases-has_distinct_rule_keys
decreases-has_distinct_rule_keys l = length l.tags.now
