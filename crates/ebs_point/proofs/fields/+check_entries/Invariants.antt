use Rattle.std.proofs.Common.{length}
use Rattle.ebs_point.proofs.fields.+check_entries.Given as goal

abbrev pub decreases-check_entries : goal.decreases-check_entries
decreases-check_entries l = length l.entries.now
