use Rattle.std.proofs.Common.{length}
use Rattle.ebs_point.proofs.fields.+check_slots.Given as goal

abbrev pub decreases-check_slots : goal.decreases-check_slots
decreases-check_slots l = length l.rows.now
