use Rattle.std.proofs.Common.{length}
use Rattle.ebs_catalog.proofs.catalog.Catalog.+prepare_ended.Given as goal

abbrev pub decreases-prepare_ended : goal.decreases-prepare_ended
decreases-prepare_ended l = length l.ended.now
