use Rattle.std.proofs.Common.{length}
use Rattle.ebs_catalog.proofs.catalog.Catalog.+release_ended.Given as goal

abbrev pub decreases-release_ended : goal.decreases-release_ended
decreases-release_ended l = length l.ended.now
