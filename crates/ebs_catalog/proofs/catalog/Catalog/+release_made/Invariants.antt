use Rattle.std.proofs.Common.{length}
use Rattle.ebs_catalog.proofs.catalog.Catalog.+release_made.Given as goal

abbrev pub decreases-release_made : goal.decreases-release_made
decreases-release_made l = length l.made.now
