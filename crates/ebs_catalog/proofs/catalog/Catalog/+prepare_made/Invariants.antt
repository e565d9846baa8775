use Rattle.std.proofs.Common.{length}
use Rattle.ebs_catalog.proofs.catalog.Catalog.+prepare_made.Given as goal

abbrev pub decreases-prepare_made : goal.decreases-prepare_made
decreases-prepare_made l = length l.made.now
