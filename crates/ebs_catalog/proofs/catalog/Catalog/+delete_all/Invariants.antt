use Rattle.std.proofs.Common.{length}
use Rattle.ebs_catalog.proofs.catalog.Catalog.+delete_all.Given as goal

abbrev pub decreases-delete_all : goal.decreases-delete_all
decreases-delete_all l = length l.keys.now
