use Rattle.std.proofs.Common.{length}
use Rattle.ebs_catalog.proofs.catalog.Catalog.+free_all.Given as goal

abbrev pub decreases-free_all : goal.decreases-free_all
decreases-free_all l = length l.keys.now
