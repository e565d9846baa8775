use Rattle.std.proofs.Common.{length}
use Rattle.ebs_catalog.proofs.catalog.Catalog.+add_new_rows.Given as goal

abbrev pub decreases-add_new_rows : goal.decreases-add_new_rows
decreases-add_new_rows l = length l.made.now
