use Rattle.std.proofs.Common.{ap, ◌∙◌}
use Rattle.std.specs.FinMap.{get}
use Rattle.ebs_tables.specs.Full.{held}
use Rattle.ebs_model.specs.Keys.{snap_cmp}
use Rattle.ebs_catalog.specs.Held.{Held, rows_in}
use Rattle.ebs_catalog.proofs.RowsKept.{limited}
use Rattle.ebs_catalog.proofs.catalog.Catalog.starts.Goals as goal

pub returns : goal.returns
returns c = λ key row e. (limited (held snap_cmp c.self.inside.snaps) key row c.self.invariant.0.0 (ap (λ (h : Held). get (rows_in h).snaps key) c.self.view_is ∙ e)).start
