use Rattle.std.proofs.Common.{ap}
use Rattle.std.specs.FinMap.{from_entries}
use Rattle.ebs_tables.proofs.Clones.{same_entries}
use Rattle.ebs_tables.proofs.table.Table.copy.Goals as goal

pub returns : goal.returns
returns g c = ap from_entries (same_entries _ _ g.met.K.ExactClone.same g.met.V.ExactClone.same c.args.self.now.rows.entries c.in_ok-rows.rows.entries c.in_ok-rows.ensures.cases)
