use Rattle.std.proofs.Common.{sym, ◌∙◌}
use Rattle.ebs_tables.proofs.TreeMaps.{get-seen}
use Rattle.ebs_tables.proofs.table.Table.get.Goals as goal

pub returns : goal.returns
returns g c = c.get.ensures.value ∙ sym (get-seen g.met.K.Ord.total c.args.self.now.rows.entries c.args.key.now)
