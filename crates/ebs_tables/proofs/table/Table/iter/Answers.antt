use Rattle.std.proofs.Common.{sym, ◌∙◌}
use Rattle.ebs_tables.proofs.TreeMaps.{entries-seen}
use Rattle.ebs_tables.proofs.table.Table.iter.Goals as goal

pub returns-clause-values : goal.returns-clause-values
returns-clause-values g c = c.iter.ensures.rest ∙ sym (entries-seen g.met.K.Ord.total c.args.self.now.rows.entries c.iter.ensures.ordered)
