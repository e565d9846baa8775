use Rattle.std.proofs.Common.{sym, ◌∙◌}
use Rattle.ebs_tables.proofs.TreeMaps.{len-seen}
use Rattle.ebs_tables.proofs.table.Table.len.Goals as goal

pub returns-clause-len : goal.returns-clause-len
returns-clause-len g c = c.len.ensures.len ∙ sym (len-seen g.met.K.Ord.total c.args.self.now.rows.entries c.len.ensures.ordered)
