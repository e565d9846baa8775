use Rattle.std.proofs.Common.{sym, ◌∙◌}
use Rattle.ebs_tables.proofs.TreeMaps.{get-seen, remove-seen}
use Rattle.ebs_tables.proofs.table.Table.remove.Goals as goal

pub returns-clause-value : goal.returns-clause-value
returns-clause-value g c = c.remove.ensures.value ∙ sym (get-seen g.met.K.Ord.total c.args.self.now.rows.entries c.args.key.now)

pub returns-clause-rest : goal.returns-clause-rest
returns-clause-rest g c = remove-seen g.met.K.Ord.total g.met.K.Key.exact c.args.self.now.rows.entries c.remove.new.self.entries c.args.key.now c.remove.ensures.updates.0
