use Rattle.std.proofs.Common.{is_some, sym, ap, ◌∙◌}
use Rattle.ebs_tables.proofs.TreeMaps.{get-seen}
use Rattle.ebs_tables.proofs.table.Table.contains.Goals as goal

pub returns : goal.returns
returns g c = c.contains_key.ensures ∙ ap is_some (sym (get-seen g.met.K.Ord.total c.args.self.now.rows.entries c.args.key.now))
