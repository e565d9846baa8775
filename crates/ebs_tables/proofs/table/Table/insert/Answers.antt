use Rattle.std.proofs.Common.{sym, ◌∙◌}
use Rattle.ebs_tables.proofs.FullLaws.{on_err}
use Rattle.ebs_tables.proofs.TreeMaps.{get-seen, insert-seen}
use Rattle.ebs_tables.proofs.table.Table.insert.Goals as goal

pub returns-clause-old : goal.returns-clause-old
returns-clause-old g c = c.in_ok-old.ensures.old ∙ sym (get-seen g.met.K.Ord.total c.args.self.now.rows.entries c.args.key)

pub returns-in_err-old-clause-absent : goal.returns-in_err-old-clause-absent
returns-in_err-old-clause-absent g c = on_err _ _ (get-seen g.met.K.Ord.total c.args.self.now.rows.entries c.args.key ∙ c.in_err-old.ensures.absent)

pub returns-clause-ok : goal.returns-clause-ok
returns-clause-ok g c = insert-seen g.met.K.Ord.total g.met.K.Key.exact c.args.self.now.rows.entries c.insert.new.self.entries c.args.key c.args.value c.in_ok-old.ensures.updates.0
