use Rattle.std.proofs.Common.{sym, ap, ◌∙◌}
use Rattle.std.specs.List.{filter}
use Rattle.ebs_tables.specs.Seen.{is_within}
use Rattle.ebs_tables.proofs.TreeMaps.{entries-seen}
use Rattle.ebs_tables.proofs.table.Table.until.Goals as goal

pub returns-clause-values : goal.returns-clause-values
returns-clause-values g c =
    let es = c.args.self.now.rows.entries in
    c.range.ensures.between tt ∙ ap (filter (λ e. is_within g.K.Ord.cmp c.args.start.now c.args.end.now e.0)) (sym (entries-seen g.met.K.Ord.total es c.range.ensures.ordered))
