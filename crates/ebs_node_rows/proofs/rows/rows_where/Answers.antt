use Rattle.std.proofs.Common.{◌+◌, sym, subst, ◌∙◌}
use Rattle.ebs_node_rows.specs.Rows.{AreWritten}
use Rattle.ebs_node_rows.proofs.Writing.{one_left, one_written}
use Rattle.ebs_node_rows.proofs.rows.rows_where.Goals.{then-contains+in_ok-row+in_ok-push, else-contains}
use Rattle.ebs_node_rows.proofs.rows.rows_where.Goals as goal

pub row_of-requires : goal.row_of-requires
row_of-requires c = c.requires.there c.loop-number.number (sym c.contains.ensures ∙ c.if-contains.true)

pub loop-number-preserved : goal.loop-number-preserved
loop-number-preserved c =
    let l = c.args.lineage.now in
    let n = c.loop-number.number in
    elim c.if-contains.branch [
      | then-contains+in_ok-row+in_ok-push w ↦
          subst (AreWritten l.table.nodes c.args.wanted.now (n + 1)) (sym w.rows-is)
          (one_written l.table.nodes l.made c.keeps_lines.ensures c.args.wanted.now c.requires n c.loop-number.rows c.loop-number.invariant w.in_ok-row.row w.in_ok-row.ensures
          (sym c.contains.ensures ∙ w.if-contains.true) w.push.new.self w.in_ok-push.ensures.ok)
      | else-contains w ↦
          subst (AreWritten l.table.nodes c.args.wanted.now (n + 1)) (sym w.rows-is)
          (one_left l.table.nodes c.args.wanted.now n c.loop-number.rows (sym c.contains.ensures ∙ w.if-contains.false) c.loop-number.invariant)
    ]
