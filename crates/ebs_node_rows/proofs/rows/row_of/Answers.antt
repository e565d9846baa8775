use Rattle.std.proofs.Common.{refl}
use Rattle.ebs_node_rows.proofs.Reached.{row_is}
use Rattle.ebs_node_rows.proofs.rows.row_of.Goals as goal

pub returns : goal.returns
returns c =
    let l = c.args.lineage.now in
    row_is l.table.nodes l.made c.keeps_lines.ensures c.args.node.number (record { number = c.args.node.number; parent = c.parent_number.result; writable = c.is_open.result; entries = c.in_ok-entries.entries })
    c.requires refl c.parent_number.ensures c.is_open.ensures.is_open c.is_open.ensures.frozen c.in_ok-entries.ensures
