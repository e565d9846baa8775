use Rattle.ebs_node_rows.proofs.Reached.{are_needed, chained, have_parents, list_wanted, reach_each}
use Rattle.ebs_node_rows.proofs.rows.rows_of.Goals as goal

pub rows_where-requires : goal.rows_where-requires
rows_where-requires c = have_parents c.args.lineage.now.table.nodes c.args.lineage.now.made c.keeps_lines.ensures c.args.named.now c.requires c.in_ok-wanted.wanted c.in_ok-wanted.ensures

pub returns-clause-wanted : goal.returns-clause-wanted
returns-clause-wanted c = list_wanted c.args.lineage.now.table.nodes c.args.lineage.now.made c.keeps_lines.ensures c.args.named.now c.requires c.in_ok-wanted.wanted c.in_ok-wanted.ensures c.in_ok-rows.rows c.in_ok-rows.ensures

pub returns-clause-chained : goal.returns-clause-chained
returns-clause-chained c = chained c.args.lineage.now.table.nodes c.args.lineage.now.made c.keeps_lines.ensures c.args.named.now c.requires c.in_ok-wanted.wanted c.in_ok-wanted.ensures c.in_ok-rows.rows c.in_ok-rows.ensures

pub returns-clause-reach : goal.returns-clause-reach
returns-clause-reach c = reach_each c.args.lineage.now.table.nodes c.args.lineage.now.made c.keeps_lines.ensures c.args.named.now c.requires c.in_ok-wanted.wanted c.in_ok-wanted.ensures c.in_ok-rows.rows c.in_ok-rows.ensures

pub returns-clause-needed : goal.returns-clause-needed
returns-clause-needed c = are_needed c.args.lineage.now.table.nodes c.args.lineage.now.made c.keeps_lines.ensures c.args.named.now c.requires c.in_ok-wanted.wanted c.in_ok-wanted.ensures c.in_ok-rows.rows c.in_ok-rows.ensures
