use Rattle.std.proofs.Common.{◌≡◌, List, Option, Some, IsSome, sym, ap, subst, ◌∙◌}
use Rattle.std.specs.List.{AllByRecursion}
use Rattle.ebs_checkpoints.specs.declared.nodes.NodeRow.{NodeRow}
use Rattle.ebs_lineage.specs.Lines.{Lines}
use Rattle.ebs_node_rules.specs.Nodes.{is_among, names, node_of}
use Rattle.ebs_node_rows.specs.Marks.{AreThere}
use Rattle.ebs_node_rows.specs.Rows.{AreRowsOf, HaveArrays, IsListed}
use Rattle.ebs_holds.specs.Holds.{nodes_in}
use Rattle.ebs_point_rules.specs.Values.{HasNodeValues}
use Rattle.ebs_point.specs.Live as live
use Rattle.ebs_point.specs.Nodes.{AreNodesOf}
use Rattle.ebs_point.proofs.Grown.{nodes-of}
use Rattle.ebs_point.proofs.Naming.{itself-wanted}
use Rattle.ebs_point.proofs.nodes.nodes_of.Goals as goal

pub rows_of-requires : goal.rows_of-requires
rows_of-requires c = subst (λ (l : Lines). AreThere l.table.nodes c.in_ok-named.named) (sym c.lineage.ensures) (λ number there. c.requires.there number (sym (c.in_ok-named.ensures number) ∙ there))

pub returns : goal.returns
returns c =
    let nodes = nodes_in c.args.holdings.now in
    let named = names c.args.snapshots.now c.args.volumes.now in
    let rows = c.in_ok-rows.rows in
    let is : c.in_ok-nodes.nodes ≡ live.live_rows c.args.digests.now rows = c.in_ok-nodes.ensures ∙ ap (live.live_rows c.args.digests.now) c.as_slice.ensures in
    nodes-of nodes named c.args.digests.now rows
    (subst (λ (l : Lines). AreRowsOf l.table.nodes rows) c.lineage.ensures c.in_ok-rows.ensures.each)
    c.in_ok-rows.ensures.chained
    (subst (λ (l : Lines). HaveArrays l.table.nodes rows) c.lineage.ensures c.in_ok-rows.ensures.arrays)
    (λ number among. c.in_ok-rows.ensures.wanted.each number (itself-wanted _ _ number (c.in_ok-named.ensures number ∙ among)))
    (c.in_ok-rows.ensures.needed (is_among named) (λ number there. sym (c.in_ok-named.ensures number) ∙ there))
    c.requires.live c.in_ok-nodes.nodes is (subst (AllByRecursion HasNodeValues) c.as_slice-2.ensures c.check_nodes.ensures)
