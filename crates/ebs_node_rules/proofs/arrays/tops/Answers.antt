use Rattle.std.proofs.Common.{◌+◌, ◌&&◌, leb, ltb, ◌∷◌, drop, refl, sym, ap, subst, ◌∙◌}
use Rattle.std.specs.List.{list_all}
use Rattle.std.specs.FinMap.{empty, insert}
use Rattle.ebs_checkpoints.specs.declared.nodes.EntryRow.{EntryRow}
use Rattle.ebs_node_rules.specs.Arrays.{array_in, with_nodes, with_entries}
use Rattle.ebs_node_rules.specs.inner.Lookups.{AreTops}
use Rattle.ebs_node_rules.proofs.Marks.{turn}
use Rattle.ebs_node_rules.proofs.Tops.{one_more, none_yet}
use Rattle.ebs_node_rules.proofs.arrays.tops.Goals as goal

pub loop-node-init : goal.loop-node-init
loop-node-init c = (empty, none_yet c.new-tops.result c.new-tops.ensures, refl)

pub loop-node-preserved : goal.loop-node-preserved
loop-node-preserved c =
    let rows = c.loop-node.invariant.0 in
    let node = c.node-item.result in
    let next = insert rows node.number (with_entries (array_in rows node.parent) node.entries) in (
      next,
      subst (λ tops. AreTops tops next) (sym c.in_ok-insert.ensures.ok) (one_more c.loop-node.tops rows c.loop-node.invariant.1 node c.top_over-top.result (λ limit.
          c.top_over-top.ensures limit ∙ (λ i. leb (c.top_in.ensures i) limit && list_all (λ (entry : EntryRow). ltb entry.index limit) (c.as_slice.ensures i)))),
      ap (λ x. with_nodes rows (x ∷ drop (c.loop-node.node-index + 1) c.args.nodes.now)) c.node-item.is
          ∙ turn (with_nodes rows) c.args.nodes.now c.loop-node.node-index node c.loop-node-test.true
          ∙ c.loop-node.invariant.2,
    )
