use Rattle.std.proofs.Common.{[], ◌++◌, sym, ap, ◌∙◌}
use Rattle.std.specs.List.{cons_option}
use Rattle.ebs_checkpoints.specs.declared.nodes.NodeRow.{NodeRow}
use Rattle.ebs_node_rules.proofs.Marks.{filter_more}
use Rattle.ebs_node_rules.proofs.nodes.parents.Goals as goal

pub loop-node-preserved : goal.loop-node-preserved
loop-node-preserved c =
    c.in_ok-push_some.ensures ∙ ap (λ l. l ++ cons_option c.node-item.result.parent []) c.loop-node.invariant
    ∙ sym (filter_more (λ (node : NodeRow). node.parent) c.args.nodes.now c.loop-node.node-index c.node-item.result c.loop-node-test.true c.node-item.is)
