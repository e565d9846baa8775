use Rattle.std.proofs.Common.{[], ◌++◌, sym, ap, ◌∙◌}
use Rattle.std.specs.List.{cons_option}
use Rattle.ebs_checkpoints.specs.declared.snapshots.SnapPoint.{SnapPoint}
use Rattle.ebs_node_rules.proofs.Marks.{filter_more}
use Rattle.ebs_node_rules.proofs.nodes.names.Goals as goal

pub loop-snapshot-preserved : goal.loop-snapshot-preserved
loop-snapshot-preserved c =
    c.in_ok-push_some.ensures ∙ ap (λ l. l ++ cons_option c.snapshot-item.result.node []) c.loop-snapshot.invariant
    ∙ sym (filter_more (λ (snapshot : SnapPoint). snapshot.node) c.args.snapshots.now c.loop-snapshot.snapshot-index c.snapshot-item.result c.loop-snapshot-test.true c.snapshot-item.is)
