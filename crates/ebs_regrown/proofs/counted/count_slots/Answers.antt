use Rattle.std.proofs.Common.{ap, subst, ◌∙◌}
use Rattle.std.proofs.lemmas.Bool.{and_parts}
use Rattle.std.proofs.lemmas.List.{drop_all}
use Rattle.std.specs.List.{list_all}
use Rattle.ebs_checkpoints.specs.declared.nodes.EntryRow.{EntryRow}
use Rattle.ebs_checkpoints.specs.declared.nodes.NodeRow.{NodeRow}
use Rattle.ebs_row_rules.specs.Numbers.{has}
use Rattle.ebs_row_rules.specs.Slots.{keys}
use Rattle.ebs_regrown.specs.Counted.{entries_in}
use Rattle.ebs_regrown.proofs.Entries.{IsCounting, all_counted, all_to_come, node_counted, node_passes}
use Rattle.ebs_regrown.proofs.counted.count_slots.Goals as goal

pub loop-node-init : goal.loop-node-init
loop-node-init c = all_to_come c.args.standard.now c.args.nodes.now c.new-counted.result c.new-counted.ensures

pub count_all-requires-clause-listed : goal.count_all-requires-clause-listed
count_all-requires-clause-listed c =
    let all = node_passes (has (keys c.args.standard.now)) c.args.nodes.now c.loop-node.node-index c.node-item.result c.loop-node-test.true (and_parts _ _ c.requires.stored).0 in
    ap (list_all (λ (e : EntryRow). has (keys c.args.standard.now) e.block.stamp)) (c.as_slice.ensures ∙ ap (λ (x : NodeRow). x.entries) c.node-item.is) ∙ all

pub loop-node-preserved : goal.loop-node-preserved
loop-node-preserved c =
    node_counted c.args.standard.now (entries_in c.args.nodes.now) c.args.nodes.now c.loop-node.node-index c.node-item.result c.loop-node.counted c.count_all.new.counted c.as_slice.result.now
    c.loop-node-test.true c.node-item.is c.as_slice.ensures c.in_ok-count_all.ensures.slotted c.in_ok-count_all.ensures.counts c.loop-node.invariant

pub returns : goal.returns
returns c =
    all_counted c.args.standard.now c.args.nodes.now c.loop-node.counted c.requires.stored
    (subst (λ nodes. IsCounting c.args.standard.now (entries_in c.args.nodes.now) (entries_in nodes) c.loop-node.counted) (drop_all c.loop-node.node-index c.args.nodes.now c.loop-node-test.false) c.loop-node.invariant)
