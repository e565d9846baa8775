use Rattle.std.proofs.Common.{◌≡◌, true, List, sym, subst}
use Rattle.ebs_checkpoints.specs.declared.nodes.NodeRow.{NodeRow}
use Rattle.ebs_checkpoints.specs.declared.nodes.SlotRow.{SlotRow}
use Rattle.ebs_row_rules.specs.Numbers.{are_same}
use Rattle.ebs_row_rules.specs.Slots.{entry_blocks, keys, stamps}
use Rattle.ebs_node_rules.specs.Nodes.{is_among, names}
use Rattle.ebs_checkpoint_rules.proofs.Ascents.{nodes_of, entries_of}
use Rattle.ebs_regrown.specs.Counted.{HaveSlots}
use Rattle.ebs_restored.proofs.SaidSlots.{counted-is, entries-stored, slots-fit}
use Rattle.ebs_restored.proofs.restoring.slots_of.Goals as goal

pub count_slots-requires-clause-slots : goal.count_slots-requires-clause-slots
count_slots-requires-clause-slots c = subst HaveSlots (sym c.as_slice-2.ensures) (slots-fit c.args.point.now c.requires.rules)

pub count_slots-requires-clause-stored : goal.count_slots-requires-clause-stored
count_slots-requires-clause-stored c =
    subst (λ (p : List NodeRow × List SlotRow). are_same (stamps (entry_blocks p.0)) (keys p.1) ≡ true) (λ i. (sym c.as_slice.ensures i, sym c.as_slice-2.ensures i)) (entries-stored c.args.point.now c.requires.rules)

pub returns-clause-counted : goal.returns-clause-counted
returns-clause-counted c =
    let p = c.args.point.now in
    let h = c.args.holdings.now in
    let counted = counted-is c.as_slice.result.now p.nodes c.as_slice-2.result.now p.standard c.in_ok-slots.slots c.as_slice.ensures c.as_slice-2.ensures c.in_ok-slots.ensures in
    c.regrown_is_counted.ensures p.nodes p.standard (is_among (names p.snapshots p.volumes)) c.requires.restored.numbers h.lines c.in_ok-slots.slots c.requires.restored.grown counted
    (nodes_of p c.requires.rules.ordered) (entries_of p c.requires.rules.ordered) (entries-stored p c.requires.rules)

pub returns-clause-keys : goal.returns-clause-keys
returns-clause-keys c = (counted-is c.as_slice.result.now c.args.point.now.nodes c.as_slice-2.result.now c.args.point.now.standard c.in_ok-slots.slots c.as_slice.ensures c.as_slice-2.ensures c.in_ok-slots.ensures).keys
