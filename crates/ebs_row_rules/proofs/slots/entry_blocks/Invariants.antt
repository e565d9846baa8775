use Rattle.std.proofs.Common.{◌≡◌, take}
use Rattle.ebs_row_rules.specs.Slots as slots
use Rattle.ebs_row_rules.proofs.slots.entry_blocks.Given as goal

abbrev pub invariant-loop-node : goal.invariant-loop-node
invariant-loop-node l = l.blocks.items ≡ slots.entry_blocks (take l.node-index l.nodes)
