use Rattle.std.proofs.Common.{◌≡◌, take}
use Rattle.ebs_row_rules.specs.Slots.{entry_blocks, stamps}
use Rattle.ebs_pointed.proofs.standard.stamps_of.Given as goal

abbrev pub invariant-loop-node : goal.invariant-loop-node
invariant-loop-node l = l.numbers.items ≡ stamps (entry_blocks (take l.node-index l.nodes))
