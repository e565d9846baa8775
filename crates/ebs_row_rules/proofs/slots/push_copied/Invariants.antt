use Rattle.std.proofs.Common.{◌≡◌, ◌++◌, map, take}
use Rattle.ebs_row_rules.specs.Slots as slots
use Rattle.ebs_row_rules.proofs.slots.push_copied.Given as goal

abbrev pub invariant-loop-copy : goal.invariant-loop-copy
invariant-loop-copy l = l.blocks.items ≡ l.fn.blocks.items ++ map slots.copy_block (take l.copy-index l.copies)
