use Rattle.std.proofs.Common.{◌≡◌, ◌++◌, map, take}
use Rattle.ebs_row_rules.specs.Slots as slots
use Rattle.ebs_row_rules.proofs.slots.push_entries.Given as goal

abbrev pub invariant-loop-entry : goal.invariant-loop-entry
invariant-loop-entry l = l.blocks.items ≡ l.fn.blocks.items ++ map slots.entry_block (take l.entry-index l.entries)
