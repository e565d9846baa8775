use Rattle.std.proofs.Common.{◌≡◌, ◌++◌, map, take}
use Rattle.ebs_row_rules.specs.Slots.{entry_block, stamps}
use Rattle.ebs_pointed.proofs.standard.push_stamps.Given as goal

abbrev pub invariant-loop-entry : goal.invariant-loop-entry
invariant-loop-entry l = l.numbers.items ≡ l.fn.numbers.items ++ stamps (map entry_block (take l.entry-index l.entries))
