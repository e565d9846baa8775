use Rattle.std.proofs.Common.{◌≡◌, ◌++◌, take}
use Rattle.ebs_row_rules.proofs.slots.push_copies.Given as goal

abbrev pub invariant-loop-copy : goal.invariant-loop-copy
invariant-loop-copy l = l.copies.items ≡ l.fn.copies.items ++ take l.copy-index l.rows
