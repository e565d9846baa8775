use Rattle.std.proofs.Common.{◌≡◌, take}
use Rattle.ebs_row_rules.specs.Slots as slots
use Rattle.ebs_row_rules.proofs.slots.copies_of.Given as goal

abbrev pub invariant-loop-row : goal.invariant-loop-row
invariant-loop-row l = l.copies.items ≡ slots.copies_of (take l.row-index l.snapshots)
