use Rattle.std.proofs.Common.{◌≡◌, map, take}
use Rattle.ebs_shown.specs.inner.Members.{items_of_array}
use Rattle.ebs_shown.proofs.array.array_of.Given as goal

abbrev pub invariant-loop-item : goal.invariant-loop-item
invariant-loop-item g l = items_of_array l.array ≡ map g.T.Shown.shown (take l.item-index l.items)
