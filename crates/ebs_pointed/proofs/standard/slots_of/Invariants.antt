use Rattle.std.specs.Map.{keys_of}
use Rattle.std.specs.FinMap as map
use Rattle.ebs_pointed.proofs.Slotted.{IsSlotting}
use Rattle.ebs_pointed.proofs.standard.slots_of.Given as goal

abbrev pub invariant-loop-stamp : goal.invariant-loop-stamp
invariant-loop-stamp l = IsSlotting l.kept.keys l.rows (keys_of l.stamp-iterator) (map.keys l.found)
