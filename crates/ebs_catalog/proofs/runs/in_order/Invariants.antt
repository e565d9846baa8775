use Rattle.std.proofs.Common.{◌≡◌, map, take}
use Rattle.ebs_model.specs.declared.keys.AnyKey.TheVariants.{Snap}
use Rattle.ebs_catalog.proofs.runs.in_order.Given as goal

abbrev pub invariant-loop-key : goal.invariant-loop-key
invariant-loop-key l = l.ids ≡ map Snap (take l.key-index l.key-items)
