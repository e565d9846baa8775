use Rattle.std.proofs.Common.{sym, subst}
use Rattle.ebs_world.specs.declared.area.Area.TheVariants.{Blocks}
use Rattle.ebs_slots.specs.inner.Slots.{SlotTable}
use Rattle.ebs_collect.specs.Slices.{IsCounted}
use Rattle.ebs_holds.specs.Holds.{nodes_in}
use Rattle.lineages.proofs.played.Played.new.Goals as goal

pub invariant_of-result : goal.invariant_of-result
invariant_of-result c = subst (λ (s : SlotTable). IsCounted s (nodes_in c.new.result)) (sym c.new-2.ensures) (c.new.ensures.counted Blocks)
