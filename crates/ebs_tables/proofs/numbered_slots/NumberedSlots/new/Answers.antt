use Rattle.std.proofs.Common.{nat_cmp, sym, ap, ◌∙◌}
use Rattle.std.specs.FinMap.{len, len-empty}
use Rattle.ebs_tables.proofs.numbered_slots.NumberedSlots.new.Goals as goal

pub invariant_of-result : goal.invariant_of-result
invariant_of-result g c = sym (ap len c.new.ensures.held ∙ len-empty nat_cmp g.row.V.Denot)
