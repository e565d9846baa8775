use Rattle.std.proofs.Common.{◌+◌, arith, nat_cmp, sym, ap, ◌∙◌}
use Rattle.std.specs.Cmp.{nat_cmp_total}
use Rattle.std.specs.FinMap.{len}
use Rattle.ebs_tables.specs.Full.{held}
use Rattle.ebs_tables.proofs.Counted.{len-new, len-known}
use Rattle.ebs_tables.proofs.numbered_slots.NumberedSlots.fill.Goals as goal

pub overflow_add-self : goal.overflow_add-self
overflow_add-self g c =
    let m = held nat_cmp c.self.inside.slots in
    let written = ap len c.fill.ensures.held ∙ len-new nat_cmp_total m c.args.number c.args.value (sym c.contains-known.ensures ∙ c.if-not-known.true) in
    let before = c.self.invariant in
    let most = c.ready_len-most.ensures.values in
    let small = c.ready_len-most.ensures.small in
    omega (arith, written, before, most, small)

pub invariant_of-self : goal.invariant_of-self
invariant_of-self g c =
    let m = held nat_cmp c.self.inside.slots in
    ap (λ n. n + 1) c.self.invariant
    ∙ sym (ap len c.fill.ensures.held ∙ len-new nat_cmp_total m c.args.number c.args.value (sym c.contains-known.ensures ∙ c.if-not-known.true))

pub invariant_of-self-else-not-known : goal.invariant_of-self-else-not-known
invariant_of-self-else-not-known g c =
    let m = held nat_cmp c.self.inside.slots in
    c.self.invariant
    ∙ sym (ap len c.fill.ensures.held ∙ len-known nat_cmp_total m c.args.number c.args.value (sym c.contains-known.ensures ∙ c.if-not-known.false))
