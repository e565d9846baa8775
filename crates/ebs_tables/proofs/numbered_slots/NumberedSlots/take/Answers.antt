use Rattle.std.proofs.Common.{◌≡◌, ◌+◌, ◌-◌, cond, arith, nat_cmp, sym, ap, ◌∙◌}
use Rattle.std.specs.Cmp.{nat_cmp_total}
use Rattle.std.specs.FinMap.{remove, len, nat_cmp-IsAntisymmetric}
use Rattle.ebs_tables.specs.Full.{held}
use Rattle.ebs_tables.proofs.Counted.{len-left}
use Rattle.ebs_tables.proofs.numbered_slots.NumberedSlots.take.Goals as goal

pub overflow_sub-self : goal.overflow_sub-self
overflow_sub-self g c =
    let m = held nat_cmp c.self.inside.slots in
    let rest = len (remove m c.args.number) in
    let all = c.self.invariant ∙ len-left nat_cmp_total nat_cmp-IsAntisymmetric m c.args.number c.take-taken.result c.take-taken.ensures.value ∙ ap (λ b. cond b (rest + 1) rest) (sym c.is_some.ensures ∙ c.if-is_some.true) in
    omega (arith, all)

pub invariant_of-self : goal.invariant_of-self
invariant_of-self g c =
    let m = held nat_cmp c.self.inside.slots in
    let rest = len (remove m c.args.number) in
    let all = c.self.invariant ∙ len-left nat_cmp_total nat_cmp-IsAntisymmetric m c.args.number c.take-taken.result c.take-taken.ensures.value ∙ ap (λ b. cond b (rest + 1) rest) (sym c.is_some.ensures ∙ c.if-is_some.true) in
    let less : c.self.inside.filled - 1 ≡ rest = omega (arith, all) in
    less ∙ ap len (sym c.take-taken.ensures.held)

pub invariant_of-self-else-is_some : goal.invariant_of-self-else-is_some
invariant_of-self-else-is_some g c =
    let m = held nat_cmp c.self.inside.slots in
    let rest = len (remove m c.args.number) in
    c.self.invariant ∙ len-left nat_cmp_total nat_cmp-IsAntisymmetric m c.args.number c.take-taken.result c.take-taken.ensures.value
    ∙ ap (λ b. cond b (rest + 1) rest) (sym c.is_some.ensures ∙ c.if-is_some.false) ∙ ap len (sym c.take-taken.ensures.held)
