use Rattle.std.proofs.Common.{◌≡◌, ◌+◌, ◌-◌, cond, arith, sym, ap, ◌∙◌}
use Rattle.std.specs.FinMap.{remove, len}
use Rattle.ebs_tables.specs.Full.{held}
use Rattle.ebs_tables.proofs.Counted.{len-left}
use Rattle.ebs_archive.specs.Keys.{copy_key_cmp, copy_key}
use Rattle.ebs_archive.specs.inner.Orders.{copy_keys_total, exact_copy_keys}
use Rattle.ebs_archive.proofs.copies.Copies.remove.Goals as goal

pub overflow_sub-self : goal.overflow_sub-self
overflow_sub-self c =
    let m = held copy_key_cmp c.self.inside.slots in
    let at = copy_key c.args.key.now c.args.index in
    let rest = len (remove m at) in
    let all = c.self.invariant ∙ len-left copy_keys_total exact_copy_keys m at c.remove-taken.result c.remove-taken.ensures.value ∙ ap (λ b. cond b (rest + 1) rest) (sym c.is_some.ensures ∙ c.if-is_some.true) in
    omega (arith, all)

pub invariant_of-self : goal.invariant_of-self
invariant_of-self c =
    let m = held copy_key_cmp c.self.inside.slots in
    let at = copy_key c.args.key.now c.args.index in
    let rest = len (remove m at) in
    let all = c.self.invariant ∙ len-left copy_keys_total exact_copy_keys m at c.remove-taken.result c.remove-taken.ensures.value ∙ ap (λ b. cond b (rest + 1) rest) (sym c.is_some.ensures ∙ c.if-is_some.true) in
    let less : c.self.inside.filled - 1 ≡ rest = omega (arith, all) in
    less ∙ ap len (sym c.remove-taken.ensures.held)

pub invariant_of-self-else-is_some : goal.invariant_of-self-else-is_some
invariant_of-self-else-is_some c =
    let m = held copy_key_cmp c.self.inside.slots in
    let at = copy_key c.args.key.now c.args.index in
    let rest = len (remove m at) in
    c.self.invariant ∙ len-left copy_keys_total exact_copy_keys m at c.remove-taken.result c.remove-taken.ensures.value
    ∙ ap (λ b. cond b (rest + 1) rest) (sym c.is_some.ensures ∙ c.if-is_some.false) ∙ ap len (sym c.remove-taken.ensures.held)
