use Rattle.std.proofs.Common.{◌+◌, arith, sym, ap, ◌∙◌}
use Rattle.std.specs.FinMap.{len}
use Rattle.ebs_tables.specs.Full.{held}
use Rattle.ebs_tables.proofs.Counted.{len-new, len-known}
use Rattle.ebs_archive.specs.Keys.{copy_key_cmp, copy_key}
use Rattle.ebs_archive.specs.inner.Orders.{copy_keys_total}
use Rattle.ebs_archive.proofs.copies.Copies.insert.Goals as goal

pub overflow_add-self : goal.overflow_add-self
overflow_add-self c =
    let m = held copy_key_cmp c.self.inside.slots in
    let at = copy_key c.args.key.now c.args.index in
    let written = ap len c.fill.ensures.held ∙ len-new copy_keys_total m at c.args.copy (sym c.contains-known.ensures ∙ c.if-not-known.true) in
    let before = c.self.invariant in
    let most = c.ready_len-most.ensures.values in
    let small = c.ready_len-most.ensures.small in
    omega (arith, written, before, most, small)

pub invariant_of-self : goal.invariant_of-self
invariant_of-self c =
    let m = held copy_key_cmp c.self.inside.slots in
    let at = copy_key c.args.key.now c.args.index in
    ap (λ n. n + 1) c.self.invariant ∙ sym (ap len c.fill.ensures.held ∙ len-new copy_keys_total m at c.args.copy (sym c.contains-known.ensures ∙ c.if-not-known.true))

pub invariant_of-self-else-not-known : goal.invariant_of-self-else-not-known
invariant_of-self-else-not-known c =
    let m = held copy_key_cmp c.self.inside.slots in
    let at = copy_key c.args.key.now c.args.index in
    c.self.invariant ∙ sym (ap len c.fill.ensures.held ∙ len-known copy_keys_total m at c.args.copy (sym c.contains-known.ensures ∙ c.if-not-known.false))
