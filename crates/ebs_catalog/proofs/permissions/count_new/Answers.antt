use Rattle.std.proofs.Common.{arith}
use Rattle.ebs_catalog.proofs.Shared.{known, new, fewer}
use Rattle.ebs_catalog.proofs.permissions.count_new.Goals as goal

pub loop-left-preserved-then-not-is_in_any : goal.loop-left-preserved-then-not-is_in_any
loop-left-preserved-then-not-is_in_any c =
    let less = fewer c.loop-left.left.now c.in-len1-up.len_at_least in
    (new c.args.others.now c.args.remove.now c.args.accounts.now c.loop-left.count c.loop-left.left.now _ c.is_in_any.result c.in-len1-up.len_at_least c.account-item.is c.is_in_any.ensures c.if-not-is_in_any.true c.loop-left.invariant.0, omega arith)

pub loop-left-preserved : goal.loop-left-preserved
loop-left-preserved c =
    let less = fewer c.loop-left.left.now c.in-len1-up.len_at_least in
    (known c.args.others.now c.args.remove.now c.args.accounts.now c.loop-left.count c.loop-left.left.now _ c.is_in_any.result c.in-len1-up.len_at_least c.account-item.is c.is_in_any.ensures c.if-not-is_in_any.false c.loop-left.invariant.0, omega arith)
