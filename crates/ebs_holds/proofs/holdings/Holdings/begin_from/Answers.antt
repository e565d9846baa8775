use Rattle.std.proofs.Common.{refl, sym}
use Rattle.ebs_holds.proofs.holdings.Holdings.begin_from.Goals as goal

pub fork-requires-clause-is_open : goal.fork-requires-clause-is_open
fork-requires-clause-is_open c = rw (← c.self.view_is) (c.if-is_open.ensures.is_open refl)

pub begin_child-requires-clause-frozen : goal.begin_child-requires-clause-frozen
begin_child-requires-clause-frozen c =
    let has = rw (← c.self.view_is) at c.in-Some.ensures in
    rw (← c.self.view_is) (c.if-is_open.ensures.frozen refl (c.self.invariant.holders.there c.args.source.now c.in-Some.node (sym has)))
