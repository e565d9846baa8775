use Rattle.std.proofs.Common.{None}
use Rattle.ebs_holds.proofs.Backed.{backed, made_blocks}
use Rattle.ebs_holds.proofs.Nodes.{begun_keeps}
use Rattle.ebs_holds.proofs.Stamps.{begun_replaced}
use Rattle.ebs_holds.proofs.Steps.{source_none, begun_stand, begun_at, begun_open, filled_here}
use Rattle.ebs_holds.proofs.holdings.Holdings.begin_empty.Goals as goal

pub invariant_of-self : goal.invariant_of-self
invariant_of-self c =
    let free = rw (← c.self.view_is) at c.requires.free in
    let l = c.self.inside.lineage in
    let are = c.self.invariant in
    let good = source_none l.table.nodes in
    backed c.self.inside.backlog _ c.root.new.self _ c.in-Ok.ensures.ok.1
    (c.others_cover.ensures.made c.self.inside.backlog l None are.holders.lines good are.linked are.covers)
    (begun_stand l c.root.new.self _ _ are.holders None good c.args.holder.now free c.in-Ok.node c.in-Ok.ensures.ok.0 c.in-Ok.ensures.ok.1 c.fill.ensures.held)

pub returns-clause-has : goal.returns-clause-has
returns-clause-has c = filled_here _ _ c.args.holder.now c.in-Ok.node c.fill.ensures.held

pub returns-clause-is_open : goal.returns-clause-is_open
returns-clause-is_open c =
    let free = rw (← c.self.view_is) at c.requires.free in
    begun_open c.self.inside.lineage c.root.new.self _ _ c.self.invariant.holders None (source_none _) c.args.holder.now free c.in-Ok.node c.in-Ok.ensures.ok.0 c.in-Ok.ensures.ok.1 c.fill.ensures.held

pub returns-clause-arrays : goal.returns-clause-arrays
returns-clause-arrays c =
    let free = rw (← c.self.view_is) at c.requires.free in
    rw (← c.self.view_is) (begun_at c.self.inside.lineage c.root.new.self _ _ c.self.invariant.holders None (source_none _) c.args.holder.now free c.in-Ok.node c.in-Ok.ensures.ok.0 c.in-Ok.ensures.ok.1 c.fill.ensures.held)

pub returns-clause-blocks : goal.returns-clause-blocks
returns-clause-blocks c = rw (← c.self.view_is) (made_blocks c.blocks_stay.ensures.made c.self.inside.lineage c.root.new.self None c.self.invariant.holders.lines c.in-Ok.ensures.ok.1)

pub returns-clause-replaced : goal.returns-clause-replaced
returns-clause-replaced c =
    let free = rw (← c.self.view_is) at c.requires.free in
    rw (← c.self.view_is) (begun_replaced c.self.inside.lineage c.root.new.self _ _ c.self.invariant.holders None c.args.holder.now free c.in-Ok.node c.in-Ok.ensures.ok.0 c.in-Ok.ensures.ok.1 c.fill.ensures.held)

pub returns-clause-others : goal.returns-clause-others
returns-clause-others c = rw (← c.self.view_is) (λ q off. begun_keeps _ _ c.self.invariant.holders c.args.holder.now c.in-Ok.node None c.in-Ok.ensures.ok.1 c.fill.ensures.held q off)
