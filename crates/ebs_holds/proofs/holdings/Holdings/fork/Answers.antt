use Rattle.std.proofs.Common.{true, ◌∙◌}
use Rattle.ebs_tables.proofs.FullLaws.{ready-some}
use Rattle.ebs_holds.specs.Orders.{holders_total}
use Rattle.ebs_holds.proofs.Backed.{backed, kid_blocks}
use Rattle.ebs_holds.proofs.Steps.{forked_stand, forked_at}
use Rattle.ebs_holds.proofs.holdings.Holdings.fork.Goals as goal

pub freeze-requires-clause-is_open : goal.freeze-requires-clause-is_open
freeze-requires-clause-is_open c = rw (← c.self.view_is) at c.requires.is_open

pub fill-requires-in-Ok : goal.fill-requires-in-Ok
fill-requires-in-Ok c =
    let has = rw (← c.self.view_is) at c.requires.has in
    c.fill.ensures.ready c.args.source.now ∙ c.take.ensures.ready c.args.source.now ∙ ready-some holders_total _ c.args.source.now c.args.node has

pub invariant_of-self : goal.invariant_of-self
invariant_of-self c =
    let has = rw (← c.self.view_is) at c.requires.has in
    let is_open = rw (← c.self.view_is) at c.requires.is_open in
    let free = rw (← c.self.view_is) at c.requires.free in
    let l = c.self.inside.lineage in
    let are = c.self.invariant in
    backed c.self.inside.backlog _ c.freeze.new.self _ c.in-Ok.ensures.ok.1
    (c.others_cover.ensures.frozen c.self.inside.backlog l c.args.node.number are.holders.lines is_open are.linked are.covers)
    (forked_stand l c.freeze.new.self _ _ _ _ are.holders c.args.source.now c.args.node has is_open c.args.holder.now free c.in-Ok.child c.in-Ok.ensures.ok.0 c.in-Ok.ensures.ok.1
    c.take.ensures.held c.fill.ensures.held c.fill-in-Ok.ensures.held)

pub returns-clause-arrays : goal.returns-clause-arrays
returns-clause-arrays c =
    let has = rw (← c.self.view_is) at c.requires.has in
    let is_open = rw (← c.self.view_is) at c.requires.is_open in
    let free = rw (← c.self.view_is) at c.requires.free in
    rw (← c.self.view_is) (forked_at c.self.inside.lineage c.freeze.new.self _ _ _ _ c.self.invariant.holders c.args.source.now c.args.node has is_open c.args.holder.now free c.in-Ok.child c.in-Ok.ensures.ok.0 c.in-Ok.ensures.ok.1
    c.take.ensures.held c.fill.ensures.held c.fill-in-Ok.ensures.held)

pub returns-clause-blocks : goal.returns-clause-blocks
returns-clause-blocks c =
    rw (← c.self.view_is) (kid_blocks c.blocks_stay.ensures.made c.blocks_stay.ensures.closed c.self.inside.lineage c.freeze.new.self c.args.node.number true c.self.invariant.holders.lines c.in-Ok.ensures.ok.1)
