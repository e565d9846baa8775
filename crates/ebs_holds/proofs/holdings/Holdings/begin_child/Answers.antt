use Rattle.std.proofs.Common.{Some}
use Rattle.ebs_holds.proofs.Backed.{backed, made_blocks}
use Rattle.ebs_holds.proofs.Steps.{source_frozen, begun_stand, begun_at, child_at}
use Rattle.ebs_holds.proofs.holdings.Holdings.begin_child.Goals as goal

pub child-requires-clause-frozen : goal.child-requires-clause-frozen
child-requires-clause-frozen c = rw (← c.self.view_is) at c.requires.frozen

pub child-requires-clause-held : goal.child-requires-clause-held
child-requires-clause-held c = let has = rw (← c.self.view_is) at c.requires.has in c.self.invariant.holders.there c.args.source.now c.args.node has

pub invariant_of-self : goal.invariant_of-self
invariant_of-self c =
    let frozen = rw (← c.self.view_is) at c.requires.frozen in
    let free = rw (← c.self.view_is) at c.requires.free in
    let l = c.self.inside.lineage in
    let are = c.self.invariant in
    let good = source_frozen l.table.nodes c.args.node.number frozen in
    backed c.self.inside.backlog _ c.child.new.self _ c.in-Ok.ensures.ok.1
    (c.others_cover.ensures.made c.self.inside.backlog l (Some c.args.node.number) are.holders.lines good are.linked are.covers)
    (begun_stand l c.child.new.self _ _ are.holders (Some c.args.node.number) good c.args.holder.now free c.in-Ok.child c.in-Ok.ensures.ok.0 c.in-Ok.ensures.ok.1 c.fill.ensures.held)

pub returns-clause-arrays : goal.returns-clause-arrays
returns-clause-arrays c =
    let frozen = rw (← c.self.view_is) at c.requires.frozen in
    let free = rw (← c.self.view_is) at c.requires.free in
    let has = rw (← c.self.view_is) at c.requires.has in
    rw (← c.self.view_is) (child_at c.self.inside.lineage _ _ c.child.new.self c.args.holder.now c.args.source.now c.args.node has
    (begun_at c.self.inside.lineage c.child.new.self _ _ c.self.invariant.holders (Some c.args.node.number) (source_frozen _ c.args.node.number frozen) c.args.holder.now free c.in-Ok.child
    c.in-Ok.ensures.ok.0 c.in-Ok.ensures.ok.1 c.fill.ensures.held))

pub returns-clause-blocks : goal.returns-clause-blocks
returns-clause-blocks c =
    rw (← c.self.view_is) (made_blocks c.blocks_stay.ensures.made c.self.inside.lineage c.child.new.self (Some c.args.node.number) c.self.invariant.holders.lines c.in-Ok.ensures.ok.1)
