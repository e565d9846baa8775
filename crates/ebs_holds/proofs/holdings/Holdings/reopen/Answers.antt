use Rattle.std.proofs.Common.{Some, false, ap, ◌∙◌}
use Rattle.ebs_tables.proofs.FullLaws.{ready-some}
use Rattle.ebs_lineage.specs.Table.{changed, closed_node}
use Rattle.ebs_lineage.specs.Lines.{Lines, with_nodes}
use Rattle.ebs_holds.specs.Orders.{holders_total}
use Rattle.ebs_holds.proofs.Backed.{backed, kid_blocks}
use Rattle.ebs_holds.proofs.Nodes.{reopened_keeps}
use Rattle.ebs_holds.proofs.Stamps.{reopened_replaced}
use Rattle.ebs_holds.proofs.Steps.{still_held, reopened_stand, reopened_at, reopened_open, filled_here}
use Rattle.ebs_holds.proofs.holdings.Holdings.reopen.Goals as goal

pub child-requires-clause-frozen : goal.child-requires-clause-frozen
child-requires-clause-frozen c = rw (← c.self.view_is) at c.requires.frozen

pub child-requires-clause-held : goal.child-requires-clause-held
child-requires-clause-held c = let has = rw (← c.self.view_is) at c.requires.has in c.self.invariant.holders.there c.args.holder.now c.args.node has

pub drop_node-requires : goal.drop_node-requires
drop_node-requires c =
    let has = rw (← c.self.view_is) at c.requires.has in
    still_held c.self.inside.lineage c.child.new.self _ c.self.invariant.holders (Some c.args.node.number) c.in-Ok.ensures.ok.1 c.args.node.number (c.self.invariant.holders.there c.args.holder.now c.args.node has)

pub fill-requires : goal.fill-requires
fill-requires c = let has = rw (← c.self.view_is) at c.requires.has in ready-some holders_total _ c.args.holder.now c.args.node has

pub invariant_of-self : goal.invariant_of-self
invariant_of-self c =
    let frozen = rw (← c.self.view_is) at c.requires.frozen in
    let has = rw (← c.self.view_is) at c.requires.has in
    let l = c.self.inside.lineage in
    let n = c.args.node.number in
    let are = c.self.invariant in
    let both = c.drop_node.ensures.value ∙ ap (λ (x : Lines). with_nodes x (changed x.table.nodes n (closed_node false))) c.in-Ok.ensures.ok.1 in
    backed c.self.inside.backlog _ c.drop_node.new.self _ both
    (c.others_cover.ensures.reopened c.self.inside.backlog l n are.holders.lines frozen (are.holders.there c.args.holder.now c.args.node has) are.linked are.covers)
    (reopened_stand l c.child.new.self c.drop_node.new.self _ _ are.holders c.args.holder.now c.args.node has frozen c.in-Ok.child c.in-Ok.ensures.ok.0 c.in-Ok.ensures.ok.1 c.drop_node.ensures.value c.fill.ensures.held)

pub returns-clause-arrays : goal.returns-clause-arrays
returns-clause-arrays c =
    let frozen = rw (← c.self.view_is) at c.requires.frozen in
    let has = rw (← c.self.view_is) at c.requires.has in
    rw (← c.self.view_is) (reopened_at c.self.inside.lineage c.child.new.self c.drop_node.new.self _ _ c.self.invariant.holders c.args.holder.now c.args.node has frozen c.in-Ok.child c.in-Ok.ensures.ok.0 c.in-Ok.ensures.ok.1 c.drop_node.ensures.value c.fill.ensures.held)

pub returns-clause-has : goal.returns-clause-has
returns-clause-has c = filled_here _ _ c.args.holder.now c.in-Ok.child c.fill.ensures.held

pub returns-clause-is_open : goal.returns-clause-is_open
returns-clause-is_open c =
    let frozen = rw (← c.self.view_is) at c.requires.frozen in
    let has = rw (← c.self.view_is) at c.requires.has in
    reopened_open c.self.inside.lineage c.child.new.self c.drop_node.new.self _ _ c.self.invariant.holders c.args.holder.now c.args.node has frozen c.in-Ok.child c.in-Ok.ensures.ok.0 c.in-Ok.ensures.ok.1 c.drop_node.ensures.value c.fill.ensures.held

pub returns-clause-blocks : goal.returns-clause-blocks
returns-clause-blocks c =
    let n = c.args.node.number in
    let both = c.drop_node.ensures.value ∙ ap (λ (x : Lines). with_nodes x (changed x.table.nodes n (closed_node false))) c.in-Ok.ensures.ok.1 in
    rw (← c.self.view_is) (kid_blocks c.blocks_stay.ensures.made c.blocks_stay.ensures.closed c.self.inside.lineage c.drop_node.new.self n false c.self.invariant.holders.lines both)

pub returns-clause-replaced : goal.returns-clause-replaced
returns-clause-replaced c =
    let frozen = rw (← c.self.view_is) at c.requires.frozen in
    let has = rw (← c.self.view_is) at c.requires.has in
    rw (← c.self.view_is) (reopened_replaced c.self.inside.lineage c.child.new.self c.drop_node.new.self _ _ c.self.invariant.holders c.args.holder.now c.args.node has frozen c.in-Ok.child c.in-Ok.ensures.ok.0 c.in-Ok.ensures.ok.1 c.drop_node.ensures.value c.fill.ensures.held)

pub returns-clause-others : goal.returns-clause-others
returns-clause-others c =
    let has = rw (← c.self.view_is) at c.requires.has in
    rw (← c.self.view_is) (λ q off. reopened_keeps _ _ c.self.invariant.holders c.args.holder.now c.args.node has c.in-Ok.child c.child.new.self c.in-Ok.ensures.ok.1 c.drop_node.ensures.value c.fill.ensures.held q off)
