use Rattle.std.proofs.lemmas.Result.{on_ok_weaker}
use Rattle.std.proofs.Common.{refl, ◌∙◌}
use Rattle.ebs_lineage.specs.Table.{changed, ready_node}
use Rattle.ebs_lineage.specs.Lines.{with_nodes}
use Rattle.ebs_holds.specs.Holds.{nodes_in}
use Rattle.ebs_holds.proofs.Backed.{maybe_backed, maybe_blocks, blocks_both}
use Rattle.ebs_holds.proofs.Stamps.{maybe_replaced}
use Rattle.ebs_holds.proofs.Steps.{maybe_ready, can_put}
use Rattle.ebs_holds.proofs.holdings.Holdings.reserve_put.Goals as goal

pub reserve_put-requires : goal.reserve_put-requires
reserve_put-requires c = rw (← c.self.view_is) at c.in_ok-node.ensures.is_open

pub invariant_of-self : goal.invariant_of-self
invariant_of-self c =
    let is_open = rw (← c.self.view_is) at c.in_ok-node.ensures.is_open in
    let l = c.self.inside.lineage in
    let n = c.in_ok-node.node.number in
    let are = c.self.invariant in
    maybe_backed c.reserve_put.result c.self.inside.backlog (with_nodes l (changed l.table.nodes n ready_node)) l c.reserve_put.new.self _ c.reserve_put.ensures.ok c.reserve_put.ensures.err
    (c.others_cover.ensures.room c.self.inside.backlog l n are.holders.lines is_open are.linked are.covers) are
    (maybe_ready c.reserve_put.result l c.reserve_put.new.self _ are.holders n c.reserve_put.ensures.ok c.reserve_put.ensures.err)

pub returns-clause-room : goal.returns-clause-room
returns-clause-room c =
    let has = rw (← c.self.view_is) at c.in_ok-node.ensures.has in
    let is_open = rw (← c.self.view_is) at c.in_ok-node.ensures.is_open in
    on_ok_weaker c.reserve_put.result (λ is. can_put c.self.inside.lineage c.reserve_put.new.self _ c.args.holder.now c.in_ok-node.node refl has is_open is) c.reserve_put.ensures.ok

pub returns-clause-blocks : goal.returns-clause-blocks
returns-clause-blocks c =
    let first = rw (← c.self.view_is) at c.in_ok-node.ensures.blocks in
    blocks_both (nodes_in c.args.self.now) c.self.inside.lineage.table.nodes c.reserve_put.new.self.table.nodes first
    (maybe_blocks c.reserve_put.result c.blocks_stay.ensures.room c.self.inside.lineage c.reserve_put.new.self c.in_ok-node.node.number c.reserve_put.ensures.ok c.reserve_put.ensures.err)

pub returns-clause-replaced : goal.returns-clause-replaced
returns-clause-replaced c =
    let first = rw (← c.self.view_is) at c.in_ok-node.ensures.replaced in
    λ q index. maybe_replaced c.reserve_put.result c.self.inside.lineage c.reserve_put.new.self _ c.in_ok-node.node.number c.reserve_put.ensures.ok c.reserve_put.ensures.err q index ∙ first q index
