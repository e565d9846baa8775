use Rattle.std.proofs.Common.{false, refl, sym, ◌∙◌}
use Rattle.ebs_lineage.specs.Table.{changed, closed_node}
use Rattle.ebs_lineage.specs.Lines.{with_nodes}
use Rattle.ebs_holds.proofs.Backed.{stand_alone, at_alone, spare_alone, made_alone, same_room, closed_blocks}
use Rattle.ebs_holds.proofs.Steps.{removed_here, dropped_stand, dropped_at, absent_stand, absent_at}
use Rattle.ebs_holds.proofs.holdings.Holdings.give_up.Goals as goal

pub let_go-requires-clause-held : goal.let_go-requires-clause-held
let_go-requires-clause-held c = c.self.invariant.holders.there c.args.holder.now c.in-Some.node (sym c.in-Some.ensures.value)

pub let_go-requires-clause-linked : goal.let_go-requires-clause-linked
let_go-requires-clause-linked c = c.self.invariant.linked

pub let_go-requires-clause-covers : goal.let_go-requires-clause-covers
let_go-requires-clause-covers c = c.self.invariant.covers

pub invariant_of-self : goal.invariant_of-self
invariant_of-self c =
    let l = c.self.inside.lineage in
    let m = with_nodes l (changed l.table.nodes c.in-Some.node.number (closed_node false)) in
    record {
      holders = stand_alone m c.let_go.new.lineage c.let_go.ensures.nodes _ (dropped_stand l m _ _ c.self.invariant.holders c.args.holder.now c.in-Some.node (sym c.in-Some.ensures.value) refl c.take.ensures.held);
      linked = c.let_go.ensures.linked;
      covers = c.let_go.ensures.covers;
    }

pub invariant_of-self-in-None : goal.invariant_of-self-in-None
invariant_of-self-in-None c = record {
  holders = absent_stand c.self.inside.lineage _ _ c.self.invariant.holders c.args.holder.now (sym c.in-None.ensures.value) c.take.ensures.held;
  linked = c.self.invariant.linked;
  covers = c.self.invariant.covers;
}

pub returns-in-Some-clause-arrays : goal.returns-in-Some-clause-arrays
returns-in-Some-clause-arrays c =
    let l = c.self.inside.lineage in
    let m = with_nodes l (changed l.table.nodes c.in-Some.node.number (closed_node false)) in
    rw (← c.self.view_is) (λ q. at_alone m c.let_go.new.lineage c.let_go.ensures.nodes _ q
    ∙ dropped_at l m _ _ c.self.invariant.holders c.args.holder.now c.in-Some.node (sym c.in-Some.ensures.value) refl c.take.ensures.held q)

pub returns-in-Some-clause-gone : goal.returns-in-Some-clause-gone
returns-in-Some-clause-gone c = removed_here _ _ c.args.holder.now c.take.ensures.held

pub returns-in-Some-clause-room : goal.returns-in-Some-clause-room
returns-in-Some-clause-room c =
    let l = c.self.inside.lineage in
    let m = with_nodes l (changed l.table.nodes c.in-Some.node.number (closed_node false)) in
    rw (← c.self.view_is) (λ count room. same_room _ _ (spare_alone m c.let_go.new.lineage c.let_go.ensures.nodes) (made_alone m c.let_go.new.lineage c.let_go.ensures.nodes) count room)

pub returns-in-Some-clause-blocks : goal.returns-in-Some-clause-blocks
returns-in-Some-clause-blocks c = rw (← c.self.view_is) (closed_blocks c.blocks_stay.ensures.closed c.self.inside.lineage c.let_go.new.lineage c.in-Some.node.number false c.let_go.ensures.nodes)

pub returns-in-None-clause-arrays : goal.returns-in-None-clause-arrays
returns-in-None-clause-arrays c = rw (← c.self.view_is) (absent_at c.self.inside.lineage _ _ c.self.invariant.holders c.args.holder.now (sym c.in-None.ensures.value) c.take.ensures.held)

pub returns-in-None-clause-gone : goal.returns-in-None-clause-gone
returns-in-None-clause-gone c = removed_here _ _ c.args.holder.now c.take.ensures.held
