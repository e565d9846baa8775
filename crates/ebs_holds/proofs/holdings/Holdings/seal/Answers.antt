use Rattle.std.proofs.Common.{◌≡◌, Some, true, refl, sym, subst, ◌∙◌}
use Rattle.ebs_lineage.specs.declared.node_id.NodeId.{NodeId}
use Rattle.ebs_lineage.specs.Lines.{IsFrozen}
use Rattle.ebs_holds.proofs.Backed.{backed, shut_blocks}
use Rattle.ebs_holds.proofs.Nodes.{sealed_keeps}
use Rattle.ebs_holds.proofs.Steps.{sealed_stand, sealed_frozen}
use Rattle.ebs_holds.proofs.holdings.Holdings.seal.Goals as goal

same_node : (a b : NodeId) → Some a ≡ Some b → a ≡ b
same_node a b e = cc

pub seal-requires : goal.seal-requires
seal-requires c = c.if-is_open.ensures.is_open refl

pub invariant_of-self : goal.invariant_of-self
invariant_of-self c =
    let has = rw (← c.self.view_is) at c.in-Some.ensures in
    let l = c.self.inside.lineage in
    let are = c.self.invariant in
    backed c.self.inside.backlog _ c.seal.new.self _ c.seal.ensures.value
    (c.others_cover.ensures.sealed c.self.inside.backlog l c.in-Some.node.number are.holders.lines (c.if-is_open.ensures.is_open refl) are.linked are.covers)
    (sealed_stand l c.seal.new.self _ are.holders c.args.holder.now c.in-Some.node (sym has) c.seal.ensures.value)

pub returns-then-is_open-clause-frozen : goal.returns-then-is_open-clause-frozen
returns-then-is_open-clause-frozen c = λ node e.
    let has = rw (← c.self.view_is) at c.in-Some.ensures in
    sealed_frozen c.self.inside.lineage c.seal.new.self _ c.self.invariant.holders c.args.holder.now c.in-Some.node (sym has) c.seal.ensures.value node e

pub returns-then-is_open-clause-blocks : goal.returns-then-is_open-clause-blocks
returns-then-is_open-clause-blocks c = rw (← c.self.view_is) (shut_blocks c.blocks_stay.ensures.closed c.self.inside.lineage c.seal.new.self c.in-Some.node.number true c.seal.ensures.value)

pub returns-else-is_open-clause-frozen : goal.returns-else-is_open-clause-frozen
returns-else-is_open-clause-frozen c = λ node e.
    let has = rw (← c.self.view_is) at c.in-Some.ensures in
    let there = rw (← c.self.view_is) at e in
    let frozen = c.if-is_open.ensures.frozen refl (c.self.invariant.holders.there c.args.holder.now c.in-Some.node (sym has)) in
    rw (← c.self.view_is) (subst (λ (n : NodeId). IsFrozen c.self.inside.lineage.table.nodes n.number) (same_node c.in-Some.node node (has ∙ there)) frozen)

pub returns-then-is_open-clause-others : goal.returns-then-is_open-clause-others
returns-then-is_open-clause-others c =
    let has = rw (← c.self.view_is) at c.in-Some.ensures in
    rw (← c.self.view_is) (λ q off. sealed_keeps _ _ c.self.invariant.holders c.args.holder.now c.in-Some.node (sym has) c.seal.ensures.value refl q off)
