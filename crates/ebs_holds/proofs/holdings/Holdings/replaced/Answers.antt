use Rattle.std.proofs.Common.{arith, ◌≤◌, ◌^◌, sym, ap, ◌∙◌}
use Rattle.std.specs.Option.{option_map}
use Rattle.std.specs.FinMap as map
use Rattle.ebs_model.specs.declared.array.Block.{Block}
use Rattle.ebs_tables.specs.Full.{held}
use Rattle.ebs_holds.specs.Holders.{holder_cmp}
use Rattle.ebs_holds.specs.Holds.{nodes_in}
use Rattle.ebs_holds.specs.Counted.{stamp_at}
use Rattle.ebs_holds.proofs.Stamps.{open_stamp, frozen_stamp, far_stamp}
use Rattle.ebs_holds.proofs.Collected.{own_slot}
use Rattle.ebs_holds.proofs.holdings.Holdings.replaced.Goals as goal

pub returns-in_default-clause-value : goal.returns-in_default-clause-value
returns-in_default-clause-value c = ap (λ o. stamp_at (nodes_in c.args.self.now) o c.args.index) c.in_default.ensures

pub returns-then-not-is_open-clause-value : goal.returns-then-not-is_open-clause-value
returns-then-not-is_open-clause-value c =
    let has = rw (← c.self.view_is) at c.in-Some.ensures in
    let nodes = c.self.inside.lineage.table.nodes in
    let frozen = c.is_open.ensures.frozen c.if-not-is_open.true (c.self.invariant.holders.there c.args.holder.now c.in-Some.node (sym has)) in
    rw (← c.self.view_is) (sym (frozen_stamp nodes c.in-Some.node.number c.args.index frozen) ∙ ap (λ o. stamp_at nodes o c.args.index) has)

pub returns-then-index-clause-value : goal.returns-then-index-clause-value
returns-then-index-clause-value c =
    let l = c.self.inside.lineage in
    let far : 2 ^ 32 ≤ c.args.index = omega (arith, c.if-index.true) in
    rw (← c.self.view_is) (sym (far_stamp l.table.nodes l.made c.self.invariant.holders.lines c.args.index far (map.get (held holder_cmp c.self.inside.nodes) c.args.holder.now)))

pub returns-in-Some-own_at-clause-value : goal.returns-in-Some-own_at-clause-value
returns-in-Some-own_at-clause-value c =
    let has = rw (← c.self.view_is) at c.in-Some.ensures in
    let nodes = c.self.inside.lineage.table.nodes in
    let opened = c.is_open.ensures.is_open c.if-not-is_open.false in
    rw (← c.self.view_is) (ap (option_map (λ (b : Block). b.stamp)) c.in-Some-own_at.ensures ∙ sym (open_stamp nodes c.in-Some.node.number c.args.index opened) ∙ ap (λ o. stamp_at nodes o c.args.index) has)

pub returns-in-Some-own_at-clause-there : goal.returns-in-Some-own_at-clause-there
returns-in-Some-own_at-clause-there c =
    rw (← c.self.view_is) (λ s counted. own_slot c.self.inside.lineage _ c.self.invariant.holders s counted c.in-Some.node.number c.args.index c.in-Some-own_at.block (sym c.in-Some-own_at.ensures))

pub returns-in-None-clause-value : goal.returns-in-None-clause-value
returns-in-None-clause-value c =
    let has = rw (← c.self.view_is) at c.in-Some.ensures in
    let nodes = c.self.inside.lineage.table.nodes in
    let opened = c.is_open.ensures.is_open c.if-not-is_open.false in
    rw (← c.self.view_is) (ap (option_map (λ (b : Block). b.stamp)) c.in-None.ensures ∙ sym (open_stamp nodes c.in-Some.node.number c.args.index opened) ∙ ap (λ o. stamp_at nodes o c.args.index) has)
