use Rattle.std.proofs.Common.{sym}
use Rattle.ebs_lineage.specs.Table.{changed, put_node}
use Rattle.ebs_lineage.specs.Lines.{with_nodes}
use Rattle.ebs_holds.proofs.Backed.{stand_alone, at_alone}
use Rattle.ebs_holds.proofs.Stamps.{put_counted}
use Rattle.std.proofs.Common.{refl, ◌∙◌}
use Rattle.ebs_holds.proofs.Steps.{the_open, put_stand, put_at}
use Rattle.ebs_holds.proofs.holdings.Holdings.put.Goals as goal

pub put_block-requires-clause-is_open : goal.put_block-requires-clause-is_open
put_block-requires-clause-is_open c =
    let has = rw (← c.self.view_is) at c.in-Some.ensures in
    let room = rw (← c.self.view_is) at c.requires.room in
    (the_open _ c.args.holder.now c.in-Some.node room has).0

pub put_block-requires-clause-room : goal.put_block-requires-clause-room
put_block-requires-clause-room c =
    let has = rw (← c.self.view_is) at c.in-Some.ensures in
    let room = rw (← c.self.view_is) at c.requires.room in
    (the_open _ c.args.holder.now c.in-Some.node room has).1

pub put_block-requires-clause-linked : goal.put_block-requires-clause-linked
put_block-requires-clause-linked c = c.self.invariant.linked

pub put_block-requires-clause-covers : goal.put_block-requires-clause-covers
put_block-requires-clause-covers c = c.self.invariant.covers

pub invariant_of-self : goal.invariant_of-self
invariant_of-self c =
    let has = rw (← c.self.view_is) at c.in-Some.ensures in
    let room = rw (← c.self.view_is) at c.requires.room in
    let l = c.self.inside.lineage in
    let m = with_nodes l (changed l.table.nodes c.in-Some.node.number (put_node c.args.index c.args.block)) in
    let opened = (the_open _ c.args.holder.now c.in-Some.node room has).0 in
    record {
      holders = stand_alone m c.put_block.new.lineage c.put_block.ensures.nodes _ (put_stand l m _ c.self.invariant.holders c.args.holder.now c.in-Some.node (sym has) c.args.index c.args.block c.ranges.index.fits opened refl);
      linked = c.put_block.ensures.linked;
      covers = c.put_block.ensures.covers;
    }

pub returns-clause-arrays : goal.returns-clause-arrays
returns-clause-arrays c =
    let has = rw (← c.self.view_is) at c.in-Some.ensures in
    let room = rw (← c.self.view_is) at c.requires.room in
    let l = c.self.inside.lineage in
    let m = with_nodes l (changed l.table.nodes c.in-Some.node.number (put_node c.args.index c.args.block)) in
    let opened = (the_open _ c.args.holder.now c.in-Some.node room has).0 in
    rw (← c.self.view_is) (λ q. at_alone m c.put_block.new.lineage c.put_block.ensures.nodes _ q
    ∙ put_at l m _ c.self.invariant.holders c.args.holder.now c.in-Some.node (sym has) c.args.index c.args.block c.ranges.index.fits opened refl q)

pub returns-clause-counted : goal.returns-clause-counted
returns-clause-counted c =
    let has = rw (← c.self.view_is) at c.in-Some.ensures in
    let room = rw (← c.self.view_is) at c.requires.room in
    let opened = (the_open _ c.args.holder.now c.in-Some.node room has).0 in
    rw (← c.self.view_is) (put_counted c.putting_counts.ensures c.self.inside.lineage c.put_block.new.lineage _ c.args.holder.now c.in-Some.node (sym has) opened c.args.index c.args.block c.put_block.ensures.nodes)
