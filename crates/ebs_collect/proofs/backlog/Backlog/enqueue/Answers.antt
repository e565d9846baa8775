use Rattle.std.proofs.Common.{arith, ℕ, ◌<◌, Option, sym, subst}
use Rattle.ebs_lineage.specs.Changed.{height}
use Rattle.ebs_lineage.specs.Live.{IsOnLine}
use Rattle.ebs_collect.proofs.Enqueued.{entering, entered-more, entered-whole, covered}
use Rattle.ebs_collect.proofs.backlog.Backlog.enqueue.Goals as goal

pub loop-at-init : goal.loop-at-init
loop-at-init c = record { entered = entering c.args.self.now c.args.lineage.now c.args.node.number c.requires.linked; grows = omega arith }

pub visit-requires : goal.visit-requires
visit-requires c = c.loop-at.invariant.entered.linked

pub loop-at-preserved : goal.loop-at-preserved
loop-at-preserved c = record {
  entered = entered-more c.args.lineage.now c.args.node.number c.loop-at.self c.visit.new.self c.loop-at.lineage c.visit.new.lineage c.loop-at.at c.in-Some.number c.in-Some.is
      c.loop-at.invariant.entered c.visit.ensures c.above-at.result c.above-at.ensures.parent;
  grows = omega (arith, c.loop-at.invariant.grows, c.visit.ensures.grows);
}

pub loop-at-smaller : goal.loop-at-smaller
loop-at-smaller c = subst (λ (o : Option ℕ). height c.above-at.result < height o) (sym c.in-Some.is) c.above-at.ensures.lower

pub returns-clause-linked : goal.returns-clause-linked
returns-clause-linked c = c.loop-at.invariant.entered.linked

pub returns-clause-nodes : goal.returns-clause-nodes
returns-clause-nodes c = c.loop-at.invariant.entered.lines

pub returns-clause-waits : goal.returns-clause-waits
returns-clause-waits c = λ m i. (
  c.loop-at.invariant.entered.to m i,
  entered-whole c.args.lineage.now c.args.node.number c.loop-at.self c.loop-at.lineage c.loop-at.at c.in_default.is c.loop-at.invariant.entered m i,
)

pub returns-clause-covers : goal.returns-clause-covers
returns-clause-covers c =
    covered c.args.lineage.now c.loop-at.lineage c.keeps_lines.ensures (λ m. IsOnLine c.args.lineage.now.table.nodes c.args.node.number m) c.requires.covers c.loop-at.invariant.entered.lines
    (λ m i. entered-whole c.args.lineage.now c.args.node.number c.loop-at.self c.loop-at.lineage c.loop-at.at c.in_default.is c.loop-at.invariant.entered m i)

pub returns-clause-grows : goal.returns-clause-grows
returns-clause-grows c = c.loop-at.invariant.grows
