use Rattle.std.proofs.Common.{arith, ℕ, ◌+◌, sym, ap}
use Rattle.ebs_collect.proofs.Judged.{leaves-same}
use Rattle.ebs_collect.proofs.Releases.{frees-same}
use Rattle.ebs_collect.proofs.Sliced.{leaves-both, frees-both, collected}
use Rattle.ebs_collect.proofs.backlog.Backlog.slice.Goals as goal

pub loop-left-init : goal.loop-left-init
loop-left-init c = record {
  linked = c.requires.linked;
  covers = c.requires.covers;
  counted = c.requires.counted;
  nodes = leaves-same c.args.lineage.now;
  slots = frees-same c.args.slots.now;
  count = ap (λ (k : ℕ). c.args.self.now.waiting + k) (sym c.steps-left.ensures);
}

pub step-requires-clause-linked : goal.step-requires-clause-linked
step-requires-clause-linked c = c.loop-left.invariant.linked

pub step-requires-clause-covers : goal.step-requires-clause-covers
step-requires-clause-covers c = c.loop-left.invariant.covers

pub step-requires-clause-counted : goal.step-requires-clause-counted
step-requires-clause-counted c = c.loop-left.invariant.counted

pub step-requires-clause-some : goal.step-requires-clause-some
step-requires-clause-some c = omega (arith, c.loop-left.invariant.count)

pub loop-left-preserved : goal.loop-left-preserved
loop-left-preserved c = record {
  linked = c.step.ensures.linked;
  covers = c.step.ensures.covers;
  counted = c.step.ensures.counted;
  nodes = leaves-both c.args.lineage.now c.loop-left.lineage c.step.new.lineage c.loop-left.invariant.nodes c.step.ensures.nodes;
  slots = frees-both c.args.slots.now c.loop-left.slots c.step.new.slots c.loop-left.invariant.slots c.step.ensures.slots;
  count = omega (arith, c.loop-left.invariant.count, c.step.ensures.waiting);
}

pub returns-clause-linked : goal.returns-clause-linked
returns-clause-linked c = c.loop-left.invariant.linked

pub returns-clause-covers : goal.returns-clause-covers
returns-clause-covers c = c.loop-left.invariant.covers

pub returns-clause-counted : goal.returns-clause-counted
returns-clause-counted c = c.loop-left.invariant.counted

pub returns-clause-nodes : goal.returns-clause-nodes
returns-clause-nodes c = c.loop-left.invariant.nodes

pub returns-clause-slots : goal.returns-clause-slots
returns-clause-slots c = c.loop-left.invariant.slots

pub returns-clause-waiting : goal.returns-clause-waiting
returns-clause-waiting c = omega (arith, c.loop-left.invariant.count)

pub returns-clause-collected : goal.returns-clause-collected
returns-clause-collected c = λ none. collected c.loop-left.self c.loop-left.lineage c.loop-left.invariant.linked c.loop-left.invariant.covers none
