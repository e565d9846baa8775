use Rattle.std.proofs.Common.{◌≤◌}
use Rattle.ebs_lineage.specs.Changed.{height}
use Rattle.ebs_collect.proofs.Enqueued.{IsEntered}
use Rattle.ebs_collect.proofs.backlog.Backlog.enqueue.Given as goal

abbrev pub invariant-loop-at : goal.invariant-loop-at
invariant-loop-at l = record {
  entered : IsEntered l.fn.lineage l.fn.node.number l.self l.lineage l.at;
  grows : l.fn.self.waiting ≤ l.self.waiting;
}

abbrev pub decreases-loop-at : goal.decreases-loop-at
decreases-loop-at l = height l.at
