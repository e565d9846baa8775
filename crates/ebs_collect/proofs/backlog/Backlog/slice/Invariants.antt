use Rattle.std.proofs.Common.{◌≡◌, ◌+◌, min}
use Rattle.ebs_collect.specs.Backlogs.{IsLinked, Covers}
use Rattle.ebs_collect.specs.Slices.{IsCounted, Leaves, Frees}
use Rattle.ebs_collect.proofs.backlog.Backlog.slice.Given as goal

abbrev pub invariant-loop-left : goal.invariant-loop-left
invariant-loop-left l = record {
  linked : IsLinked l.self l.lineage;
  covers : Covers l.lineage;
  counted : IsCounted l.slots l.lineage.table.nodes;
  nodes : Leaves l.fn.lineage l.lineage;
  slots : Frees l.fn.slots l.slots;
  count : l.self.waiting + min l.fn.self.waiting l.fn.work ≡ l.fn.self.waiting + l.left;
}

abbrev pub decreases-loop-left : goal.decreases-loop-left
decreases-loop-left l = l.left
