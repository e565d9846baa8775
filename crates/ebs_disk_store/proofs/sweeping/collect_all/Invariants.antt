use Rattle.std.proofs.Common.{◌≡◌}
use Rattle.ebs_holds.specs.Holds.{nodes_in}
use Rattle.ebs_collect.specs.Slices.{IsCounted, Frees}
use Rattle.ebs_kept.specs.inner.Counted.{AreAllShown}
use Rattle.ebs_disk_store.proofs.sweeping.collect_all.Given as goal

abbrev pub invariant-slices : goal.invariant-slices
invariant-slices l = record {
  machine : l.kept.machine ≡ l.fn.kept.machine;
  counted : IsCounted l.slots (nodes_in l.kept.holding);
  frees : Frees l.fn.slots l.slots;
  shown : AreAllShown l.fn.kept → AreAllShown l.kept;
}

abbrev pub decreases-slices : goal.decreases-slices
decreases-slices l = l.kept.holding.queue.waiting
