use Rattle.std.proofs.Common.{◌≡◌, ◌-◌, ◌^◌, true}
use Rattle.ebs_world.specs.Image.{Spells, Everywhere}
use Rattle.ebs_world.specs.View.{Ran}
use Rattle.ebs_journal.specs.Format.{entries}
use Rattle.ebs_journal.specs.inner.Reading.{IsAhead, IsSized}
use Rattle.ebs_journal.proofs.records.read_records.Given as goal

abbrev pub invariant-loop-ahead : goal.invariant-loop-ahead
invariant-loop-ahead g l = record {
  ran : Ran Everywhere (g.D.Disk.view l.fn.disk) (g.D.Disk.view l.disk);
  sized : IsSized l.fn.first l.records.items l.places.items l.gate;
  spelled : (g.D.Disk.view l.fn.disk).tells ≡ true → Spells ((g.D.Disk.view l.fn.disk).reads l.area) l.fn.first (entries l.records.items);
  ahead_is : (g.D.Disk.view l.fn.disk).tells ≡ true → IsAhead ((g.D.Disk.view l.fn.disk).reads l.area) l.gate l.ahead;
}

abbrev pub decreases-loop-ahead : goal.decreases-loop-ahead
decreases-loop-ahead g l = 2 ^ 62 - l.gate
