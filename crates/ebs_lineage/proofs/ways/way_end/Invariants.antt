use Rattle.std.proofs.Common.{◌≤◌, ◌-◌}
use Rattle.ebs_lineage.specs.Kin.{AreKin}
use Rattle.ebs_lineage.specs.Ways.{IsWay, AreWays, IsNoted}
use Rattle.ebs_lineage.proofs.ways.way_end.Given as goal

abbrev pub invariant-loop-next : goal.invariant-loop-next
invariant-loop-next l = record {
  way : IsWay l.fn.nodes.nodes l.fn.node l.at;
  kin : AreKin l.fn.nodes.nodes l.kin.links;
  ways : AreWays l.fn.nodes.nodes l.kin.links;
  noted : IsNoted l.fn.kin.links l.kin.links;
  spare : l.fn.kin.spare ≤ l.kin.spare;
}

abbrev pub decreases-loop-next : goal.decreases-loop-next
decreases-loop-next l = l.made - l.at
