use Rattle.std.proofs.Common.{◌≤◌}
use Rattle.ebs_lineage.specs.Kin.{AreListed}
use Rattle.ebs_lineage.specs.Linked.{IsRelisted, IsWantedOr}
use Rattle.ebs_lineage.proofs.leaving.leave.Given as goal

abbrev pub invariant-loop-parent : goal.invariant-loop-parent
invariant-loop-parent l = record {
  listed : AreListed (IsWantedOr l.fn.nodes.nodes l.at) l.kin.links;
  kept : IsRelisted l.fn.kin.links l.kin.links;
  spare : l.fn.kin.spare ≤ l.kin.spare;
}

abbrev pub decreases-loop-parent : goal.decreases-loop-parent
decreases-loop-parent l = l.at
