use Rattle.std.proofs.Common.{◌≡◌, ℕ, ◌-◌, ◌<◌, ◌≤◌}
use Rattle.ebs_lineage.specs.Kin.{IsWantedKid, AreKin}
use Rattle.ebs_lineage.specs.Live.{IsFoundFrom, IsOnLine}
use Rattle.ebs_lineage.specs.Hiders.{Hides, AreFewer}
use Rattle.ebs_lineage.specs.Hidden.{AreHiders}
use Rattle.ebs_lineage.specs.Ways.{AreWays, IsNoted}
use Rattle.ebs_lineage.proofs.judge.+is_found_from.Given as goal

abbrev pub decreases-is_found_from : goal.decreases-is_found_from
decreases-is_found_from l = l.made - l.from

abbrev pub invariant-loop-made : goal.invariant-loop-made
invariant-loop-made l = record {
  later : l.fn.from ≤ l.at;
  below : IsOnLine l.fn.nodes.nodes l.at l.fn.node;
  clear : (c : ℕ) → Hides l.hiders l.fn.node l.fn.index c → IsOnLine l.fn.nodes.nodes l.at c → l.at ≤ c;
  down : IsFoundFrom l.fn.nodes.nodes l.fn.node l.fn.index l.fn.from → IsFoundFrom l.fn.nodes.nodes l.fn.node l.fn.index l.at;
  up : IsFoundFrom l.fn.nodes.nodes l.fn.node l.fn.index l.at → IsFoundFrom l.fn.nodes.nodes l.fn.node l.fn.index l.fn.from;
  known : AreHiders l.fn.nodes.nodes l.hiders;
  whole : l.hiders.is_whole ≡ l.fn.hiders.is_whole;
  fewer : AreFewer l.fn.hiders l.hiders;
  kin : AreKin l.fn.nodes.nodes l.kin.links;
  ways : AreWays l.fn.nodes.nodes l.kin.links;
  noted : IsNoted l.fn.kin.links l.kin.links;
  spare : l.fn.kin.spare ≤ l.kin.spare;
}

abbrev pub decreases-loop-made : goal.decreases-loop-made
decreases-loop-made l = l.made - l.at

abbrev pub invariant-loop-next : goal.invariant-loop-next
invariant-loop-next l = record {
  kid : IsWantedKid l.fn.nodes.nodes l.end l.kid;
  above : (d : ℕ) → IsWantedKid l.fn.nodes.nodes l.end d → l.kid < d → IsFoundFrom l.fn.nodes.nodes l.fn.node l.fn.index d → ⊥;
  clear : (c : ℕ) → Hides l.hiders l.fn.node l.fn.index c → IsOnLine l.fn.nodes.nodes l.end c → ⊥;
  known : AreHiders l.fn.nodes.nodes l.hiders;
  whole : l.hiders.is_whole ≡ l.fn.hiders.is_whole;
  fewer : AreFewer l.fn.hiders l.hiders;
  kin : AreKin l.fn.nodes.nodes l.kin.links;
  ways : AreWays l.fn.nodes.nodes l.kin.links;
  noted : IsNoted l.fn.kin.links l.kin.links;
  spare : l.fn.kin.spare ≤ l.kin.spare;
}

abbrev pub decreases-loop-next : goal.decreases-loop-next
decreases-loop-next l = l.kid
