use Rattle.std.proofs.Common.{◌≡◌, ℕ, ◌+◌, ◌-◌, ◌<◌, ◌≤◌}
use Rattle.std.specs.FinMap as map
use Rattle.ebs_lineage.specs.Kin.{AreKin}
use Rattle.ebs_lineage.specs.Live.{IsOnLine}
use Rattle.ebs_lineage.specs.Hiders.{Hides, AreFewer}
use Rattle.ebs_lineage.specs.Hidden.{AreHiders}
use Rattle.ebs_lineage.specs.Ways.{AreWays, IsNoted}
use Rattle.ebs_lineage.proofs.judge.is_hidden_on.Given as goal

abbrev pub invariant-loop-hider : goal.invariant-loop-hider
invariant-loop-hider l = record {
  from : l.fn.from ≤ l.at;
  clear : (c : ℕ) → Hides l.hiders l.fn.node l.fn.index c → l.fn.from ≤ c → c < l.at → IsOnLine l.fn.nodes.nodes l.fn.end c → ⊥;
  known : AreHiders l.fn.nodes.nodes l.hiders;
  whole : l.hiders.is_whole ≡ l.fn.hiders.is_whole;
  fewer : AreFewer l.fn.hiders l.hiders;
  kin : AreKin l.fn.nodes.nodes l.kin.links;
  ways : AreWays l.fn.nodes.nodes l.kin.links;
  noted : IsNoted l.fn.kin.links l.kin.links;
  spare : l.fn.kin.spare ≤ l.kin.spare;
}

abbrev pub decreases-loop-hider : goal.decreases-loop-hider
decreases-loop-hider l = map.len l.hiders.hidings + (l.fn.end + 1 - l.at)
