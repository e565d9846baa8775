use Rattle.std.specs.Option.{option_map}
use Rattle.ebs_lineage.proofs.Arrays.{steps}
use Rattle.ebs_listing.proofs.Windowed.{IsLaid}
use Rattle.ebs_listing.proofs.window.lay.Given as goal

abbrev pub invariant-loop-at : goal.invariant-loop-at
invariant-loop-at l = IsLaid l.lineage.table.nodes l.fn.node.number l.start l.window (option_map (λ n. n.number) l.at)

abbrev pub decreases-loop-at : goal.decreases-loop-at
decreases-loop-at l = steps (option_map (λ n. n.number) l.at)
