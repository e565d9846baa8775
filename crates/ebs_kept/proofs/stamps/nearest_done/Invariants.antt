use Rattle.std.specs.Option.{option_map}
use Rattle.ebs_lineage.proofs.Arrays.{steps}
use Rattle.ebs_kept.proofs.stamps.nearest_done.Given as goal

abbrev pub invariant-loop-at : goal.invariant-loop-at
invariant-loop-at l = Unit {0}

abbrev pub decreases-loop-at : goal.decreases-loop-at
decreases-loop-at l = steps (option_map (λ n. n.number) l.at)
