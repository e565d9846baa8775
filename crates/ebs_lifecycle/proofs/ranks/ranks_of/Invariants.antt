use Rattle.std.proofs.Common.{◌≡◌, map, take}
use Rattle.ebs_lifecycle.specs.Retention.{rank_of}
use Rattle.ebs_lifecycle.proofs.ranks.ranks_of.Given as goal

abbrev pub invariant-loop-one : goal.invariant-loop-one
invariant-loop-one l = l.ranks.items ≡ map rank_of (take l.one-index l.made)
