use Rattle.std.specs.FinMap as map
use Rattle.ebs_lineage.proofs.Hidings.{IsForgetting}
use Rattle.ebs_lineage.proofs.hiders.Hiders.forget.Given as goal

abbrev pub invariant-loop-by : goal.invariant-loop-by
invariant-loop-by l = IsForgetting l.fn.self l.self l.fn.node l.fn.index

abbrev pub decreases-loop-by : goal.decreases-loop-by
decreases-loop-by l = map.len l.self.hidings
