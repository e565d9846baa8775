use Rattle.std.proofs.Common.{◌≡◌, drop}
use Rattle.ebs_regrown.proofs.Growing.{IsGrowing}
use Rattle.ebs_regrown.proofs.regrown.grow.Given as goal

abbrev pub invariant-loop-row : goal.invariant-loop-row
invariant-loop-row l = IsGrowing l.rows (drop l.row-index l.rows) l.grown.numbers l.grown.lineage × (l.grown.backlog ≡ l.initial.grown.backlog)
