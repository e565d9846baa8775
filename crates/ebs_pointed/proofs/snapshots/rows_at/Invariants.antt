use Rattle.std.specs.List.{AllByRecursion}
use Rattle.ebs_pointed.specs.Snapshots.{IsPoint}
use Rattle.ebs_pointed.proofs.Aging.{IsAging}
use Rattle.ebs_pointed.proofs.snapshots.rows_at.Given as goal

abbrev pub invariant-loop-kept : goal.invariant-loop-kept
invariant-loop-kept l = record {
  listed : IsAging l.at.second l.points l.kept-iterator l.initial.kept-iterator;
  each : AllByRecursion (IsPoint l.holdings l.at.second) l.points;
}
