use Rattle.std.proofs.Common.{◌≡◌}
use Rattle.std.specs.List.{list_any}
use Rattle.ebs_kept.proofs.Live.{tested}
use Rattle.ebs_kept.proofs.kept.Kept.is_live.Given as goal

abbrev pub invariant-loop-holder : goal.invariant-loop-holder
invariant-loop-holder l = list_any (tested l.stamp l.self) l.holder-iterator ≡ list_any (tested l.stamp l.self) l.initial.holder-iterator
