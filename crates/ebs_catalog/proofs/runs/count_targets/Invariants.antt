use Rattle.std.proofs.Common.{◌≡◌, ◌+◌, ◌<◌, ◌^◌}
use Rattle.std.specs.List.{count_by}
use Rattle.ebs_catalog.specs.Runs.{is_own_target}
use Rattle.ebs_catalog.proofs.runs.count_targets.Given as goal

abbrev pub invariant-loop-volume : goal.invariant-loop-volume
invariant-loop-volume l =
    (l.count + count_by (is_own_target l.account l.policy) l.volume-iterator ≡ count_by (is_own_target l.account l.policy) l.initial.volume-iterator)
    × (count_by (is_own_target l.account l.policy) l.initial.volume-iterator < 2 ^ 63)
