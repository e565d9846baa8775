use Rattle.std.proofs.Common.{◌≡◌, ◌+◌, ◌<◌, ◌^◌}
use Rattle.std.specs.List.{count_by}
use Rattle.ebs_catalog.specs.Counts.{is_kept}
use Rattle.ebs_catalog.proofs.counts.count_kept.Given as goal

abbrev pub invariant-loop-key : goal.invariant-loop-key
invariant-loop-key l =
    (l.count + count_by (is_kept l.account l.at.second) l.key-iterator ≡ count_by (is_kept l.account l.at.second) l.initial.key-iterator)
    × (count_by (is_kept l.account l.at.second) l.initial.key-iterator < 2 ^ 63)
