use Rattle.std.proofs.Common.{◌≡◌, ◌+◌, ◌<◌, ◌^◌}
use Rattle.std.specs.List.{count_by}
use Rattle.ebs_policies.proofs.Counts.{owned}
use Rattle.ebs_policies.proofs.policies.count_of.Given as goal

abbrev pub invariant-loop-key : goal.invariant-loop-key
invariant-loop-key l =
    (l.count + count_by (owned l.account) l.key-iterator ≡ count_by (owned l.account) l.initial.key-iterator)
    × (count_by (owned l.account) l.initial.key-iterator < 2 ^ 63)
