use Rattle.std.proofs.Common.{◌≡◌, take, not, ◌&&◌}
use Rattle.ebs_lifecycle.specs.Retention.{keys_of}
use Rattle.ebs_lifecycle.proofs.retention.ended_keys.Given as goal

abbrev pub invariant-loop-one : goal.invariant-loop-one
invariant-loop-one l = l.keys.items ≡ keys_of (λ m. not m.locked && not m.archived) (take l.one-index l.picked)
