use Rattle.std.proofs.Common.{◌≡◌, take}
use Rattle.ebs_lifecycle.specs.Retention.{keys_of}
use Rattle.ebs_lifecycle.proofs.retention.released_keys.Given as goal

abbrev pub invariant-loop-one : goal.invariant-loop-one
invariant-loop-one l = l.keys.items ≡ keys_of (λ m. m.locked) (take l.one-index l.picked)
