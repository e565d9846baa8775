use Rattle.std.proofs.Common.{◌≡◌, take}
use Rattle.std.specs.List.{filter}
use Rattle.ebs_lifecycle.specs.Retention.{is_older}
use Rattle.ebs_lifecycle.proofs.retention.older.Given as goal

abbrev pub invariant-loop-one : goal.invariant-loop-one
invariant-loop-one l = l.picked.items ≡ filter (is_older l.oldest) (take l.one-index l.made)
