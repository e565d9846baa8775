use Rattle.std.proofs.Common.{◌≡◌, take}
use Rattle.std.specs.List.{filter}
use Rattle.ebs_model.specs.Retention.{is_aged}
use Rattle.ebs_lifecycle.proofs.retention.aged.Given as goal

abbrev pub invariant-loop-one : goal.invariant-loop-one
invariant-loop-one l = l.picked.items ≡ filter (is_aged l.age l.now.second) (take l.one-index l.made)
