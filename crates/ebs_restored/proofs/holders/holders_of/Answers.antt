use Rattle.std.proofs.Common.{map}
use Rattle.std.specs.List.{filter_map}
use Rattle.ebs_checkpoints.specs.declared.owned.VolPoint.{VolPoint}
use Rattle.ebs_checkpoints.specs.declared.snapshots.SnapPoint.{SnapPoint}
use Rattle.ebs_restored.proofs.Naming.{later_numbered}
use Rattle.ebs_restored.proofs.holders.holders_of.Goals as goal

pub hold_volumes-requires-clause-numbered : goal.hold_volumes-requires-clause-numbered
hold_volumes-requires-clause-numbered c =
    later_numbered c.args.numbers.now (filter_map (λ (row : SnapPoint). row.node) c.args.snapshots.now) (map (λ (row : VolPoint). row.node) c.args.volumes.now) c.requires
