use Rattle.std.proofs.Common.{◌-◌, ap, map, sym, ◌∙◌, arith}
use Rattle.ebs_checkpoints.specs.declared.owned.VolPoint.{VolPoint}
use Rattle.ebs_checkpoints.specs.declared.snapshots.SnapPoint.{SnapPoint}
use Rattle.ebs_restored.proofs.Naming.{some_numbered}
use Rattle.ebs_restored.proofs.holders.hold_snapshots.Goals as goal

pub hold-requires : goal.hold-requires
hold-requires c =
    some_numbered c.args.numbers.now c.args.snapshots.now (map (λ (row : VolPoint). row.node) c.args.volumes.now) (c.loop-at.at - 1) c.index-snapshots-at.result c.in-Some.number
    (let some = c.loop-at-test.true in let within = c.loop-at.invariant.0 in omega (arith, some, within)) (ap (λ (row : SnapPoint). row.node) (sym c.index-snapshots-at.is) ∙ c.in-Some.is) c.requires.numbered
