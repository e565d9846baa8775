use Rattle.std.proofs.Common.{IsSome, Some, ◌≡◌}
use Rattle.std.specs.FinMap as fin
use Rattle.ebs_recovery.specs.Stands.{Holder, snapshot, volume}
use Rattle.ebs_recovery.specs.inner.Bases.{state_of}
use Rattle.ebs_disk_store.specs.inner.Shown.{AreSlotted}
use Rattle.ebs_disk_store.proofs.Opens.{begun_of, begun_state}
use Rattle.ebs_disk_store.proofs.opening.begin.Goals as goal

slotted : (c : goal.After-top-top) → AreSlotted c.in-Ok.slots.keys c.in-Ok.kept.machine
slotted c (snapshot key) index block e = c.blocks_have_slots.ensures.snapshots c.in-Ok.slots key index block c.in-Ok.ensures.counted e
slotted c (volume key) index block e = c.blocks_have_slots.ensures.volumes c.in-Ok.slots key index block c.in-Ok.ensures.counted e

pub returns-clause-begun : goal.returns-clause-begun
returns-clause-begun c =
    let point = c.in_ok-point.point in
    let is = c.in_ok-point.ensures in
    let m = c.in-Ok.kept.machine in
    let slots = c.in-Ok.slots in
    let of = begun_of point is.is_checkpoint.rules m slots c.in-Ok.ensures.machine c.in-Ok.ensures.keys c.in-Ok.ensures.leases c.in-Ok.ensures.area c.in-Ok.ensures.behind c.top-top.ensures.apart (slotted c) in
    let kept = begun_state point is.is_checkpoint.rules m slots c.in-Ok.ensures.machine c.in-Ok.ensures.keys c.in-Ok.ensures.leases c.in-Ok.ensures.area c.in-Ok.ensures.behind c.top-top.ensures.apart (slotted c) in
    record {
      base = state_of point;
      starts = record { point = point; is_checkpoint = is.is_checkpoint; here = is.here; is = is.is; says = c.one_base.ensures.said point };
      of = of;
      kept = kept;
    }
