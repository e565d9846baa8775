use Rattle.std.proofs.Common.{sym, subst}
use Rattle.ebs_model.specs.declared.request.Request.{Request}
use Rattle.ebs_disk_store.specs.declared.heads.PutHead.TheVariants as head
use Rattle.ebs_disk_store.specs.inner.Turned.{Turn}
use Rattle.ebs_disk_store.specs.inner.Applied.{put}
use Rattle.ebs_disk_store.proofs.store.Store.put_request.Goals as goal

pub returns-in-PutSnapshotBlock-clause-told : goal.returns-in-PutSnapshotBlock-clause-told
returns-in-PutSnapshotBlock-clause-told g c = put (head.Snapshot c.in-PutSnapshotBlock.key c.in-PutSnapshotBlock.index c.in-PutSnapshotBlock.digest) c.in-PutSnapshotBlock.bytes c.in-PutSnapshotBlock.is c.requires.within c.put_bytes.ensures.told

pub returns-in-PutSnapshotBlock-clause-step : goal.returns-in-PutSnapshotBlock-clause-step
returns-in-PutSnapshotBlock-clause-step g c sound told honest =
    subst (λ (r : Request). Turn (g.D.Disk.view c.args.disk.now) (g.D.Disk.view c.put_bytes.new.disk) c.args.self.now c.put_bytes.new.self c.args.account c.args.reading r c.put_bytes.result) (sym c.in-PutSnapshotBlock.is) (c.put_bytes.ensures.step sound told honest)

pub returns-in-WriteVolumeBlock-clause-told : goal.returns-in-WriteVolumeBlock-clause-told
returns-in-WriteVolumeBlock-clause-told g c = put (head.Volume c.in-WriteVolumeBlock.key c.in-WriteVolumeBlock.index c.in-WriteVolumeBlock.digest) c.in-WriteVolumeBlock.bytes c.in-WriteVolumeBlock.is c.requires.within c.put_bytes-in-WriteVolumeBlock.ensures.told

pub returns-in-WriteVolumeBlock-clause-step : goal.returns-in-WriteVolumeBlock-clause-step
returns-in-WriteVolumeBlock-clause-step g c sound told honest =
    subst (λ (r : Request). Turn (g.D.Disk.view c.args.disk.now) (g.D.Disk.view c.put_bytes-in-WriteVolumeBlock.new.disk) c.args.self.now c.put_bytes-in-WriteVolumeBlock.new.self c.args.account c.args.reading r c.put_bytes-in-WriteVolumeBlock.result) (sym c.in-WriteVolumeBlock.is) (c.put_bytes-in-WriteVolumeBlock.ensures.step sound told honest)
