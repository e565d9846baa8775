use Rattle.ebs_recovery.proofs.RecordCalls.{is_plain}
use Rattle.ebs_disk_store.proofs.following.block_of.Goals as goal

pub returns-in_default : goal.returns-in_default
returns-in_default c = record { some = tt; none = is_plain c.args.call.now c.requires c.in_default.not-PutSnapshotBlock c.in_default.not-WriteVolumeBlock }
