use Rattle.std.proofs.Common.{◌∙◌, ap, ◌++◌}
use Rattle.ebs_records.specs.declared.calls.ChangingCall.{ChangingCall}
use Rattle.ebs_records.specs.declared.calls.ChangingCall.TheVariants as call
use Rattle.ebs_records.specs.inner.Calls.{call_byte}
use Rattle.ebs_records.proofs.Asked.{of_call}
use Rattle.ebs_records.proofs.calls.read_asked.Goals as goal

pub returns-in-StartSnapshot : goal.returns-in-StartSnapshot
returns-in-StartSnapshot c = of_call call.StartSnapshot c.args.input.now c.read.new.input c.read_start.new.input c.read_start.result (c.in_ok-read.ensures.1 ∙ ap (λ (x : ChangingCall). call_byte x ++ c.read.new.input) c.in-StartSnapshot.is) c.read_start.ensures

pub returns-in-PutSnapshotBlock : goal.returns-in-PutSnapshotBlock
returns-in-PutSnapshotBlock c = of_call call.PutSnapshotBlock c.args.input.now c.read.new.input c.read_put.new.input c.read_put.result (c.in_ok-read.ensures.1 ∙ ap (λ (x : ChangingCall). call_byte x ++ c.read.new.input) c.in-PutSnapshotBlock.is) c.read_put.ensures

pub returns-in-CompleteSnapshot : goal.returns-in-CompleteSnapshot
returns-in-CompleteSnapshot c = of_call call.CompleteSnapshot c.args.input.now c.read.new.input c.read_complete.new.input c.read_complete.result (c.in_ok-read.ensures.1 ∙ ap (λ (x : ChangingCall). call_byte x ++ c.read.new.input) c.in-CompleteSnapshot.is) c.read_complete.ensures

pub returns-in-ModifyPermission : goal.returns-in-ModifyPermission
returns-in-ModifyPermission c = of_call call.ModifyPermission c.args.input.now c.read.new.input c.read_permission.new.input c.read_permission.result (c.in_ok-read.ensures.1 ∙ ap (λ (x : ChangingCall). call_byte x ++ c.read.new.input) c.in-ModifyPermission.is) c.read_permission.ensures

pub returns-in-DeleteSnapshot : goal.returns-in-DeleteSnapshot
returns-in-DeleteSnapshot c = of_call call.DeleteSnapshot c.args.input.now c.read.new.input c.read_delete.new.input c.read_delete.result (c.in_ok-read.ensures.1 ∙ ap (λ (x : ChangingCall). call_byte x ++ c.read.new.input) c.in-DeleteSnapshot.is) c.read_delete.ensures

pub returns-in-LockSnapshot : goal.returns-in-LockSnapshot
returns-in-LockSnapshot c = of_call call.LockSnapshot c.args.input.now c.read.new.input c.read_lock.new.input c.read_lock.result (c.in_ok-read.ensures.1 ∙ ap (λ (x : ChangingCall). call_byte x ++ c.read.new.input) c.in-LockSnapshot.is) c.read_lock.ensures

pub returns-in-UnlockSnapshot : goal.returns-in-UnlockSnapshot
returns-in-UnlockSnapshot c = of_call call.UnlockSnapshot c.args.input.now c.read.new.input c.read_unlock.new.input c.read_unlock.result (c.in_ok-read.ensures.1 ∙ ap (λ (x : ChangingCall). call_byte x ++ c.read.new.input) c.in-UnlockSnapshot.is) c.read_unlock.ensures

pub returns-in-ArchiveSnapshot : goal.returns-in-ArchiveSnapshot
returns-in-ArchiveSnapshot c = of_call call.ArchiveSnapshot c.args.input.now c.read.new.input c.read_archive.new.input c.read_archive.result (c.in_ok-read.ensures.1 ∙ ap (λ (x : ChangingCall). call_byte x ++ c.read.new.input) c.in-ArchiveSnapshot.is) c.read_archive.ensures

pub returns-in-RestoreTier : goal.returns-in-RestoreTier
returns-in-RestoreTier c = of_call call.RestoreTier c.args.input.now c.read.new.input c.read_restore.new.input c.read_restore.result (c.in_ok-read.ensures.1 ∙ ap (λ (x : ChangingCall). call_byte x ++ c.read.new.input) c.in-RestoreTier.is) c.read_restore.ensures

pub returns-in-CreateVolume : goal.returns-in-CreateVolume
returns-in-CreateVolume c = of_call call.CreateVolume c.args.input.now c.read.new.input c.read_create.new.input c.read_create.result (c.in_ok-read.ensures.1 ∙ ap (λ (x : ChangingCall). call_byte x ++ c.read.new.input) c.in-CreateVolume.is) c.read_create.ensures

pub returns-in-CreateSnapshot : goal.returns-in-CreateSnapshot
returns-in-CreateSnapshot c = of_call call.CreateSnapshot c.args.input.now c.read.new.input c.read_snapshot.new.input c.read_snapshot.result (c.in_ok-read.ensures.1 ∙ ap (λ (x : ChangingCall). call_byte x ++ c.read.new.input) c.in-CreateSnapshot.is) c.read_snapshot.ensures

pub returns-in-WriteVolumeBlock : goal.returns-in-WriteVolumeBlock
returns-in-WriteVolumeBlock c = of_call call.WriteVolumeBlock c.args.input.now c.read.new.input c.read_write.new.input c.read_write.result (c.in_ok-read.ensures.1 ∙ ap (λ (x : ChangingCall). call_byte x ++ c.read.new.input) c.in-WriteVolumeBlock.is) c.read_write.ensures

pub returns-in-DeleteVolume : goal.returns-in-DeleteVolume
returns-in-DeleteVolume c = of_call call.DeleteVolume c.args.input.now c.read.new.input c.read_drop.new.input c.read_drop.result (c.in_ok-read.ensures.1 ∙ ap (λ (x : ChangingCall). call_byte x ++ c.read.new.input) c.in-DeleteVolume.is) c.read_drop.ensures

pub returns-in-CreateRule : goal.returns-in-CreateRule
returns-in-CreateRule c = of_call call.CreateRule c.args.input.now c.read.new.input c.read_create_rule.new.input c.read_create_rule.result (c.in_ok-read.ensures.1 ∙ ap (λ (x : ChangingCall). call_byte x ++ c.read.new.input) c.in-CreateRule.is) c.read_create_rule.ensures

pub returns-in-UpdateRule : goal.returns-in-UpdateRule
returns-in-UpdateRule c = of_call call.UpdateRule c.args.input.now c.read.new.input c.read_update_rule.new.input c.read_update_rule.result (c.in_ok-read.ensures.1 ∙ ap (λ (x : ChangingCall). call_byte x ++ c.read.new.input) c.in-UpdateRule.is) c.read_update_rule.ensures

pub returns-in-DeleteRule : goal.returns-in-DeleteRule
returns-in-DeleteRule c = of_call call.DeleteRule c.args.input.now c.read.new.input c.read_delete_rule.new.input c.read_delete_rule.result (c.in_ok-read.ensures.1 ∙ ap (λ (x : ChangingCall). call_byte x ++ c.read.new.input) c.in-DeleteRule.is) c.read_delete_rule.ensures

pub returns-in-LockRule : goal.returns-in-LockRule
returns-in-LockRule c = of_call call.LockRule c.args.input.now c.read.new.input c.read_lock_rule.new.input c.read_lock_rule.result (c.in_ok-read.ensures.1 ∙ ap (λ (x : ChangingCall). call_byte x ++ c.read.new.input) c.in-LockRule.is) c.read_lock_rule.ensures

pub returns-in-UnlockRule : goal.returns-in-UnlockRule
returns-in-UnlockRule c = of_call call.UnlockRule c.args.input.now c.read.new.input c.read_unlock_rule.new.input c.read_unlock_rule.result (c.in_ok-read.ensures.1 ∙ ap (λ (x : ChangingCall). call_byte x ++ c.read.new.input) c.in-UnlockRule.is) c.read_unlock_rule.ensures

pub returns-in-RestoreFromBin : goal.returns-in-RestoreFromBin
returns-in-RestoreFromBin c = of_call call.RestoreFromBin c.args.input.now c.read.new.input c.read_recover.new.input c.read_recover.result (c.in_ok-read.ensures.1 ∙ ap (λ (x : ChangingCall). call_byte x ++ c.read.new.input) c.in-RestoreFromBin.is) c.read_recover.ensures

pub returns-in-CreatePolicy : goal.returns-in-CreatePolicy
returns-in-CreatePolicy c = of_call call.CreatePolicy c.args.input.now c.read.new.input c.read_create_policy.new.input c.read_create_policy.result (c.in_ok-read.ensures.1 ∙ ap (λ (x : ChangingCall). call_byte x ++ c.read.new.input) c.in-CreatePolicy.is) c.read_create_policy.ensures

pub returns-in-DeletePolicy : goal.returns-in-DeletePolicy
returns-in-DeletePolicy c = of_call call.DeletePolicy c.args.input.now c.read.new.input c.read_delete_policy.new.input c.read_delete_policy.result (c.in_ok-read.ensures.1 ∙ ap (λ (x : ChangingCall). call_byte x ++ c.read.new.input) c.in-DeletePolicy.is) c.read_delete_policy.ensures

pub returns-in-RunPolicy : goal.returns-in-RunPolicy
returns-in-RunPolicy c = of_call call.RunPolicy c.args.input.now c.read.new.input c.read_run_policy.new.input c.read_run_policy.result (c.in_ok-read.ensures.1 ∙ ap (λ (x : ChangingCall). call_byte x ++ c.read.new.input) c.in-RunPolicy.is) c.read_run_policy.ensures
