use Rattle.std.proofs.Common.{◌≡◌, ◌++◌, refl, List, ℕ, None, subst, sym}
use Rattle.std.specs.Prelude.{OnOk}
use Rattle.ebs_model.specs.declared.request.Request.TheVariants.{StartSnapshot, CompleteSnapshot, DeleteSnapshot, ModifyPermission, LockSnapshot, UnlockSnapshot, ArchiveSnapshot, RestoreTier, CreateVolume, CreateSnapshot, DeleteVolume, CreateRule, UpdateRule, DeleteRule, LockRule, UnlockRule, RestoreFromBin, CreatePolicy, DeletePolicy, RunPolicy}
use Rattle.ebs_records.specs.declared.calls.ChangingCall.TheVariants as call
use Rattle.ebs_records.proofs.Asked.{fit_as, put_as, write_as}
use Rattle.ebs_records.proofs.calls.write_asked.Goals as goal

pub write_start-requires : goal.write_start-requires
write_start-requires c = let f = c.in-StartSnapshot-None in
    fit_as (c.args.request.now, c.args.slot.now) c.requires (StartSnapshot f.size f.parent f.description f.tags f.client_token f.timeout) None f.is-0 f.is-1 (call.StartSnapshot, (f.size, (f.parent, (f.description, (f.tags, (f.client_token, f.timeout)))))) refl

pub write_put-requires : goal.write_put-requires
write_put-requires c = let f = c.in-PutSnapshotBlock-Some in (put_as (c.args.request.now, c.args.slot.now) c.requires f.key f.index f.digest f.bytes-0 f.slot f.is-0 f.is-1).fit

pub write_complete-requires : goal.write_complete-requires
write_complete-requires c = let f = c.in-CompleteSnapshot-None in
    fit_as (c.args.request.now, c.args.slot.now) c.requires (CompleteSnapshot f.key f.count f.checksum) None f.is-0 f.is-1 (call.CompleteSnapshot, (f.key, (f.count, f.checksum))) refl

pub write_permission-requires : goal.write_permission-requires
write_permission-requires c = let f = c.in-ModifyPermission-None in
    fit_as (c.args.request.now, c.args.slot.now) c.requires (ModifyPermission f.key f.add f.add_all f.remove f.remove_all) None f.is-0 f.is-1 (call.ModifyPermission, (f.key, (f.add, (f.add_all, (f.remove, f.remove_all))))) refl

pub write_lock-requires : goal.write_lock-requires
write_lock-requires c = let f = c.in-LockSnapshot-None in
    fit_as (c.args.request.now, c.args.slot.now) c.requires (LockSnapshot f.key f.mode f.term f.cool_hours) None f.is-0 f.is-1 (call.LockSnapshot, (f.key, (f.mode, (f.term, f.cool_hours)))) refl

pub write_restore-requires : goal.write_restore-requires
write_restore-requires c = let f = c.in-RestoreTier-None in
    fit_as (c.args.request.now, c.args.slot.now) c.requires (RestoreTier f.key f.days) None f.is-0 f.is-1 (call.RestoreTier, (f.key, f.days)) refl

pub write_keyed-requires : goal.write_keyed-requires
write_keyed-requires c = let f = c.in-DeleteSnapshot-None in fit_as (c.args.request.now, c.args.slot.now) c.requires (DeleteSnapshot f.key) None f.is-0 f.is-1 (call.DeleteSnapshot, f.key) refl

pub write_keyed-requires-in-UnlockSnapshot-None : goal.write_keyed-requires-in-UnlockSnapshot-None
write_keyed-requires-in-UnlockSnapshot-None c = let f = c.in-UnlockSnapshot-None in fit_as (c.args.request.now, c.args.slot.now) c.requires (UnlockSnapshot f.key) None f.is-0 f.is-1 (call.UnlockSnapshot, f.key) refl

pub write_keyed-requires-in-ArchiveSnapshot-None : goal.write_keyed-requires-in-ArchiveSnapshot-None
write_keyed-requires-in-ArchiveSnapshot-None c = let f = c.in-ArchiveSnapshot-None in fit_as (c.args.request.now, c.args.slot.now) c.requires (ArchiveSnapshot f.key) None f.is-0 f.is-1 (call.ArchiveSnapshot, f.key) refl

pub write_create-requires : goal.write_create-requires
write_create-requires c = let f = c.in-CreateVolume-None in
    fit_as (c.args.request.now, c.args.slot.now) c.requires (CreateVolume f.origin f.size f.tags f.client_token) None f.is-0 f.is-1 (call.CreateVolume, (f.origin, (f.size, (f.tags, f.client_token)))) refl

pub write_snapshot-requires : goal.write_snapshot-requires
write_snapshot-requires c = let f = c.in-CreateSnapshot-None in
    fit_as (c.args.request.now, c.args.slot.now) c.requires (CreateSnapshot f.key f.description f.tags) None f.is-0 f.is-1 (call.CreateSnapshot, (f.key, (f.description, f.tags))) refl

pub write_block-requires : goal.write_block-requires
write_block-requires c = let f = c.in-WriteVolumeBlock-Some in (write_as (c.args.request.now, c.args.slot.now) c.requires f.key f.index f.digest f.bytes-0 f.slot f.is-0 f.is-1).fit

pub write_drop-requires : goal.write_drop-requires
write_drop-requires c = let f = c.in-DeleteVolume-None in fit_as (c.args.request.now, c.args.slot.now) c.requires (DeleteVolume f.key) None f.is-0 f.is-1 (call.DeleteVolume, f.key) refl

pub write_create_rule-requires : goal.write_create_rule-requires
write_create_rule-requires c = let f = c.in-CreateRule-None in
    fit_as (c.args.request.now, c.args.slot.now) c.requires (CreateRule f.days f.tags f.description f.delay) None f.is-0 f.is-1 (call.CreateRule, (f.days, (f.tags, (f.description, f.delay)))) refl

pub write_update_rule-requires : goal.write_update_rule-requires
write_update_rule-requires c = let f = c.in-UpdateRule-None in
    fit_as (c.args.request.now, c.args.slot.now) c.requires (UpdateRule f.key f.days f.tags f.description) None f.is-0 f.is-1 (call.UpdateRule, (f.key, (f.days, (f.tags, f.description)))) refl

pub write_rule_key-requires : goal.write_rule_key-requires
write_rule_key-requires c = let f = c.in-DeleteRule-None in fit_as (c.args.request.now, c.args.slot.now) c.requires (DeleteRule f.key) None f.is-0 f.is-1 (call.DeleteRule, f.key) refl

pub write_lock_rule-requires : goal.write_lock_rule-requires
write_lock_rule-requires c = let f = c.in-LockRule-None in fit_as (c.args.request.now, c.args.slot.now) c.requires (LockRule f.key f.delay) None f.is-0 f.is-1 (call.LockRule, (f.key, f.delay)) refl

pub write_rule_key-requires-in-UnlockRule-None : goal.write_rule_key-requires-in-UnlockRule-None
write_rule_key-requires-in-UnlockRule-None c = let f = c.in-UnlockRule-None in fit_as (c.args.request.now, c.args.slot.now) c.requires (UnlockRule f.key) None f.is-0 f.is-1 (call.UnlockRule, f.key) refl

pub write_keyed-requires-in-RestoreFromBin-None : goal.write_keyed-requires-in-RestoreFromBin-None
write_keyed-requires-in-RestoreFromBin-None c = let f = c.in-RestoreFromBin-None in fit_as (c.args.request.now, c.args.slot.now) c.requires (RestoreFromBin f.key) None f.is-0 f.is-1 (call.RestoreFromBin, f.key) refl

pub write_create_policy-requires : goal.write_create_policy-requires
write_create_policy-requires c = let f = c.in-CreatePolicy-None in
    fit_as (c.args.request.now, c.args.slot.now) c.requires (CreatePolicy f.targets f.hours f.at f.retain f.add) None f.is-0 f.is-1 (call.CreatePolicy, (f.targets, (f.hours, (f.at, (f.retain, f.add))))) refl

pub write_policy_key-requires : goal.write_policy_key-requires
write_policy_key-requires c = let f = c.in-DeletePolicy-None in fit_as (c.args.request.now, c.args.slot.now) c.requires (DeletePolicy f.key) None f.is-0 f.is-1 (call.DeletePolicy, f.key) refl

pub write_policy_key-requires-in-RunPolicy-None : goal.write_policy_key-requires-in-RunPolicy-None
write_policy_key-requires-in-RunPolicy-None c = let f = c.in-RunPolicy-None in fit_as (c.args.request.now, c.args.slot.now) c.requires (RunPolicy f.key) None f.is-0 f.is-1 (call.RunPolicy, f.key) refl

pub returns-in-PutSnapshotBlock-Some : goal.returns-in-PutSnapshotBlock-Some
returns-in-PutSnapshotBlock-Some c = let f = c.in-PutSnapshotBlock-Some in
    subst (λ (bytes : List ℕ). OnOk c.write_put.result (c.write_put.new.out.items ≡ c.args.out.now.items ++ bytes)) (sym (put_as (c.args.request.now, c.args.slot.now) c.requires f.key f.index f.digest f.bytes-0 f.slot f.is-0 f.is-1).is) c.write_put.ensures

pub returns-in-WriteVolumeBlock-Some : goal.returns-in-WriteVolumeBlock-Some
returns-in-WriteVolumeBlock-Some c = let f = c.in-WriteVolumeBlock-Some in
    subst (λ (bytes : List ℕ). OnOk c.write_block.result (c.write_block.new.out.items ≡ c.args.out.now.items ++ bytes)) (sym (write_as (c.args.request.now, c.args.slot.now) c.requires f.key f.index f.digest f.bytes-0 f.slot f.is-0 f.is-1).is) c.write_block.ensures
