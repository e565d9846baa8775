-- What rows decide of a request, and what becomes of them by an accepted change: one line a call.
use Rattle.std.specs.Prelude.{ℕ, true, false, Result, Option}
use Rattle.ebs_model.specs.declared.keys.SnapKey.{SnapKey}
use Rattle.ebs_model.specs.declared.keys.VolKey.{VolKey}
use Rattle.ebs_model.specs.declared.keys.Moment.{Moment}
use Rattle.ebs_model.specs.declared.request.Request.{Request}
use Rattle.ebs_model.specs.declared.request.Request.TheVariants.{StartSnapshot, PutSnapshotBlock, CompleteSnapshot, ListSnapshotBlocks, ListChangedBlocks, GetSnapshotBlock, DescribeSnapshot, DescribeSnapshots, DeleteSnapshot, ModifyPermission, LockSnapshot, UnlockSnapshot, ArchiveSnapshot, RestoreTier, CreateVolume, CreateSnapshot, WriteVolumeBlock, ReadVolumeBlock, DescribeVolume, DeleteVolume, CreateRule, GetRule, UpdateRule, DeleteRule, ListRules, LockRule, UnlockRule, ListBin, RestoreFromBin, CreatePolicy, GetPolicy, DeletePolicy, RunPolicy}
use Rattle.ebs_model.specs.declared.lock.LockCommand.TheVariants.{Lock, Unlock}
use Rattle.ebs_model.specs.declared.rules.RuleCommand.TheVariants as rule
use Rattle.ebs_model.specs.declared.change.Change.{Change}
use Rattle.ebs_model.specs.declared.change.Decision.{Decision}
use Rattle.ebs_model.specs.declared.answer.Refusal.{Refusal}
use Rattle.ebs_model.specs.Rows.{Rows}
use Rattle.ebs_model.specs.Decisions.{made_snap, made_vol}
use Rattle.ebs_model.specs.Calls.Start.{decide_start, commit_start}
use Rattle.ebs_model.specs.Calls.Put.{decide_put, commit_put}
use Rattle.ebs_model.specs.Calls.Complete.{decide_complete, commit_complete}
use Rattle.ebs_model.specs.Calls.List.{decide_list, decide_compare}
use Rattle.ebs_model.specs.Calls.Get.{decide_get}
use Rattle.ebs_model.specs.Calls.Describe.{decide_describe, decide_rows}
use Rattle.ebs_model.specs.Calls.Permission.{decide_permission, commit_permission}
use Rattle.ebs_model.specs.Calls.Delete.{decide_delete, commit_delete}
use Rattle.ebs_model.specs.Calls.Lock.{decide_lock, commit_lock}
use Rattle.ebs_model.specs.Calls.Archive.{decide_archive, decide_restore, commit_archive, commit_restore}
use Rattle.ebs_model.specs.Calls.Volume.{decide_create, decide_volume, decide_drop, commit_create, commit_drop}
use Rattle.ebs_model.specs.Calls.Disk.{decide_snap, decide_write, decide_fetch, commit_snap}
use Rattle.ebs_model.specs.Calls.Rule.{decide_rule, decide_get_rule, decide_list_rules, commit_rule}
use Rattle.ebs_model.specs.Calls.Bin.{decide_recover, commit_recover}
use Rattle.ebs_model.specs.Calls.Policy.{decide_policy, decide_get_policy, decide_drop_policy, commit_policy, commit_drop_policy}
use Rattle.ebs_model.specs.Calls.Run.{decide_run, commit_run}

-- of rows at the moment of the call, for a request that passes the tests on itself
abbrev pub decide : Rows → Moment → ℕ → Request → Result Decision Refusal
decide rows at account (StartSnapshot size parent description tags token timeout) = decide_start rows at account size parent description tags token timeout
decide rows at account (PutSnapshotBlock key index digest bytes) = decide_put rows at account key index digest
decide rows at account (CompleteSnapshot key count checksum) = decide_complete rows at account key count checksum
decide rows at account (ListSnapshotBlocks key page most start) = decide_list rows at account key
decide rows at account (ListChangedBlocks first second page most start) = decide_compare rows at account first second
decide rows at account (GetSnapshotBlock key index token) = decide_get rows at account key
decide rows at account (DescribeSnapshot key) = decide_describe rows at account key
decide rows at account (DescribeSnapshots from most) = decide_rows false rows at account from most
decide rows at account (DeleteSnapshot key) = decide_delete rows at account key
decide rows at account (ModifyPermission key add add_all remove remove_all) = decide_permission rows at account key add add_all remove remove_all
decide rows at account (LockSnapshot key mode term cool_hours) = decide_lock rows at account (LockSnapshot key mode term cool_hours) key (Lock mode term cool_hours)
decide rows at account (UnlockSnapshot key) = decide_lock rows at account (UnlockSnapshot key) key Unlock
decide rows at account (ArchiveSnapshot key) = decide_archive rows at account key
decide rows at account (RestoreTier key days) = decide_restore rows at account key days
decide rows at account (CreateVolume origin size tags token) = decide_create rows at account origin size tags token
decide rows at account (CreateSnapshot key description tags) = decide_snap rows at account key description tags
decide rows at account (WriteVolumeBlock key index digest bytes) = decide_write rows at account key index digest
decide rows at account (ReadVolumeBlock key index) = decide_fetch rows account key
decide rows at account (DescribeVolume key) = decide_volume rows account key
decide rows at account (DeleteVolume key) = decide_drop rows at account key
decide rows at account (CreateRule days tags description delay) = decide_rule rows at account (CreateRule days tags description delay) (rule.Create days tags description delay)
decide rows at account (GetRule key) = decide_get_rule rows at account key
decide rows at account (UpdateRule key days tags description) = decide_rule rows at account (UpdateRule key days tags description) (rule.Update key days tags description)
decide rows at account (DeleteRule key) = decide_rule rows at account (DeleteRule key) (rule.Delete key)
decide rows at account ListRules = decide_list_rules rows at account
decide rows at account (LockRule key delay) = decide_rule rows at account (LockRule key delay) (rule.Lock key delay)
decide rows at account (UnlockRule key) = decide_rule rows at account (UnlockRule key) (rule.Unlock key)
decide rows at account (ListBin from most) = decide_rows true rows at account from most
decide rows at account (RestoreFromBin key) = decide_recover rows at account key
decide rows at account (CreatePolicy targets hours time retain add) = decide_policy rows at account targets hours time retain add
decide rows at account (GetPolicy key) = decide_get_policy rows account key
decide rows at account (DeletePolicy key) = decide_drop_policy rows at account key
decide rows at account (RunPolicy key) = decide_run rows at account key

abbrev pub commit_by : Rows → Moment → ℕ → Option SnapKey → Option VolKey → Request → Rows
commit_by rows at account made volume (StartSnapshot size parent description tags token timeout) = commit_start rows at made size parent description tags token timeout
commit_by rows at account made volume (PutSnapshotBlock key index digest bytes) = commit_put rows at key index
commit_by rows at account made volume (CompleteSnapshot key count checksum) = commit_complete rows key
commit_by rows at account made volume (DeleteSnapshot key) = commit_delete rows at key
commit_by rows at account made volume (ModifyPermission key add add_all remove remove_all) = commit_permission rows key add add_all remove remove_all
commit_by rows at account made volume (LockSnapshot key mode term cool_hours) = commit_lock rows at key (Lock mode term cool_hours)
commit_by rows at account made volume (UnlockSnapshot key) = commit_lock rows at key Unlock
commit_by rows at account made volume (ArchiveSnapshot key) = commit_archive rows at key
commit_by rows at account made volume (RestoreTier key days) = commit_restore rows at key days
commit_by rows at account made volume (CreateVolume origin size tags token) = commit_create rows at volume origin size tags token
commit_by rows at account made volume (CreateSnapshot key description tags) = commit_snap rows at made key description tags
commit_by rows at account made volume (DeleteVolume key) = commit_drop rows key
commit_by rows at account made volume (CreateRule days tags description delay) = commit_rule rows at account (rule.Create days tags description delay)
commit_by rows at account made volume (UpdateRule key days tags description) = commit_rule rows at account (rule.Update key days tags description)
commit_by rows at account made volume (DeleteRule key) = commit_rule rows at account (rule.Delete key)
commit_by rows at account made volume (LockRule key delay) = commit_rule rows at account (rule.Lock key delay)
commit_by rows at account made volume (UnlockRule key) = commit_rule rows at account (rule.Unlock key)
commit_by rows at account made volume (RestoreFromBin key) = commit_recover rows key
commit_by rows at account made volume (CreatePolicy targets hours time retain add) = commit_policy rows at account targets hours time retain add
commit_by rows at account made volume (DeletePolicy key) = commit_drop_policy rows key
commit_by rows at account made volume (RunPolicy key) = commit_run rows at key
commit_by rows at account made volume request = rows

abbrev pub commit : Rows → Change → Rows
commit rows change = commit_by rows change.at change.account (made_snap change.made) (made_vol change.made) change.request
