-- Each request, by its call.
use Rattle.ebs_model.specs.declared.request.Request.TheVariants.{StartSnapshot, PutSnapshotBlock, CompleteSnapshot, ListSnapshotBlocks, ListChangedBlocks, GetSnapshotBlock, DescribeSnapshot, DescribeSnapshots, DeleteSnapshot, ModifyPermission, LockSnapshot, UnlockSnapshot, ArchiveSnapshot, RestoreTier, CreateVolume, CreateSnapshot, WriteVolumeBlock, ReadVolumeBlock, DescribeVolume, DeleteVolume, CreateRule, GetRule, UpdateRule, DeleteRule, ListRules, LockRule, UnlockRule, ListBin, RestoreFromBin, CreatePolicy, GetPolicy, DeletePolicy, RunPolicy}
use Rattle.ebs_client.specs.Reach.{IsReached, IsRead, IsPaged, IsShared, IsRuled, IsRuledForAll, IsScheduled, IsAged}
use Rattle.std.proofs.Common.{refl}
use Rattle.std.specs.Fmt.{digits}
use Rattle.form_urlencoded.proofs.OnLiterals.{form_urlencoded_on_literals}
use Rattle.json.proofs.OnLiterals.{json_on_literals}
use Rattle.ebs_model.specs.Ids.{snap_id}
use Rattle.ebs_client.proofs.Asked as asked
use Rattle.ebs_client.proofs.Ruled as ruled
use Rattle.ebs_client.proofs.Managed as managed

pub is_reached : IsReached
is_reached account (StartSnapshot size parent description tags token timeout) small good held =
    asked.starts account size parent description tags token timeout small good held.0 held.1 held.2 held.3 held.4
is_reached account (PutSnapshotBlock key index digest bytes) small good held = asked.puts account key index digest bytes small good held.0 held.1
is_reached account (CompleteSnapshot key count checksum) small good held = asked.completes account key count checksum small good held.0 held.1
is_reached account (ListSnapshotBlocks key token most start) small good held = asked.lists account key token most start small good held.0 held.1
is_reached account (ListChangedBlocks first second token most start) small good held = asked.lists_changes account first second token most start small good held.0 held.1 held.2
is_reached account (GetSnapshotBlock key index token) small good held = asked.gets account key index token small good held.0 held.1
is_reached account (DescribeSnapshot key) small good held = asked.describes account key small held
is_reached account (DescribeSnapshots from most) small good held = asked.describes_all account from most small good
is_reached account (DeleteSnapshot key) small good held = asked.deletes account key small held
is_reached account (ModifyPermission key add add_all remove remove_all) small good held = asked.shares account key add add_all remove remove_all small good held.0 held.1 held.2
is_reached account (LockSnapshot key mode term cool_hours) small good held = asked.locks account key mode term cool_hours small good held.0 held.1
is_reached account (UnlockSnapshot key) small good held = asked.unlocks account key small held
is_reached account (ArchiveSnapshot key) small good held = asked.archives account key small held
is_reached account (RestoreTier key days) small good held = asked.restores account key days small good held
is_reached account (CreateVolume origin size tags token) small good held = asked.creates_volume account origin size tags token small good held.0 held.1 held.2 held.3
is_reached account (CreateSnapshot key description tags) small good held = asked.creates_snapshot account key description tags small good held.0 held.1 held.2
is_reached account (WriteVolumeBlock key index digest bytes) small good held = asked.writes account key index digest bytes small good held.0 held.1
is_reached account (ReadVolumeBlock key index) small good held = asked.reads_block account key index small good held
is_reached account (DescribeVolume key) small good held = asked.describes_volume account key small held
is_reached account (DeleteVolume key) small good held = asked.deletes_volume account key small held
is_reached account (CreateRule days tags description delay) small good held = ruled.creates account days tags description delay small good held.0 held.1
is_reached account (GetRule key) small good held = ruled.gets account key small held
is_reached account (UpdateRule key days tags description) small good held = ruled.updates account key days tags description small good held.0 held.1 held.2
is_reached account (DeleteRule key) small good held = ruled.deletes account key small held
is_reached account ListRules small good held = ruled.lists account small
is_reached account (LockRule key delay) small good held = ruled.locks account key delay small good held
is_reached account (UnlockRule key) small good held = ruled.unlocks account key small held
is_reached account (ListBin from most) small good held = ruled.lists_bin account from most small good
is_reached account (RestoreFromBin key) small good held = ruled.restores account key small held
is_reached account (CreatePolicy targets hours at retain add) small good held = managed.creates account targets hours at retain add small good held.0 held.1
is_reached account (GetPolicy key) small good held = managed.gets account key small held
is_reached account (DeletePolicy key) small good held = managed.deletes account key small held
is_reached account (RunPolicy key) small good held = managed.runs account key small held

pub is_read : IsRead
unfolding snap_id digits form_urlencoded_on_literals
is_read = refl

pub is_paged : IsPaged
unfolding snap_id digits form_urlencoded_on_literals
is_paged = refl

pub is_shared : IsShared
unfolding snap_id digits json_on_literals
is_shared = refl

pub is_ruled : IsRuled
unfolding snap_id digits json_on_literals
is_ruled = refl

pub is_ruled_for_all : IsRuledForAll
unfolding snap_id digits json_on_literals
is_ruled_for_all = refl

pub is_scheduled : IsScheduled
unfolding digits json_on_literals
is_scheduled = refl

pub is_aged : IsAged
unfolding digits json_on_literals
is_aged = refl
