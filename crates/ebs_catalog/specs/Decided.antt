-- What an accepted change tells of the rows.
use Rattle.std.specs.Prelude.{◌≡◌, ℕ, ◌<◌, ◌≤◌, ◌^◌, List, map as list_map, true, false, unwrap_or}
use Rattle.std.specs.Option.{is_some}
use Rattle.std.specs.FinMap as map
use Rattle.std.specs.declared.option.Option.{Option}
use Rattle.std.specs.declared.option.Option.TheVariants.{None, Some}
use Rattle.ebs_model.specs.declared.keys.SnapKey.{SnapKey}
use Rattle.ebs_model.specs.declared.keys.VolKey.{VolKey}
use Rattle.ebs_model.specs.declared.keys.PolicyKey.{PolicyKey}
use Rattle.ebs_model.specs.declared.keys.Moment.{Moment}
use Rattle.ebs_model.specs.declared.keys.AnyKey.TheVariants.{Snap, Vol}
use Rattle.ebs_model.specs.declared.policy.Policy.{Policy}
use Rattle.ebs_model.specs.declared.policy.Retain.{Retain}
use Rattle.ebs_model.specs.declared.change.Change.{Change}
use Rattle.ebs_model.specs.declared.rows.SnapRow.{SnapRow}
use Rattle.ebs_model.specs.declared.rows.VolRow.{VolRow}
use Rattle.ebs_model.specs.declared.request.Request.{Request}
use Rattle.ebs_model.specs.declared.request.Request.TheVariants.{StartSnapshot, PutSnapshotBlock, CompleteSnapshot, DeleteSnapshot, ListSnapshotBlocks, ListChangedBlocks, GetSnapshotBlock, DescribeSnapshot, DescribeSnapshots, ModifyPermission, LockSnapshot, UnlockSnapshot, ArchiveSnapshot, RestoreTier, CreateVolume, CreateSnapshot, WriteVolumeBlock, ReadVolumeBlock, DescribeVolume, DeleteVolume, CreateRule, UpdateRule, DeleteRule, LockRule, UnlockRule, RestoreFromBin, CreatePolicy, GetPolicy, DeletePolicy, RunPolicy}
use Rattle.ebs_model.specs.Quotas.{blocks_of}
use Rattle.ebs_model.specs.Limits.{is_size, is_schedule, is_retain}
use Rattle.ebs_model.specs.Time.{status_at, is_pending, is_completed, is_ahead}
use Rattle.ebs_model.specs.Rows.{Rows, book_of}
use Rattle.ebs_model.specs.Calls.Permission.{permitted}
use Rattle.ebs_model.specs.Calls.Policy.{next_policy}
use Rattle.ebs_model.specs.Calls.Start.{next_key}
use Rattle.ebs_model.specs.Calls.Run.{due_targets, new_keys, run_released, run_ended}
use Rattle.ebs_bin.specs.Agrees.{IsTaken}
use Rattle.ebs_catalog.specs.Held.{IsFit}
use Rattle.ebs_catalog.specs.Rooms.{ruled}
use Rattle.ebs_catalog.specs.PolicyCalls.{made_policy}

-- a row's size in GiB is one that an image can have, it was started at a moment of the store, an upload has a timeout, and what has an end in the bin is completed
pub record HasLimits (row : SnapRow) : Type 0 where
  pub size : is_size row.size ≡ true
  pub start : row.start.second ≤ 2 ^ 36
  pub timeout : row.completed ≡ false → 1 ≤ row.timeout
  pub binned : is_some row.bin_end ≡ true → row.completed ≡ true

-- an open upload
pub record IsOpen (rows : Rows) (at : Moment) (key : SnapKey) : Type 0 where
  pub row : SnapRow
  pub found : map.get rows.snaps key ≡ Some row
  pub pending : is_pending (status_at row at.second) ≡ true

-- an open upload that has the index
pub record HasPlace (rows : Rows) (at : Moment) (key : SnapKey) (index : ℕ) : Type 0 where
  pub row : SnapRow
  pub found : map.get rows.snaps key ≡ Some row
  pub pending : is_pending (status_at row at.second) ≡ true
  pub within : index < blocks_of row.size

-- a completed snapshot
pub record IsDone (rows : Rows) (at : Moment) (key : SnapKey) : Type 0 where
  pub row : SnapRow
  pub found : map.get rows.snaps key ≡ Some row
  pub completed : is_completed (status_at row at.second) ≡ true

-- one that is shared with these accounts once the added are in and the removed are out
pub record IsShared (rows : Rows) (at : Moment) (key : SnapKey) (add remove shared : List ℕ) : Type 0 where
  pub done : IsDone rows at key
  pub accounts : shared ≡ permitted done.row.shared add remove

-- a size in GiB of a volume from this snapshot: one that an image can have, where the snapshot's own is one
pub record IsOfSource (rows : Rows) (key : SnapKey) (size : ℕ) : Type 0 where
  pub row : SnapRow
  pub found : map.get rows.snaps key ≡ Some row
  pub within : is_size row.size ≡ true → is_size size ≡ true

-- the size in GiB of a new volume
abbrev pub IsVolumeSize : Rows → Option SnapKey → ℕ → Type 0
IsVolumeSize rows None size = is_size size ≡ true
IsVolumeSize rows (Some origin) size = IsOfSource rows origin size

-- a volume, and one that has the index
pub record IsVolume (rows : Rows) (key : VolKey) : Type 0 where
  pub row : VolRow
  pub found : map.get rows.vols key ≡ Some row

pub record HasVolumePlace (rows : Rows) (key : VolKey) (index : ℕ) : Type 0 where
  pub row : VolRow
  pub found : map.get rows.vols key ≡ Some row
  pub within : index < blocks_of row.size

-- a snapshot that is there
pub record IsThere (rows : Rows) (key : SnapKey) : Type 0 where
  pub row : SnapRow
  pub found : map.get rows.snaps key ≡ Some row

-- one in the bin
pub record IsBinned (rows : Rows) (at : Moment) (key : SnapKey) : Type 0 where
  pub row : SnapRow
  pub found : map.get rows.snaps key ≡ Some row
  pub ahead : is_ahead row.bin_end at.second ≡ true

-- a command on the account's rules that is accepted
pub record IsRuled (rows : Rows) (at : Moment) (account : ℕ) (request : Request) : Type 0 where
  pub fits : IsFit request
  pub taken : IsTaken (ruled account (book_of rows account) at.second request)

-- what the call's tests on rows leave, and what they found that the change keeps
abbrev pub Passed : Rows → Moment → ℕ → List ℕ → Request → Type 0
Passed rows at account shared (StartSnapshot size parent description tags token timeout) = IsFit (StartSnapshot size parent description tags token timeout)
Passed rows at account shared (PutSnapshotBlock key index digest bytes) = HasPlace rows at key index
Passed rows at account shared (CompleteSnapshot key count checksum) = IsOpen rows at key
Passed rows at account shared (ModifyPermission key add add_all remove remove_all) = IsShared rows at key add remove shared
Passed rows at account shared (LockSnapshot key mode term cool_hours) = IsDone rows at key
Passed rows at account shared (UnlockSnapshot key) = IsDone rows at key
Passed rows at account shared (ArchiveSnapshot key) = IsDone rows at key
Passed rows at account shared (RestoreTier key days) = IsDone rows at key
Passed rows at account shared (CreateVolume origin size tags token) = IsVolumeSize rows origin (unwrap_or size 0)
Passed rows at account shared (CreateSnapshot volume description tags) = IsVolume rows volume
Passed rows at account shared (WriteVolumeBlock key index digest bytes) = HasVolumePlace rows key index
Passed rows at account shared (DeleteSnapshot key) = IsThere rows key
Passed rows at account shared (RestoreFromBin key) = IsBinned rows at key
Passed rows at account shared (CreateRule days tags description delay) = IsRuled rows at account (CreateRule days tags description delay)
Passed rows at account shared (UpdateRule key days tags description) = IsRuled rows at account (UpdateRule key days tags description)
Passed rows at account shared (DeleteRule key) = IsRuled rows at account (DeleteRule key)
Passed rows at account shared (LockRule key delay) = IsRuled rows at account (LockRule key delay)
Passed rows at account shared (UnlockRule key) = IsRuled rows at account (UnlockRule key)
Passed rows at account shared request = Unit {0}

-- a creation of the account's next policy, within its limits
pub record IsCreated (rows : Rows) (account : ℕ) (made : Option PolicyKey) (hours time : ℕ) (kept : Retain) : Type 0 where
  pub next : made ≡ Some (next_policy rows account)
  pub schedule : is_schedule hours time ≡ true
  pub retain : is_retain kept ≡ true

-- a run of the account's policy, with what it makes and gives up
pub record IsRun (rows : Rows) (change : Change) (key : PolicyKey) : Type 0 where
  pub policy : Policy
  pub found : map.get rows.policies key ≡ Some policy
  pub owner : change.account ≡ key.account
  pub made : change.made ≡ list_map Snap (new_keys (next_key rows key.account) (due_targets rows key policy change.at.second))
  pub sources : change.sources ≡ list_map (λ e. Vol e.0) (due_targets rows key policy change.at.second)
  pub ended : change.ended ≡ list_map Snap (run_ended rows change.at key policy)
  pub released : change.released ≡ list_map Snap (run_released rows change.at key policy)

-- what they leave of a creation, and of a change of policies
abbrev pub PassedTable : Rows → ℕ → Option PolicyKey → Request → Type 0
PassedTable rows account made (CreatePolicy targets hours time retain add) = IsCreated rows account made hours time retain
PassedTable rows account made request = Unit {0}

abbrev pub PassedPolicies : Rows → Change → Request → Type 0
PassedPolicies rows change (CreatePolicy targets hours time retain add) = IsCreated rows change.account (made_policy change.made) hours time retain
PassedPolicies rows change (RunPolicy key) = IsRun rows change key
PassedPolicies rows change request = Unit {0}

-- a call that isn't of the direct APIs
abbrev pub IsRowCall : Request → Type 0
IsRowCall (StartSnapshot size parent description tags token timeout) = ⊥
IsRowCall (PutSnapshotBlock key index digest bytes) = ⊥
IsRowCall (CompleteSnapshot key count checksum) = ⊥
IsRowCall (ListSnapshotBlocks key page most start) = ⊥
IsRowCall (ListChangedBlocks first second page most start) = ⊥
IsRowCall (GetSnapshotBlock key index token) = ⊥
IsRowCall request = Unit {0}

-- a call on the Recycle Bin, on volumes or on policies
abbrev pub IsLaterCall : Request → Type 0
IsLaterCall (DescribeSnapshot key) = ⊥
IsLaterCall (DescribeSnapshots from most) = ⊥
IsLaterCall (DeleteSnapshot key) = ⊥
IsLaterCall (ModifyPermission key add add_all remove remove_all) = ⊥
IsLaterCall (LockSnapshot key mode term cool_hours) = ⊥
IsLaterCall (UnlockSnapshot key) = ⊥
IsLaterCall (ArchiveSnapshot key) = ⊥
IsLaterCall (RestoreTier key days) = ⊥
IsLaterCall request = IsRowCall request

-- a call on policies
abbrev pub IsPolicyCall : Request → Type 0
IsPolicyCall (CreatePolicy targets hours time retain add) = Unit {0}
IsPolicyCall (GetPolicy key) = Unit {0}
IsPolicyCall (DeletePolicy key) = Unit {0}
IsPolicyCall (RunPolicy key) = Unit {0}
IsPolicyCall request = ⊥

-- a call on volumes
abbrev pub IsVolumeCall : Request → Type 0
IsVolumeCall (CreateVolume origin size tags token) = Unit {0}
IsVolumeCall (CreateSnapshot volume description tags) = Unit {0}
IsVolumeCall (WriteVolumeBlock key index digest bytes) = Unit {0}
IsVolumeCall (ReadVolumeBlock key index) = Unit {0}
IsVolumeCall (DescribeVolume key) = Unit {0}
IsVolumeCall (DeleteVolume key) = Unit {0}
IsVolumeCall request = ⊥

-- a call that makes nothing, and changes no rules and no policies
abbrev pub MakesNone : Request → Type 0
MakesNone (StartSnapshot size parent description tags token timeout) = ⊥
MakesNone (CreateVolume origin size tags token) = ⊥
MakesNone (CreateSnapshot volume description tags) = ⊥
MakesNone (CreateRule days tags description delay) = ⊥
MakesNone (UpdateRule key days tags description) = ⊥
MakesNone (DeleteRule key) = ⊥
MakesNone (LockRule key delay) = ⊥
MakesNone (UnlockRule key) = ⊥
MakesNone (CreatePolicy targets hours time retain add) = ⊥
MakesNone (DeletePolicy key) = ⊥
MakesNone (RunPolicy key) = ⊥
MakesNone request = Unit {0}

-- a call that makes nothing, changes no rules and no policies, adds nothing to an upload, and neither deletes a snapshot nor takes one from the bin
abbrev pub IsOwned : Request → Type 0
IsOwned (StartSnapshot size parent description tags token timeout) = ⊥
IsOwned (PutSnapshotBlock key index digest bytes) = ⊥
IsOwned (CompleteSnapshot key count checksum) = ⊥
IsOwned (DeleteSnapshot key) = ⊥
IsOwned (RestoreFromBin key) = ⊥
IsOwned (CreateVolume origin size tags token) = ⊥
IsOwned (CreateSnapshot volume description tags) = ⊥
IsOwned (CreateRule days tags description delay) = ⊥
IsOwned (UpdateRule key days tags description) = ⊥
IsOwned (DeleteRule key) = ⊥
IsOwned (LockRule key delay) = ⊥
IsOwned (UnlockRule key) = ⊥
IsOwned (CreatePolicy targets hours time retain add) = ⊥
IsOwned (DeletePolicy key) = ⊥
IsOwned (RunPolicy key) = ⊥
IsOwned request = Unit {0}
