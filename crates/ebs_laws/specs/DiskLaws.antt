-- The blocks of a volume, and the snapshots that are taken of it (EBS User Guide, volumes and snapshots).
use Rattle.std.specs.Prelude.{◌≡◌, ◌≢◌, ◌⊎◌, ℕ, ◌+◌, ◌*◌, ◌^◌, ◌<◌, ◌==◌, Bool, true, false, List, [], length}
use Rattle.std.specs.List.{count_by}
use Rattle.std.specs.FinMap as fin
use Rattle.std.specs.declared.option.Option.{Option}
use Rattle.std.specs.declared.option.Option.TheVariants.{None, Some}
use Rattle.sha2.specs.Sha256.{sha256}
use Rattle.ebs_model.specs.declared.keys.SnapKey.{SnapKey}
use Rattle.ebs_model.specs.declared.keys.VolKey.{VolKey}
use Rattle.ebs_model.specs.declared.keys.Moment.{Moment}
use Rattle.ebs_model.specs.declared.tags.Tag.{Tag}
use Rattle.ebs_model.specs.declared.rows.SnapRow.{SnapRow}
use Rattle.ebs_model.specs.declared.rows.VolRow.{VolRow}
use Rattle.ebs_model.specs.declared.rows.LockState.TheVariants as lock
use Rattle.ebs_model.specs.declared.rows.Tier.TheVariants.{Standard}
use Rattle.ebs_model.specs.declared.views.SnapView.{SnapView}
use Rattle.ebs_model.specs.declared.request.Request.{Request}
use Rattle.ebs_model.specs.declared.request.Request.TheVariants.{DeleteSnapshot, CreateVolume, CreateSnapshot, WriteVolumeBlock, ReadVolumeBlock, DescribeVolume, DeleteVolume}
use Rattle.ebs_model.specs.declared.answer.Answer.TheVariants.{SnapshotShown, VolumeShown, BlockWritten, BlockRead, ZeroBlockRead, Refused}
use Rattle.ebs_model.specs.declared.answer.Refusal.{Refusal}
use Rattle.ebs_model.specs.Quotas.{block_size}
use Rattle.ebs_model.specs.Limits.{is_description, are_tags, has_ten_digits}
use Rattle.ebs_model.specs.Time.{Snapshot}
use Rattle.ebs_model.specs.Machine.{Machine, advance, disk_of}
use Rattle.ebs_model.specs.Step.{step}
use Rattle.ebs_model.specs.Timed.{Timed, after_all}
use Rattle.ebs_laws.specs.Words.{second_of, moment_at, IsUnused, next_number, next_volume_number}
use Rattle.ebs_laws.specs.Puts.{IsAccepted}
use Rattle.ebs_laws.specs.AccessLaws as access
use Rattle.ebs_laws.specs.Uploads.{NumbersGiven}
use Rattle.ebs_laws.specs.BlockLaws.{HasBytes}
use Rattle.ebs_laws.specs.ShownLaws.{ShowsRow}
use Rattle.ebs_laws.specs.VolumeLaws.{VolumesGiven}

-- the volume's number was given out, and these bytes stand there, unless the volume was taken out
abbrev pub HasVolumeBytes : Machine → VolKey → ℕ → List ℕ → Type 0
HasVolumeBytes m key index bytes =
    (key.number < next_volume_number m key.account) × (stamp : ℕ) × ((row : VolRow) → fin.get m.vols key ≡ Some row → fin.get (disk_of m key) index ≡ Some (record { stamp = stamp; bytes = bytes }))

-- the same, of an index where nothing stands
abbrev pub IsBlank : Machine → VolKey → ℕ → Type 0
IsBlank m key index = (key.number < next_volume_number m key.account) × ((row : VolRow) → fin.get m.vols key ≡ Some row → fin.get (disk_of m key) index ≡ None)

-- after an accepted write its bytes stand there
abbrev pub WriteLeavesBytes : Type 0
WriteLeavesBytes =
    (m : Machine) (account : ℕ) (reading : Moment) (key : VolKey) (index : ℕ) (digest bytes stated : List ℕ)
    → let s = step m account reading (WriteVolumeBlock key index digest bytes) in VolumesGiven m → s.1 ≡ BlockWritten stated → HasVolumeBytes s.0 key index bytes

-- a write of this block is asked for
abbrev pub AsksWrite : VolKey → ℕ → Request → Type 0
AsksWrite key index (WriteVolumeBlock k i digest bytes) = (k ≡ key) × (i ≡ index)
AsksWrite key index request = ⊥

-- and they stand there until another write is accepted at that index
abbrev pub OtherCallKeepsDisk : Type 0
OtherCallKeepsDisk =
    (m : Machine) (account : ℕ) (reading : Moment) (request : Request) (key : VolKey) (index : ℕ) (bytes : List ℕ)
    → let s = step m account reading request in HasVolumeBytes m key index bytes → (AsksWrite key index request → IsAccepted s.1 → ⊥) → HasVolumeBytes s.0 key index bytes

-- until then nothing stands where nothing stood
abbrev pub OtherCallKeepsBlank : Type 0
OtherCallKeepsBlank =
    (m : Machine) (account : ℕ) (reading : Moment) (request : Request) (key : VolKey) (index : ℕ)
    → let s = step m account reading request in IsBlank m key index → (AsksWrite key index request → IsAccepted s.1 → ⊥) → IsBlank s.0 key index

-- a read answers the bytes that stand there, with their SHA-256, or is refused
abbrev pub ReadAnswersBytes : Type 0
ReadAnswersBytes =
    (m : Machine) (account : ℕ) (reading : Moment) (key : VolKey) (index : ℕ) (bytes : List ℕ) → let s = step m account reading (ReadVolumeBlock key index) in
    HasVolumeBytes m key index bytes → (s.1 ≡ BlockRead (sha256 bytes) bytes) ⊎ ((refusal : Refusal) × (s.1 ≡ Refused refusal))

-- where nothing stands it answers a block of zeros
abbrev pub BlankReadsZeros : Type 0
BlankReadsZeros =
    (m : Machine) (account : ℕ) (reading : Moment) (key : VolKey) (index : ℕ) → let s = step m account reading (ReadVolumeBlock key index) in
    IsBlank m key index → (s.1 ≡ ZeroBlockRead) ⊎ ((refusal : Refusal) × (s.1 ≡ Refused refusal))

-- a volume that this call creates has what its origin has
abbrev pub VolumeHasBytes : Type 0
VolumeHasBytes =
    (m : Machine) (account : ℕ) (reading : Moment) (origin : SnapKey) (size : Option ℕ) (tags : List Tag) (token : Option (List ℕ)) (created : Bool) (gib : ℕ) (from : Option SnapKey) (shown : List Tag) (key : VolKey) (index : ℕ) (bytes : List ℕ)
    → let s = step m account reading (CreateVolume (Some origin) size tags token) in IsUnused m account token → HasBytes m origin index bytes
    → s.1 ≡ VolumeShown created gib from shown key → HasVolumeBytes s.0 key index bytes

-- and one without an origin has nothing
abbrev pub NewVolumeIsBlank : Type 0
NewVolumeIsBlank =
    (m : Machine) (account : ℕ) (reading : Moment) (size : Option ℕ) (tags : List Tag) (token : Option (List ℕ)) (created : Bool) (gib : ℕ) (from : Option SnapKey) (shown : List Tag) (key : VolKey) (index : ℕ)
    → let s = step m account reading (CreateVolume None size tags token) in IsUnused m account token → s.1 ≡ VolumeShown created gib from shown key → IsBlank s.0 key index

-- a snapshot of a volume has what the volume has
abbrev pub SnapshotHasBytes : Type 0
SnapshotHasBytes =
    (m : Machine) (account : ℕ) (reading : Moment) (volume : VolKey) (text : Option (List ℕ)) (tags : List Tag) (created : Bool) (view : SnapView) (index : ℕ) (bytes : List ℕ)
    → let s = step m account reading (CreateSnapshot volume text tags) in HasVolumeBytes m volume index bytes → s.1 ≡ SnapshotShown created view → HasBytes s.0 view.key index bytes

-- the row of a snapshot of a volume: completed at once, with the volume's size and line and what was asked for, of its owner alone, and nothing else
pub record IsTakenRow (key : SnapKey) (now : Moment) (volume : VolKey) (of : VolRow) (text : Option (List ℕ)) (tags : List Tag) (row : SnapRow) : Type 0 where
  pub key_is : row.key ≡ key
  pub size_is : row.size ≡ of.size
  pub line_is : row.line ≡ of.line
  pub volume_is : row.volume ≡ Some volume
  pub description_is : row.description ≡ text
  pub tags_are : row.tags ≡ tags
  pub starts : row.start ≡ now
  pub last_is : row.last ≡ now
  pub completed : row.completed ≡ true
  pub no_timeout : row.timeout ≡ 0
  pub no_parent : row.parent ≡ None
  pub no_put : row.put ≡ fin.empty
  pub not_shared : row.shared ≡ []
  pub not_public : row.public ≡ false
  pub no_lock : row.lock ≡ lock.None
  pub tier_is : row.tier ≡ Standard
  pub not_binned : row.bin_end ≡ None
  pub no_policy : row.policy ≡ None

-- one snapshot more, with the account's next number and the blocks that its volume has at that moment; all else is what time leaves of it
pub record IsTaken (m : Machine) (account : ℕ) (reading : Moment) (volume : VolKey) (text : Option (List ℕ)) (tags : List Tag) (view : SnapView) (new : Machine) : Type 0 where
  pub of : VolRow
  pub was_there : fin.get m.vols volume ≡ Some of
  pub owned : account ≡ volume.account
  pub few : count_by (λ e. e.0.account == account) (fin.entries (advance m (moment_at m reading)).snaps) < 10000
  pub key_is : view.key ≡ record { account = account; number = next_number m account }
  pub number_fits : view.key.number < 2 ^ 28
  pub snapshot : Snapshot
  pub is_there : fin.get new.snaps view.key ≡ Some snapshot
  pub row : IsTakenRow view.key (moment_at m reading) volume of text tags snapshot.row
  pub blocks : snapshot.array ≡ disk_of m volume
  pub shown : ShowsRow account view.key (second_of m reading) snapshot.row view
  pub other_snapshots : (k : SnapKey) → k ≢ view.key → fin.get new.snaps k ≡ fin.get (advance m (moment_at m reading)).snaps k
  pub volumes : new.vols ≡ m.vols
  pub disks : new.disks ≡ m.disks
  pub rules : new.books ≡ m.books
  pub policies : new.policies ≡ m.policies
  pub tokens : new.tokens ≡ m.tokens
  pub snapshot_numbers : next_number new account ≡ next_number m account + 1
  pub volume_numbers : (a : ℕ) → next_volume_number new a ≡ next_volume_number m a
  pub other_numbers : (a : ℕ) → a ≢ account → fin.get new.own a ≡ fin.get m.own a

-- an accepted snapshot of a volume
abbrev pub SnapshotIsAsAsked : Type 0
SnapshotIsAsAsked =
    (m : Machine) (account : ℕ) (reading : Moment) (volume : VolKey) (text : Option (List ℕ)) (tags : List Tag) (created : Bool) (view : SnapView)
    → let s = step m account reading (CreateSnapshot volume text tags) in s.1 ≡ SnapshotShown created view → (created ≡ true) × IsTaken m account reading volume text tags view s.0

-- it is accepted of the volume's owner, who has fewer than 10000 snapshots and has numbers left, while the store has room for a further change
abbrev pub OwnerTakesSnapshot : Type 0
OwnerTakesSnapshot =
    (m : Machine) (account : ℕ) (reading : Moment) (volume : VolKey) (text : Option (List ℕ)) (tags : List Tag) (row : VolRow)
    → account ≡ volume.account → fin.get m.vols volume ≡ Some row → is_description text ≡ true → are_tags tags ≡ true
    → count_by (λ (e : SnapKey × Snapshot). e.0.account == account) (fin.entries (advance m (moment_at m reading)).snaps) < 10000 → next_number m account < 2 ^ 28 → m.changes < 2 ^ 40
    → access.IsAccepted (step m account reading (CreateSnapshot volume text tags)).1

-- whatever is called afterwards, while the snapshot is there it has the blocks that its volume had then
abbrev pub SnapshotKeepsItsMoment : Type 0
SnapshotKeepsItsMoment =
    (m : Machine) (turns : List Timed) (account : ℕ) (reading : Moment) (volume : VolKey) (text : Option (List ℕ)) (tags : List Tag) (created : Bool) (view : SnapView) (later : Snapshot)
    → let s = step m account reading (CreateSnapshot volume text tags) in NumbersGiven m → s.1 ≡ SnapshotShown created view
    → fin.get (after_all s.0 turns).snaps view.key ≡ Some later → later.array ≡ disk_of m volume

-- one block of a volume, with the next stamp; all else is what time leaves of it
pub record WritesVolumeBlock (m : Machine) (account : ℕ) (reading : Moment) (key : VolKey) (index : ℕ) (bytes : List ℕ) (new : Machine) : Type 0 where
  pub row : VolRow
  pub was_there : fin.get m.vols key ≡ Some row
  pub owned : account ≡ key.account
  pub in_range : index < 2048 * row.size
  pub block : fin.get (disk_of new key) index ≡ Some (record { stamp = m.stamps; bytes = bytes })
  pub other_blocks : (i : ℕ) → i ≢ index → fin.get (disk_of new key) i ≡ fin.get (disk_of m key) i
  pub other_disks : (k : VolKey) → k ≢ key → fin.get new.disks k ≡ fin.get m.disks k
  pub rules : new.books ≡ m.books
  pub policies : new.policies ≡ m.policies
  pub snapshots : new.snaps ≡ (advance m (moment_at m reading)).snaps
  pub volumes : new.vols ≡ m.vols
  pub accounts : new.own ≡ m.own
  pub tokens : new.tokens ≡ m.tokens
  pub stamps : new.stamps ≡ m.stamps + 1

-- an accepted write: its digest is the SHA-256 of its bytes, and is answered
abbrev pub WriteIsAsAsked : Type 0
WriteIsAsAsked =
    (m : Machine) (account : ℕ) (reading : Moment) (key : VolKey) (index : ℕ) (digest bytes stated : List ℕ)
    → let s = step m account reading (WriteVolumeBlock key index digest bytes) in s.1 ≡ BlockWritten stated
    → (digest ≡ sha256 bytes) × (stated ≡ digest) × WritesVolumeBlock m account reading key index bytes s.0

-- a whole block with its SHA-256 is accepted of the owner within the volume's size, while the store has room for a further change
abbrev pub OwnerWrites : Type 0
OwnerWrites =
    (m : Machine) (account : ℕ) (reading : Moment) (key : VolKey) (index : ℕ) (bytes : List ℕ) (row : VolRow)
    → account ≡ key.account → fin.get m.vols key ≡ Some row → has_ten_digits index ≡ true → index < 2048 * row.size → length bytes ≡ block_size → m.changes < 2 ^ 40
    → (step m account reading (WriteVolumeBlock key index (sha256 bytes) bytes)).1 ≡ BlockWritten (sha256 bytes)

-- and so is a read
abbrev pub OwnerReads : Type 0
OwnerReads =
    (m : Machine) (account : ℕ) (reading : Moment) (key : VolKey) (index : ℕ) (row : VolRow)
    → account ≡ key.account → fin.get m.vols key ≡ Some row → has_ten_digits index ≡ true → index < 2048 * row.size → access.IsAccepted (step m account reading (ReadVolumeBlock key index)).1

-- nothing beyond it is read
abbrev pub ReadIsInRange : Type 0
ReadIsInRange =
    (m : Machine) (account : ℕ) (reading : Moment) (key : VolKey) (index : ℕ)
    → access.IsAccepted (step m account reading (ReadVolumeBlock key index)).1 → (row : VolRow) × (fin.get m.vols key ≡ Some row) × (index < 2048 * row.size)

-- a call on a volume that takes no snapshot of it
abbrev pub IsOnVolume : Request → Type 0
IsOnVolume (CreateVolume origin size tags token) = Unit {0}
IsOnVolume (WriteVolumeBlock key index digest bytes) = Unit {0}
IsOnVolume (ReadVolumeBlock key index) = Unit {0}
IsOnVolume (DescribeVolume key) = Unit {0}
IsOnVolume (DeleteVolume key) = Unit {0}
IsOnVolume request = ⊥

-- leaves every snapshot as time leaves it
abbrev pub VolumesLeaveSnapshots : Type 0
VolumesLeaveSnapshots = (m : Machine) (account : ℕ) (reading : Moment) (request : Request) → IsOnVolume request → (step m account reading request).0.snaps ≡ (advance m (moment_at m reading)).snaps

-- whatever becomes of a volume's deletion, every other volume stays, with its blocks
abbrev pub VolumeDeletionLeavesOthers : Type 0
VolumeDeletionLeavesOthers =
    (m : Machine) (account : ℕ) (reading : Moment) (key other : VolKey) → let s = step m account reading (DeleteVolume key) in
    other ≢ key → (fin.get s.0.vols other ≡ fin.get m.vols other) × (fin.get s.0.disks other ≡ fin.get m.disks other)

-- and of a snapshot's deletion every volume does
abbrev pub SnapshotDeletionLeavesVolumes : Type 0
SnapshotDeletionLeavesVolumes = (m : Machine) (account : ℕ) (reading : Moment) (key : SnapKey) → let s = step m account reading (DeleteSnapshot key) in (s.0.vols ≡ m.vols) × (s.0.disks ≡ m.disks)
