-- To whom a snapshot is there, in fields of its row.
use Rattle.std.specs.Prelude.{◌≡◌, ◌≢◌, ◌⊎◌, ℕ, ◌+◌, ◌*◌, ◌≤◌, Bool, true, List}
use Rattle.std.specs.FinMap as fin
use Rattle.sha2.specs.Sha256.{sha256}
use Rattle.std.specs.declared.option.Option.{Option}
use Rattle.std.specs.declared.option.Option.TheVariants.{None, Some}
use Rattle.ebs_model.specs.declared.keys.SnapKey.{SnapKey}
use Rattle.ebs_model.specs.declared.keys.VolKey.{VolKey}
use Rattle.ebs_model.specs.declared.keys.PolicyKey.{PolicyKey}
use Rattle.ebs_model.specs.declared.keys.TokenKey.{TokenKey}
use Rattle.ebs_model.specs.declared.keys.Moment.{Moment}
use Rattle.ebs_model.specs.declared.tags.Tag.{Tag}
use Rattle.ebs_model.specs.declared.entries.BlockEntry.{BlockEntry}
use Rattle.ebs_model.specs.declared.entries.ChangedToken.{ChangedToken}
use Rattle.ebs_model.specs.declared.rows.SnapRow.{SnapRow}
use Rattle.ebs_model.specs.declared.rows.VolRow.{VolRow}
use Rattle.ebs_model.specs.declared.rows.LockState.{LockState}
use Rattle.ebs_model.specs.declared.rows.LockState.TheVariants as lock
use Rattle.ebs_model.specs.declared.lock.LockMode.{LockMode}
use Rattle.ebs_model.specs.declared.lock.Term.{Term}
use Rattle.ebs_model.specs.declared.request.Request.{Request}
use Rattle.ebs_model.specs.declared.request.Request.TheVariants.{StartSnapshot, PutSnapshotBlock, CompleteSnapshot, ListSnapshotBlocks, ListChangedBlocks, GetSnapshotBlock, DeleteSnapshot, ModifyPermission, LockSnapshot, UnlockSnapshot, ArchiveSnapshot, RestoreTier, CreateVolume, CreateSnapshot, WriteVolumeBlock, ReadVolumeBlock, DescribeVolume, DeleteVolume}
use Rattle.ebs_model.specs.declared.answer.Answer.{Answer}
use Rattle.ebs_model.specs.declared.answer.Answer.TheVariants.{Started, BlockWritten, Completed, BlockList, ChangedList, BlockRead, Done, VolumeShown, Refused}
use Rattle.ebs_model.specs.declared.answer.Refusal.{Refusal}
use Rattle.ebs_model.specs.Arrays.{WholeBlock}
use Rattle.ebs_model.specs.Limits.{is_page_size, has_ten_digits}
use Rattle.ebs_model.specs.Tokens.{is_block_token}
use Rattle.ebs_model.specs.Time.{Snapshot}
use Rattle.ebs_model.specs.Machine.{Machine, advance}
use Rattle.ebs_model.specs.Step.{step}
use Rattle.ebs_laws.specs.Pages.{IsBlockPage}
use Rattle.ebs_laws.specs.Words.{second_of, moment_at, MayRead, MayWrite, MayShare, IsNoRestore, IsUnused}

-- a block is answered only to one who may read its snapshot
abbrev pub BlockIsForReaders : Type 0
BlockIsForReaders =
    (m : Machine) (account : ℕ) (reading : Moment) (key : SnapKey) (index : ℕ) (token digest bytes : List ℕ)
    → (step m account reading (GetSnapshotBlock key index token)).1 ≡ BlockRead digest bytes → (s : Snapshot) × MayRead m account key (second_of m reading) s

-- and so is a list
abbrev pub ListIsForReaders : Type 0
ListIsForReaders =
    (m : Machine) (account : ℕ) (reading : Moment) (key : SnapKey) (page : Option (List ℕ)) (most start : ℕ) (entries : List BlockEntry) (expiry : Moment) (next : Option (List ℕ)) (size : ℕ)
    → (step m account reading (ListSnapshotBlocks key page most start)).1 ≡ BlockList entries expiry next size → (s : Snapshot) × MayRead m account key (second_of m reading) s

-- two snapshots are compared only for one who may read both, and where their lines are equal
abbrev pub ComparisonIsForReaders : Type 0
ComparisonIsForReaders =
    (m : Machine) (account : ℕ) (reading : Moment) (first second : SnapKey) (page : Option (List ℕ)) (most start : ℕ) (entries : List ChangedToken) (expiry : Moment) (next : Option (List ℕ)) (size : ℕ)
    → let now = second_of m reading in (step m account reading (ListChangedBlocks first second page most start)).1 ≡ ChangedList entries expiry next size
    → (a : Snapshot) × (b : Snapshot) × MayRead m account first now a × MayRead m account second now b × (a.row.line ≡ b.row.line)

-- an upload that repeats no start begins from a parent only for one who may read the parent, and not from a temporary restore
abbrev pub ParentIsForReaders : Type 0
ParentIsForReaders =
    (m : Machine) (account : ℕ) (reading : Moment) (size : ℕ) (parent : SnapKey) (text : Option (List ℕ)) (tags : List Tag) (token : Option (List ℕ)) (timeout : ℕ) (told : Option (List ℕ)) (owner : ℕ) (from : Option SnapKey) (key : SnapKey) (begin : Moment) (shown : List Tag) (gib : ℕ)
    → IsUnused m account token → (step m account reading (StartSnapshot size (Some parent) text tags token timeout)).1 ≡ Started told owner from key begin shown gib
    → (s : Snapshot) × MayRead m account parent (second_of m reading) s × IsNoRestore s.row.tier

-- and so does a volume that repeats no creation begin from an origin
abbrev pub OriginIsForReaders : Type 0
OriginIsForReaders =
    (m : Machine) (account : ℕ) (reading : Moment) (origin : SnapKey) (size : Option ℕ) (tags : List Tag) (token : Option (List ℕ)) (created : Bool) (gib : ℕ) (from : Option SnapKey) (shown : List Tag) (key : VolKey)
    → IsUnused m account token → (step m account reading (CreateVolume (Some origin) size tags token)).1 ≡ VolumeShown created gib from shown key
    → (s : Snapshot) × MayRead m account origin (second_of m reading) s × IsNoRestore s.row.tier

-- a block is written, and an upload completed, only by the owner and in time
abbrev pub PutIsForOwner : Type 0
PutIsForOwner =
    (m : Machine) (account : ℕ) (reading : Moment) (key : SnapKey) (index : ℕ) (digest bytes stated : List ℕ)
    → (step m account reading (PutSnapshotBlock key index digest bytes)).1 ≡ BlockWritten stated → (s : Snapshot) × MayWrite m account key (second_of m reading) s

abbrev pub CompleteIsForOwner : Type 0
CompleteIsForOwner =
    (m : Machine) (account : ℕ) (reading : Moment) (key : SnapKey) (count : ℕ) (checksum : Option (List ℕ))
    → (step m account reading (CompleteSnapshot key count checksum)).1 ≡ Completed → (s : Snapshot) × MayWrite m account key (second_of m reading) s

-- and only the owner shares it, once it is completed
abbrev pub SharingIsForOwner : Type 0
SharingIsForOwner =
    (m : Machine) (account : ℕ) (reading : Moment) (key : SnapKey) (add : List ℕ) (add_all : Bool) (remove : List ℕ) (remove_all : Bool)
    → (step m account reading (ModifyPermission key add add_all remove remove_all)).1 ≡ Done → (s : Snapshot) × MayShare m account key s

-- a call that isn't refused
abbrev pub IsAccepted : Answer → Type 0
IsAccepted answer = (refusal : Refusal) → answer ≢ Refused refusal

-- its upload is completed, or the minutes of its timeout are over
abbrev pub IsClosed : SnapRow → ℕ → Type 0
IsClosed row now = (row.completed ≡ true) ⊎ (row.last.second + 60 * row.timeout ≤ now)

-- no lock, or one that has reached its end
abbrev pub IsLockOver : LockState → ℕ → Type 0
IsLockOver lock.None now = Unit {0}
IsLockOver (lock.Governance until) now = until.second ≤ now
IsLockOver (lock.Compliance until cool_end) now = until.second ≤ now

-- a snapshot that the account may take out at this second: its own, no open upload, under no lock that lasts, and outside the bin
pub record MayDelete (m : Machine) (account : ℕ) (key : SnapKey) (now : ℕ) (s : Snapshot) : Type 0 where
  pub is_there : fin.get m.snaps key ≡ Some s
  pub owned : account ≡ key.account
  pub closed : IsClosed s.row now
  pub lock_over : IsLockOver s.row.lock now
  pub not_binned : s.row.bin_end ≡ None

-- only the owner takes a snapshot out
abbrev pub DeletionIsForOwner : Type 0
DeletionIsForOwner =
    (m : Machine) (account : ℕ) (reading : Moment) (key : SnapKey)
    → IsAccepted (step m account reading (DeleteSnapshot key)).1 → (s : Snapshot) × MayDelete m account key (second_of m reading) s

-- only the owner locks and unlocks it, once it is completed
abbrev pub LockIsForOwner : Type 0
LockIsForOwner =
    (m : Machine) (account : ℕ) (reading : Moment) (key : SnapKey) (mode : LockMode) (term : Term) (cool_hours : Option ℕ)
    → IsAccepted (step m account reading (LockSnapshot key mode term cool_hours)).1 → (s : Snapshot) × MayShare m account key s

abbrev pub UnlockIsForOwner : Type 0
UnlockIsForOwner = (m : Machine) (account : ℕ) (reading : Moment) (key : SnapKey) → IsAccepted (step m account reading (UnlockSnapshot key)).1 → (s : Snapshot) × MayShare m account key s

-- and only the owner archives and restores it
abbrev pub ArchiveIsForOwner : Type 0
ArchiveIsForOwner = (m : Machine) (account : ℕ) (reading : Moment) (key : SnapKey) → IsAccepted (step m account reading (ArchiveSnapshot key)).1 → (s : Snapshot) × MayShare m account key s

abbrev pub RestoreIsForOwner : Type 0
RestoreIsForOwner =
    (m : Machine) (account : ℕ) (reading : Moment) (key : SnapKey) (days : Option ℕ) → IsAccepted (step m account reading (RestoreTier key days)).1 → (s : Snapshot) × MayShare m account key s

-- the volume that a request names
abbrev pub NamesVolume : VolKey → Request → Type 0
NamesVolume key (CreateSnapshot k description tags) = k ≡ key
NamesVolume key (WriteVolumeBlock k index digest bytes) = k ≡ key
NamesVolume key (ReadVolumeBlock k index) = k ≡ key
NamesVolume key (DescribeVolume k) = k ≡ key
NamesVolume key (DeleteVolume k) = k ≡ key
NamesVolume key request = ⊥

-- only the owner takes a snapshot of it, writes it, reads it, is shown it and takes it out
abbrev pub VolumeIsForOwner : Type 0
VolumeIsForOwner =
    (m : Machine) (account : ℕ) (reading : Moment) (request : Request) (key : VolKey)
    → NamesVolume key request → IsAccepted (step m account reading request).1 → (row : VolRow) × (fin.get m.vols key ≡ Some row) × (account ≡ key.account)

-- one who may read a snapshot is answered with its block
abbrev pub ReaderGetsBlock : Type 0
ReaderGetsBlock =
    (m : Machine) (account : ℕ) (reading : Moment) (key : SnapKey) (index : ℕ) (token : List ℕ) (s : Snapshot) (block : WholeBlock)
    → let now = second_of m reading in MayRead m account key now s → is_block_token m.secret key index now token ≡ true → fin.get s.array index ≡ Some block
    → (step m account reading (GetSnapshotBlock key index token)).1 ≡ BlockRead (sha256 block.bytes) block.bytes

-- with its list
abbrev pub ReaderGetsList : Type 0
ReaderGetsList =
    (m : Machine) (account : ℕ) (reading : Moment) (key : SnapKey) (most start : ℕ) (s : Snapshot)
    → MayRead m account key (second_of m reading) s → is_page_size most ≡ true → has_ten_digits start ≡ true
    → IsBlockPage (step m account reading (ListSnapshotBlocks key None most start)).1

abbrev pub IsChangePage : Answer → Type 0
IsChangePage answer = (entries : List ChangedToken) × (expiry : Moment) × (next : Option (List ℕ)) × (size : ℕ) × (answer ≡ ChangedList entries expiry next size)

-- and with a comparison of two of one line
abbrev pub ReaderGetsComparison : Type 0
ReaderGetsComparison =
    (m : Machine) (account : ℕ) (reading : Moment) (first second : SnapKey) (most start : ℕ) (a b : Snapshot)
    → let now = second_of m reading in MayRead m account first now a → MayRead m account second now b → a.row.line ≡ b.row.line
    → is_page_size most ≡ true → has_ten_digits start ≡ true
    → IsChangePage (step m account reading (ListChangedBlocks first second None most start)).1

-- a call of another than the owner changes no row and no block, but by time
abbrev pub OthersChangeNothing : Type 0
OthersChangeNothing =
    (m : Machine) (account : ℕ) (reading : Moment) (request : Request) (key : SnapKey) → key.account ≢ account
    → fin.get (step m account reading request).0.snaps key ≡ fin.get (advance m (moment_at m reading)).snaps key

-- nor what another account has besides, nor its client tokens, nor its volumes and their blocks
abbrev pub OthersChangeNoAccount : Type 0
OthersChangeNoAccount = (m : Machine) (account : ℕ) (reading : Moment) (request : Request) (other : ℕ) → other ≢ account → fin.get (step m account reading request).0.own other ≡ fin.get m.own other

abbrev pub OthersChangeNoToken : Type 0
OthersChangeNoToken = (m : Machine) (account : ℕ) (reading : Moment) (request : Request) (key : TokenKey) → key.account ≢ account → fin.get (step m account reading request).0.tokens key ≡ fin.get m.tokens key

abbrev pub OthersChangeNoRule : Type 0
OthersChangeNoRule = (m : Machine) (account : ℕ) (reading : Moment) (request : Request) (other : ℕ) → other ≢ account → fin.get (step m account reading request).0.books other ≡ fin.get m.books other

abbrev pub OthersChangeNoPolicy : Type 0
OthersChangeNoPolicy = (m : Machine) (account : ℕ) (reading : Moment) (request : Request) (key : PolicyKey) → key.account ≢ account → fin.get (step m account reading request).0.policies key ≡ fin.get m.policies key

abbrev pub OthersChangeNoVolume : Type 0
OthersChangeNoVolume = (m : Machine) (account : ℕ) (reading : Moment) (request : Request) (key : VolKey) → key.account ≢ account → fin.get (step m account reading request).0.vols key ≡ fin.get m.vols key

abbrev pub OthersChangeNoDisk : Type 0
OthersChangeNoDisk = (m : Machine) (account : ℕ) (reading : Moment) (request : Request) (key : VolKey) → key.account ≢ account → fin.get (step m account reading request).0.disks key ≡ fin.get m.disks key
