-- What a put writes, and how long it stays.
use Rattle.std.specs.Prelude.{◌≡◌, ◌≢◌, ◌⊎◌, ℕ, ◌<◌, ◌≤◌, true, false, List, [], ◌∷◌, ◌*◌, ◌^◌, if◌then◌else◌}
use Rattle.std.specs.FinMap as fin
use Rattle.std.specs.declared.option.Option.{Option}
use Rattle.std.specs.declared.option.Option.TheVariants.{None, Some}
use Rattle.ebs_model.specs.declared.keys.SnapKey.{SnapKey}
use Rattle.ebs_model.specs.declared.keys.VolKey.{VolKey}
use Rattle.ebs_model.specs.declared.rows.VolRow.{VolRow}
use Rattle.ebs_model.specs.declared.request.Request.{Request}
use Rattle.ebs_model.specs.declared.request.Request.TheVariants.{PutSnapshotBlock, UpdateRule, LockRule, UnlockRule, RestoreFromBin}
use Rattle.ebs_model.specs.declared.answer.Answer.{Answer}
use Rattle.ebs_model.specs.declared.answer.Answer.TheVariants.{Started, BlockWritten, Completed, SnapshotShown, Done, LockShown, TierShown, VolumeShown, RuleShown, PolicyShown, PolicyRan}
use Rattle.ebs_model.specs.Arrays.{WholeBlock, WholeArray}
use Rattle.ebs_model.specs.Time.{Snapshot, status_at, is_pending, is_failed}
use Rattle.ebs_model.specs.Machine.{Machine, disk_of}
use Rattle.ebs_model.specs.Timed.{Timed, turn}
use Rattle.ebs_laws.specs.Words.{is_repeat}

abbrev pub block_in : Option Snapshot → ℕ → Option WholeBlock
block_in None index = None
block_in (Some s) index = fin.get s.array index

-- the block of a snapshot at an index
abbrev pub block_at : Machine → SnapKey → ℕ → Option WholeBlock
block_at m key index = block_in (fin.get m.snaps key) index

-- one block of an upload is written, with the next stamp, and its index is marked as put at this moment; all else stays
pub record WritesOneBlock (old new : Machine) (key : SnapKey) (index : ℕ) (bytes : List ℕ) : Type 0 where
  pub found : Snapshot
  pub was_there : fin.get old.snaps key ≡ Some found
  pub was_open : is_pending (status_at found.row old.clock.second) ≡ true
  pub in_range : index < 2048 * found.row.size
  pub snapshot : Snapshot
  pub is_there : fin.get new.snaps key ≡ Some snapshot
  pub block : fin.get snapshot.array index ≡ Some (record { stamp = old.stamps; bytes = bytes })
  pub other_blocks : (i : ℕ) → i ≢ index → fin.get snapshot.array i ≡ fin.get found.array i
  pub is_put : fin.contains_key snapshot.row.put index ≡ true
  pub other_puts : (i : ℕ) → i ≢ index → fin.contains_key snapshot.row.put i ≡ fin.contains_key found.row.put i
  pub rest : snapshot.row ≡ record found.row { put = snapshot.row.put; last = new.clock }
  pub other_snapshots : (k : SnapKey) → k ≢ key → fin.get new.snaps k ≡ fin.get old.snaps k
  pub accounts : new.own ≡ old.own
  pub tokens : new.tokens ≡ old.tokens
  pub volumes : new.vols ≡ old.vols
  pub disks : new.disks ≡ old.disks
  pub rules : new.books ≡ old.books
  pub policies : new.policies ≡ old.policies

-- it stands somewhere on the machine: in a snapshot, or in a volume
abbrev pub IsBlockOf : Machine → WholeBlock → Type 0
IsBlockOf m block = ((key : SnapKey) × (index : ℕ) × (block_at m key index ≡ Some block)) ⊎ ((key : VolKey) × (index : ℕ) × (fin.get (disk_of m key) index ≡ Some block))

-- every block has a stamp below the next one
abbrev pub StampsGiven : Machine → Type 0
StampsGiven m = (block : WholeBlock) → IsBlockOf m block → block.stamp < m.stamps

-- how many blocks an answer says were written
abbrev pub blocks_written : Answer → ℕ
blocks_written (BlockWritten digest) = 1
blocks_written answer = 0

-- how many changes an answer says were accepted
abbrev pub changes_made : Answer → ℕ
changes_made (Started description owner parent key start tags size) = 1
changes_made (BlockWritten digest) = 1
changes_made Completed = 1
changes_made (SnapshotShown true view) = 1
changes_made Done = 1
changes_made (LockShown name until) = 1
changes_made (TierShown until tier) = 1
changes_made (VolumeShown true size origin tags key) = 1
changes_made (RuleShown true view) = 1
changes_made (PolicyShown true key last) = 1
changes_made (PolicyRan deleted made) = 1
changes_made answer = 0

-- what is restored from the bin, and a rule that is changed, are shown as a reading shows them; the call tells them apart
abbrev pub changes_told : Request → Answer → ℕ
changes_told (RestoreFromBin key) (SnapshotShown false view) = 1
changes_told (UpdateRule key days tags description) (RuleShown false view) = 1
changes_told (LockRule key delay) (RuleShown false view) = 1
changes_told (UnlockRule key) (RuleShown false view) = 1
changes_told request answer = changes_made answer

-- how many changes an answer to this call says were accepted: none where it repeats an earlier one
abbrev pub changes_by : Machine → ℕ → Request → Answer → ℕ
changes_by m account request answer = if is_repeat m account request then 0 else changes_told request answer

-- there are at most 2^40 changes, and no more stamps than changes
abbrev pub CountsFit : Machine → Type 0
CountsFit m = (m.changes ≤ 2 ^ 40) × (m.stamps ≤ m.changes)

-- a put of this block is asked for
abbrev pub AsksPut : SnapKey → ℕ → Request → Type 0
AsksPut key index (PutSnapshotBlock k i digest bytes) = (k ≡ key) × (i ≡ index)
AsksPut key index request = ⊥

abbrev pub IsAccepted : Answer → Type 0
IsAccepted answer = (digest : List ℕ) × (answer ≡ BlockWritten digest)

-- none of these calls is an accepted put of this block
abbrev pub NoPutAt : SnapKey → ℕ → Machine → List Timed → Type 0
NoPutAt key index m [] = Unit {0}
NoPutAt key index m (t ∷ ts) = (AsksPut key index t.call.request → IsAccepted (turn m t).1 → ⊥) × NoPutAt key index (turn m t).0 ts

-- this block is there, unless the snapshot was taken out or its upload has failed
abbrev pub HoldsBlock : Machine → SnapKey → ℕ → WholeBlock → Type 0
HoldsBlock m key index block = (s : Snapshot) → fin.get m.snaps key ≡ Some s → is_failed (status_at s.row m.clock.second) ≡ false → fin.get s.array index ≡ Some block

-- at most 16384 GiB, and blocks within that size
abbrev pub FitsIn : ℕ → WholeArray → Type 0
FitsIn size array = (size ≤ 16384) × ((index : ℕ) (block : WholeBlock) → fin.get array index ≡ Some block → index < 2048 * size)

abbrev pub IsWithinSize : Snapshot → Type 0
IsWithinSize s = FitsIn s.row.size s.array

-- so it is of each snapshot, and of each volume
abbrev pub IndexesFit : Machine → Type 0
IndexesFit m = ((key : SnapKey) (s : Snapshot) → fin.get m.snaps key ≡ Some s → IsWithinSize s) × ((key : VolKey) (row : VolRow) → fin.get m.vols key ≡ Some row → FitsIn row.size (disk_of m key))

-- blocks of one stamp are one block
abbrev pub StampsTell : Machine → Type 0
StampsTell m = (a b : WholeBlock) → IsBlockOf m a → IsBlockOf m b → a.stamp ≡ b.stamp → a ≡ b
