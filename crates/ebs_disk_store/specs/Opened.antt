-- What an opening and a making promise of a disk, and why a store can't be had.
use Rattle.std.specs.Prelude.{ℕ, ◌≢◌, ◌≡◌, true, ◌⊎◌, List, Some, ◌↔◌, Bool, false, ◌+◌, length, ◌∷◌, ◌++◌}
use Rattle.std.specs.List.{AllByRecursion}
use Rattle.std.specs.FinMap as fin
use Rattle.ebs_world.specs.declared.area.Area.{Area}
use Rattle.ebs_world.specs.declared.area.Area.TheVariants.{Blocks, Archive}
use Rattle.ebs_world.specs.Image.{Places, Everywhere, Images, Was, Image}
use Rattle.ebs_world.specs.View.{View, Ran}
use Rattle.ebs_journal.specs.Format.{entries}
use Rattle.ebs_journal.specs.declared.refusal.JournalRefusal.TheVariants as of_journal
use Rattle.ebs_slots.specs.Slots.{OffSlot}
use Rattle.ebs_model.specs.Machine.{empty_machine, Machine}
use Rattle.ebs_journal.specs.Opening.{OffJournal, IsJournal, IsRefused}
use Rattle.ebs_checkpoints.specs.declared.checkpoint.Checkpoint.{Checkpoint}
use Rattle.ebs_checkpoints.specs.Checkpoints.{spelled}
use Rattle.ebs_checkpoint_rules.specs.Rules.{IsCheckpoint}
use Rattle.ebs_recovery.specs.Bases.{IsDigestOf, Says, HasNoCopies}
use Rattle.ebs_recovery.specs.Stands.{Stands}
use Rattle.ebs_disk_store.specs.declared.refusal.OpenRefusal.{OpenRefusal}
use Rattle.ebs_disk_store.specs.declared.refusal.OpenRefusal.TheVariants.{DiskFailed, NotMade, AlreadyMade, NotAJournal, BadVersion, BadRecord, BadCheckpoint, NotBuilt, Memory}
use Rattle.ebs_model.specs.Quotas.{Rose}
use Rattle.ebs_records.specs.declared.record.Record.{Record}
use Rattle.ebs_records.specs.declared.record.Record.TheVariants.{Accepted, Advance, Moved}
use Rattle.ebs_records.specs.Records.{IsRecord, record_bytes}
use Rattle.ebs_recovery.specs.Made.{SlotOfStamp, State}
use Rattle.ebs_recovery.specs.Replays.{IsBadBehind, Replays}
use Rattle.ebs_disk_store.specs.Collected.{IsShared}

-- all that is neither a journal's nor in this slot
abbrev pub OffJournalAndSlot : ℕ → Places
OffJournalAndSlot slot a i = OffJournal a i × OffSlot Blocks slot a i

-- the first byte of the archive's area says whether a store was made
abbrev pub IsMarked : View → Type 0
IsMarked v = v.reads Archive 0 ≢ 0

-- or that none was
abbrev pub IsUnmarked : View → Type 0
IsUnmarked v = v.reads Archive 0 ≡ 0

-- where the mark said that a store was made, nothing was written
abbrev pub KeepsMade : View → View → Type 0
KeepsMade old new = old.tells ≡ true → IsMarked old → Ran Everywhere old new

-- an image of the making of a store: no store was made, it stands for the empty machine with this secret, or the disk had it before
abbrev pub NoneNewOrOld : View → List ℕ → Images
NoneNewOrOld old secret c = (c Archive 0 ≡ 0) ⊎ (Stands c (empty_machine secret) ⊎ Was Everywhere old.may_leave c)

-- of the slots that were given, just those are kept whose stamp a block has
abbrev pub KeepsShared : Machine → SlotOfStamp → SlotOfStamp → Type 0
KeepsShared m given keys = (stamp slot : ℕ) → (fin.get keys stamp ≡ Some slot) ↔ (IsShared m stamp × (fin.get given stamp ≡ Some slot))

-- ---- one record

-- a record of a kind that no store of this kind writes: a move
abbrev pub is_unbuilt : Record → Bool
is_unbuilt (Accepted a) = false
is_unbuilt (Advance at) = false
is_unbuilt (Moved transfer) = true

-- ---- one payload

-- it spells a record of a kind that no store of this kind writes
pub record IsUnbuilt (payload : List ℕ) : Type 0 where
  pub made : Record
  pub value : IsRecord made
  pub is : payload ≡ record_bytes made
  pub unbuilt : is_unbuilt made ≡ true

-- ---- all payloads

abbrev pub AreBuilt : List (List ℕ) → Type 0
AreBuilt payloads = AllByRecursion (λ payload. IsUnbuilt payload → ⊥) payloads

-- ---- a checkpoint and the records behind it

-- it spells a checkpoint with all rules of which nothing is in the archive, and in the kept form this state
pub record Starts (checkpoint : List ℕ) (base : State) : Type 0 where
  pub point : Checkpoint
  pub is_checkpoint : IsCheckpoint point
  pub here : HasNoCopies point
  pub is : checkpoint ≡ spelled point
  pub says : Says IsDigestOf point base

-- the record whose gate is at this place is the first that isn't followed, and none of a kind that no store of this kind writes
pub record IsBadAt (checkpoint : List ℕ) (payloads : List (List ℕ)) (place : ℕ) : Type 0 where
  pub base : State
  pub starts : Starts checkpoint base
  pub before : List (List ℕ)
  pub bad : IsBadBehind base payloads before
  pub built : IsUnbuilt bad.payload → ⊥
  pub place_is : place ≡ 29 + length checkpoint + length (entries before)

-- all records before it are followed, and it is of such a kind
pub record IsUnbuiltBehind (checkpoint : List ℕ) (payloads : List (List ℕ)) : Type 0 where
  pub base : State
  pub starts : Starts checkpoint base
  pub before : List (List ℕ)
  pub payload : List ℕ
  pub rest : List (List ℕ)
  pub is : payloads ≡ before ++ payload ∷ rest
  pub between : State
  pub replays : Replays base before between
  pub unbuilt : IsUnbuilt payload

-- no checkpoint with all rules is spelled so
abbrev pub IsNoCheckpoint : List ℕ → Type 0
IsNoCheckpoint checkpoint = (point : Checkpoint) → IsCheckpoint point → checkpoint ≡ spelled point → ⊥

-- it spells one of which something is in the archive
pub record IsOtherCheckpoint (checkpoint : List ℕ) : Type 0 where
  pub point : Checkpoint
  pub is_checkpoint : IsCheckpoint point
  pub is : checkpoint ≡ spelled point
  pub elsewhere : HasNoCopies point → ⊥

-- ---- a disk

-- an image is a journal whose checkpoint and records have P
pub record IsJournalWith (c : Image) (P : List ℕ → List (List ℕ) → Type 0) : Type 0 where
  pub area : Area
  pub epoch : ℕ
  pub checkpoint : List ℕ
  pub payloads : List (List ℕ)
  pub journal : IsJournal c area epoch checkpoint payloads
  pub has : P checkpoint payloads

-- why a store isn't opened
abbrev pub IsUnopened : View → View → OpenRefusal → Type 0
IsUnopened old new DiskFailed = Rose old.faults new.faults
IsUnopened old new NotMade = old.tells ≡ true → old.reads Archive 0 ≡ 0
IsUnopened old new AlreadyMade = ⊥
IsUnopened old new (NotAJournal nine) = old.tells ≡ true → IsRefused old.reads (of_journal.NotAJournal nine)
IsUnopened old new (BadVersion version) = old.tells ≡ true → IsRefused old.reads (of_journal.BadVersion version)
IsUnopened old new (BadRecord place) = old.tells ≡ true → ((place ≢ 21) × IsRefused old.reads (of_journal.BadLength place)) ⊎ IsJournalWith old.reads (λ checkpoint payloads. IsBadAt checkpoint payloads place)
IsUnopened old new BadCheckpoint = old.tells ≡ true → IsRefused old.reads (of_journal.BadLength 21) ⊎ IsJournalWith old.reads (λ checkpoint payloads. IsNoCheckpoint checkpoint)
IsUnopened old new NotBuilt = old.tells ≡ true → IsJournalWith old.reads (λ checkpoint payloads. IsOtherCheckpoint checkpoint ⊎ IsUnbuiltBehind checkpoint payloads)
IsUnopened old new Memory = Unit {0}

-- an honest disk that tells stands for a machine
abbrev pub IsPromising : View → Type 0
IsPromising v = v.tells ≡ true → v.honest ≡ true → (m : Machine) × Stands v.reads m
