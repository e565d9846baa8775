-- Beside what is promised: what an opening gives, and why a store isn't opened.
use Rattle.std.specs.Prelude.{None, ◌≡◌, ℕ, ◌≤◌, ◌^◌, List, ◌⊎◌, ◌+◌, length, IsSome}
use Rattle.std.specs.FinMap as fin
use Rattle.ebs_world.specs.Image.{Image}
use Rattle.ebs_world.specs.View.{View}
use Rattle.ebs_journal.specs.Format.{entries}
use Rattle.ebs_journal.specs.Opening.{IsJournal}
use Rattle.ebs_model.specs.Machine.{Machine}
use Rattle.ebs_recovery.specs.Made.{State}
use Rattle.ebs_recovery.specs.Stands.{Stands}
use Rattle.ebs_recovery.specs.Replays.{Replays}
use Rattle.ebs_disk_store.specs.declared.following.Unfollowed.{Unfollowed}
use Rattle.ebs_disk_store.specs.declared.following.Unfollowed.TheVariants as why
use Rattle.ebs_disk_store.specs.declared.refusal.OpenRefusal.{OpenRefusal}
use Rattle.ebs_disk_store.specs.declared.refusal.OpenRefusal.TheVariants.{DiskFailed, NotMade, AlreadyMade, NotAJournal, BadVersion, BadRecord, BadCheckpoint, NotBuilt, Memory}
use Rattle.ebs_disk_store.specs.Opened.{AreBuilt, Starts, IsBadAt, IsNoCheckpoint, IsOtherCheckpoint, IsUnbuiltBehind, KeepsShared}
use Rattle.ebs_disk_store.specs.Collected.{IsShared}
use Rattle.ebs_disk_store.specs.inner.Following.{IsKeptState, IsOf, IsBehind}
use Rattle.ebs_journal.specs.inner.Line.{Line}
use Rattle.ebs_recovery.specs.inner.Fits.{Seen, recorded, Fit, running}
use Rattle.ebs_recovery.specs.inner.Replays.{IsOpened}
use Rattle.ebs_slots.specs.inner.Slots.{SlotTable, IsApart}

-- the store that these parts make, whose clock is that of its records, and where so many blocks wait
abbrev pub opened_store : Machine → SlotTable → Line → ℕ → Seen
opened_store m slots journal waiting = record { recorded = m; clock = m.clock; slots = slots; waiting = waiting; journal = journal; pending = None }

-- ---- a checkpoint and the records behind it

-- the kept form and the slots that a checkpoint says
pub record Begun (checkpoint : List ℕ) (m : Machine) (slots : SlotTable) : Type 0 where
  pub base : State
  pub starts : Starts checkpoint base
  pub of : IsOf m slots base
  pub kept : IsKeptState m slots

-- the kept form and the slots that they give
pub record Gives (checkpoint : List ℕ) (payloads : List (List ℕ)) (m : Machine) (slots : SlotTable) : Type 0 where
  pub base : State
  pub starts : Starts checkpoint base
  pub built : AreBuilt payloads
  pub state : State
  pub replays : Replays base payloads state
  pub of : IsOf m slots state
  pub kept : IsKeptState m slots
  pub apart : IsApart slots
  -- each stamp with a slot is that of a block
  pub shared : (stamp : ℕ) → IsSome (fin.get slots.keys stamp) → IsShared m stamp
  pub early : m.clock.second ≤ 2 ^ 36
  pub few : m.changes ≤ 2 ^ 40

-- why they aren't followed
abbrev pub IsUnread : List ℕ → List (List ℕ) → OpenRefusal → Type 0
IsUnread checkpoint payloads DiskFailed = ⊥
IsUnread checkpoint payloads NotMade = ⊥
IsUnread checkpoint payloads AlreadyMade = ⊥
IsUnread checkpoint payloads (NotAJournal nine) = ⊥
IsUnread checkpoint payloads (BadVersion version) = ⊥
IsUnread checkpoint payloads (BadRecord place) = IsBadAt checkpoint payloads place
IsUnread checkpoint payloads BadCheckpoint = IsNoCheckpoint checkpoint
IsUnread checkpoint payloads NotBuilt = IsOtherCheckpoint checkpoint ⊎ IsUnbuiltBehind checkpoint payloads
IsUnread checkpoint payloads Memory = Unit {0}

abbrev pub refusal_for : Unfollowed → ℕ → OpenRefusal
refusal_for why.Bad place = BadRecord place
refusal_for why.NotBuilt place = NotBuilt
refusal_for why.Memory place = Memory

-- ---- a disk

-- the store is what the image's journal gives: its records are those of a state, from that of its checkpoint on, whose machine and clock it keeps, and of whose slots those that blocks have; nothing waits, and it goes on behind the last
pub record IsRead (c : Image) (s : Seen) : Type 0 where
  pub checkpoint : List ℕ
  pub base : State
  pub starts : Starts checkpoint base
  pub payloads : List (List ℕ)
  pub journal : IsJournal c s.journal.area s.journal.epoch checkpoint payloads
  pub built : AreBuilt payloads
  pub state : State
  pub replays : Replays base payloads state
  pub opened : IsOpened s state
  pub held : KeepsShared s.recorded state.slots s.slots.keys
  pub waiting : s.waiting ≡ 0
  pub behind : IsBehind state.slots s.slots.top
  pub clock : s.clock ≡ s.recorded.clock
  pub end : s.journal.end ≡ 30 + length checkpoint + length (entries payloads)

-- the store fits, and its machine is the one that the disk stood for, also the one that answers calls
abbrev pub OpensAs : View → View → Seen → Machine → Type 0
OpensAs old new s m = Stands old.reads m → Fit new s × (recorded new s ≡ m) × (running new s ≡ m)

-- why a store isn't opened on an image that stands for a machine
abbrev pub MayRefuse : OpenRefusal → Type 0
MayRefuse DiskFailed = Unit {0}
MayRefuse NotMade = Unit {0}
MayRefuse AlreadyMade = ⊥
MayRefuse (NotAJournal nine) = ⊥
MayRefuse (BadVersion version) = ⊥
MayRefuse (BadRecord place) = ⊥
MayRefuse BadCheckpoint = ⊥
MayRefuse NotBuilt = ⊥
MayRefuse Memory = Unit {0}
