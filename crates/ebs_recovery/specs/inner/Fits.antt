-- A store with its disk.
use Rattle.std.specs.Prelude.{Option, ℕ, List, None, ◌≡◌, ◌<◌, Some, ◌≤◌, true, ◌+◌, ◌*◌, ◌⊎◌}
use Rattle.std.specs.FinMap as fin
use Rattle.sha2.specs.Sha256.{sha256}
use Rattle.ebs_model.specs.Arrays.{WholeBlock}
use Rattle.ebs_world.specs.declared.area.Area.TheVariants.{Blocks}
use Rattle.ebs_world.specs.Image.{Image, Places, Images}
use Rattle.ebs_world.specs.View.{View}
use Rattle.ebs_slots.specs.Slots.{IsBlock}
use Rattle.ebs_model.specs.declared.keys.Moment.{Moment}
use Rattle.ebs_model.specs.declared.request.Request.{Request}
use Rattle.ebs_model.specs.declared.request.Request.TheVariants.{PutSnapshotBlock, WriteVolumeBlock}
use Rattle.ebs_model.specs.Machine.{Machine, advance, empty_machine}
use Rattle.ebs_records.specs.declared.record.Record.{Record}
use Rattle.ebs_records.specs.Records.{record_bytes}
use Rattle.ebs_recovery.specs.Made.{SlotOfStamp, State, Made, IsHistory, record_of, IsValue, spelled, made, called, advanced, HasWholeBlock}
use Rattle.ebs_recovery.specs.Stands.{EachEntry, HasBlock, Stands}
use Rattle.ebs_recovery.specs.Bases.{Begins}
use Rattle.ebs_journal.specs.inner.Line.{Line}
use Rattle.ebs_journal.specs.inner.Standing.{IsPending, IsSettled, IsTurning, OnJournal}
use Rattle.ebs_model.specs.inner.Kept.{digested}
use Rattle.ebs_recovery.specs.inner.Made.{Leads}
use Rattle.ebs_recovery.specs.inner.Stands.{EachBlock, refilled}
use Rattle.ebs_slots.specs.inner.Slots.{SlotTable, no_slots, IsApart}
use Rattle.ebs_slots.specs.inner.Standing.{Lies}

-- what is seen of a store
pub record Seen : Type 0 where
  -- the kept form of the machine that its records give
  pub recorded : Machine
  -- the clock of the machine that answers calls
  pub clock : Moment
  pub slots : SlotTable
  -- the blocks that wait to be looked at
  pub waiting : ℕ
  pub journal : Line
  -- the record of the change of which it isn't known whether the journal has it
  pub pending : Option Record

-- the machine that a store's records give, whose blocks have the bytes that a read of their places gives
abbrev pub recorded : View → Seen → Machine
recorded v s = refilled v.reads s.slots.keys s.recorded

-- the machine that answers calls
abbrev pub running : View → Seen → Machine
running v s = advance (recorded v s) s.clock

-- a store that has no record yet
abbrev pub new_store : List ℕ → Line → Seen
new_store secret journal = record { recorded = empty_machine secret; clock = record { second = 0 }; slots = no_slots Blocks; waiting = 0; journal = journal; pending = None }

-- each stamp with a slot was given, and each slot was handed out
abbrev pub AreNamed : SlotOfStamp → ℕ → ℕ → Type 0
AreNamed slots stamps top = (stamp slot : ℕ) → fin.get slots stamp ≡ Some slot → (stamp < stamps) × (slot < top)

-- each image has each block
abbrev pub EachStands : View → State → Type 0
EachStands v state = (c : Image) → v.may_leave c → EachEntry (HasBlock c state.slots) state.machine

-- a block with this digest stands in the slot
pub record IsLeased (v : View) (slot : ℕ) (digest : List ℕ) : Type 0 where
  pub bytes : List ℕ
  pub is : digest ≡ sha256 bytes
  pub lies : Lies v Blocks slot bytes

-- for each block of the machine both have the same slot
abbrev pub AgreeOn : Machine → SlotOfStamp → SlotOfStamp → Type 0
AgreeOn m keys slots = EachBlock (λ block. fin.get keys block.stamp ≡ fin.get slots block.stamp) m

-- what is kept in memory is what this history gives, and each image has all the blocks
pub record IsRight (v : View) (s : Seen) (base : State) (changes : List Made) (state : State) : Type 0 where
  pub history : IsHistory base changes state
  pub kept : s.recorded ≡ digested state.machine
  pub keys : AgreeOn state.machine s.slots.keys state.slots
  pub area : s.slots.area ≡ Blocks
  pub apart : IsApart s.slots
  pub early : state.machine.clock.second ≤ s.clock.second
  pub named : AreNamed state.slots state.machine.stamps s.slots.top
  pub stand : EachStands v state
  pub leased : (slot : ℕ) (digest : List ℕ) → fin.get s.slots.leases slot ≡ Some digest → IsLeased v slot digest

-- the gate of the change's record isn't known
pub record IsGateOfRecord (v : View) (j : Line) (checkpoint : List ℕ) (changes : List Made) (state : State) (e : Made) (next : State) : Type 0 where
  pub gate : IsPending v j checkpoint (spelled changes) (record_bytes (record_of e))
  pub gives : made sha256 state e ≡ Some next

-- the change is time that has passed, and the gate of the other area isn't known, whose checkpoint is that of the machine then
pub record IsGateOfPoint (v : View) (j : Line) (checkpoint : List ℕ) (changes : List Made) (state : State) (e : Made) (next : State) : Type 0 where
  pub at : Moment
  pub is : e ≡ advanced at
  pub machine : next.machine ≡ advance state.machine at
  pub point : List ℕ
  pub begins : Begins point next
  pub gate : IsTurning v j checkpoint (spelled changes) point

-- one of the two
abbrev pub IsGate : View → Line → List ℕ → List Made → State → Made → State → Type 0
IsGate v j checkpoint changes state e next = IsGateOfRecord v j checkpoint changes state e next ⊎ IsGateOfPoint v j checkpoint changes state e next

-- one change more, of which it isn't known whether the journal has it
pub record IsUnsure (v : View) (s : Seen) (checkpoint : List ℕ) (changes : List Made) (state : State) (r : Record) : Type 0 where
  pub change : Made
  pub is : r ≡ record_of change
  pub value : IsValue change
  pub next : State
  pub gate : IsGate v s.journal checkpoint changes state change next
  pub named : AreNamed next.slots next.machine.stamps s.slots.top
  pub stand : EachStands v next

-- each image's journal has this history, or that and the pending change
abbrev pub InJournal : View → Seen → List ℕ → List Made → State → Option Record → Type 0
InJournal v s checkpoint changes state None = IsSettled v s.journal checkpoint (spelled changes)
InJournal v s checkpoint changes state (Some r) = IsUnsure v s checkpoint changes state r

pub record Fit (v : View) (s : Seen) : Type 0 where
  pub checkpoint : List ℕ
  pub base : State
  pub begins : Begins checkpoint base
  pub changes : List Made
  pub state : State
  pub right : IsRight v s base changes state
  pub journal : InJournal v s checkpoint changes state s.pending

-- where a store is sound, and its disk is honest and tells what a read gives, they fit
abbrev pub Fits : Type 0 → View → Seen → Type 0
Fits sound v s = sound → v.tells ≡ true → v.honest ≡ true → Fit v s

-- a read of the slot of a block of the kept form gives a block with its digest
pub record StandsRead (v : View) (s : Seen) (kept : WholeBlock) : Type 0 where
  pub slot : ℕ
  pub found : fin.get s.slots.keys kept.stamp ≡ Some slot
  pub bytes : List ℕ
  pub digest : kept.bytes ≡ sha256 bytes
  pub stands : IsBlock v.reads Blocks slot bytes

-- a call isn't before the clock, and is one change more
abbrev pub IsOneMore : Machine → Made → Machine → Type 0
IsOneMore m (called a) next = (m.clock.second ≤ a.at.second) × (next.changes ≡ m.changes + 1)
IsOneMore m (advanced at) next = Unit {0}

-- an image stands for a machine after a change
pub record StandsAfter (m : Machine) (e : Made) (c : Image) : Type 0 where
  pub next : Machine
  pub leads : Leads m e next
  pub more : IsOneMore m e next
  pub stands : Stands c next

-- an image stands for what is recorded, or for that after the pending change, whose block is a whole one
pub data StandsForOne (v : View) (s : Seen) (c : Image) : Type 0 where
  for_recorded : Stands c (Rattle.ebs_recovery.specs.inner.Fits.recorded v s) → StandsForOne v s c
  with_pending : (e : Made) → s.pending ≡ Some (record_of e) → HasWholeBlock e → StandsAfter (Rattle.ebs_recovery.specs.inner.Fits.recorded v s) e c → StandsForOne v s c

-- ---- one change more

-- the slots that were handed out
abbrev pub IsHeldSlot : ℕ → Places
IsHeldSlot top a i = (a ≡ Blocks) × (i < 524288 * top)

-- these, and all that is a journal's
abbrev pub IsHeld : ℕ → Places
IsHeld top a i = OnJournal a i ⊎ IsHeldSlot top a i

-- a block that is written stands in its slot, which was handed out
abbrev pub IsStagedFor : View → ℕ → Request → Option ℕ → Type 0
IsStagedFor v top (PutSnapshotBlock key index digest bytes) (Some slot) = Lies v Blocks slot bytes × (slot < top)
IsStagedFor v top (WriteVolumeBlock key index digest bytes) (Some slot) = Lies v Blocks slot bytes × (slot < top)
IsStagedFor v top request slot = Unit {0}

abbrev pub IsStagedChange : View → ℕ → Made → Type 0
IsStagedChange v top (called a) = IsStagedFor v top a.request a.slot
IsStagedChange v top (advanced at) = Unit {0}

-- a change of what is recorded, whose block was staged
pub record IsReady (v : View) (s : Seen) (fit : Fit v s) (e : Made) (next : State) : Type 0 where
  pub value : IsValue e
  pub staged : IsStagedChange v s.slots.top e
  pub gives : made sha256 fit.state e ≡ Some next

-- what a store keeps of its machine and slots
abbrev pub kept_state : Seen → State
kept_state s = record { machine = s.recorded; slots = s.slots.keys }

-- a change that the store finds to be one, by the kept form
pub record IsFound (v : View) (s : Seen) (fit : Fit v s) (e : Made) (k : State) : Type 0 where
  pub next : State
  pub ready : IsReady v s fit e next
  pub machine : k.machine ≡ digested next.machine
  pub keys : AgreeOn next.machine k.slots next.slots

-- an image stands for one of the machines before a change, or for that after it
abbrev pub StandsOrAfter : View → Seen → Made → Images
StandsOrAfter v s e c = StandsForOne v s c ⊎ StandsAfter (recorded v s) e c

-- what a store keeps of its slots and of its clock
pub record KeepsSlots (s t : Seen) : Type 0 where
  pub area : t.slots.area ≡ s.slots.area
  pub top : t.slots.top ≡ s.slots.top
  pub apart : IsApart t.slots
  pub leases : (slot : ℕ) (digest : List ℕ) → fin.get t.slots.leases slot ≡ Some digest → fin.get s.slots.leases slot ≡ Some digest

-- nothing that is recorded has changed; a lease may have been spent, and the clock may have moved
pub record IsStill (s t : Seen) : Type 0 where
  pub recorded : t.recorded ≡ s.recorded
  pub keys : t.slots.keys ≡ s.slots.keys
  pub slots : KeepsSlots s t
  pub clock : s.clock.second ≤ t.clock.second

-- the store has taken a change that gives this state
pub record Took (s : Seen) (next : State) (t : Seen) : Type 0 where
  pub recorded : t.recorded ≡ digested next.machine
  pub keys : AgreeOn next.machine t.slots.keys next.slots
  pub slots : KeepsSlots s t
  pub clock : next.machine.clock.second ≤ t.clock.second
