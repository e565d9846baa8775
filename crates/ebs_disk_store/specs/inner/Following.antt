-- Beside what is promised: records that are followed.
use Rattle.std.specs.Prelude.{◌≡◌, ◌^◌, ◌⊎◌, ℕ, ◌+◌, Some, ◌<◌, Bool, true, false, Result, Ok, Err, Option, None, [], ◌∷◌, List, ◌++◌, length}
use Rattle.std.specs.FinMap as fin
use Rattle.ebs_world.specs.declared.area.Area.TheVariants.{Blocks}
use Rattle.ebs_model.specs.declared.keys.Moment.{Moment}
use Rattle.ebs_model.specs.declared.request.Request.{Request}
use Rattle.ebs_model.specs.declared.answer.Answer.{Answer}
use Rattle.ebs_model.specs.declared.answer.Failure.{Failure}
use Rattle.ebs_model.specs.declared.answer.Failure.TheVariants as failure
use Rattle.ebs_model.specs.Machine.{Machine, advance}
use Rattle.ebs_model.specs.Kept.{same}
use Rattle.ebs_model.specs.Step.{act}
use Rattle.ebs_records.specs.declared.record.Record.{Record}
use Rattle.ebs_records.specs.declared.record.AcceptedCall.{AcceptedCall}
use Rattle.ebs_records.specs.Records.{IsRecord, record_bytes}
use Rattle.ebs_recovery.specs.Made.{SlotOfStamp, State, if_changed, stated, Made, made, followed}
use Rattle.ebs_recovery.specs.Replays.{IsBad, Replays}
use Rattle.ebs_disk_store.specs.declared.following.Unfollowed.{Unfollowed}
use Rattle.ebs_disk_store.specs.declared.following.Unfollowed.TheVariants as why
use Rattle.ebs_disk_store.specs.declared.following.Brought.{Brought}
use Rattle.ebs_disk_store.specs.declared.following.Stopped.{Stopped}
use Rattle.ebs_disk_store.specs.Opened.{is_unbuilt, IsUnbuilt, AreBuilt}
use Rattle.ebs_disk_store.specs.inner.Shown.{AreGiven, AreSlotted, AreIndexed, HasLaws}
use Rattle.ebs_kept.specs.inner.Requests.{write_at}
use Rattle.ebs_recovery.specs.inner.Fits.{AgreeOn}
use Rattle.ebs_slots.specs.inner.Slots.{SlotTable}

-- what holds of the kept form and its slots while records are followed: none is under lease
pub record IsKeptState (m : Machine) (slots : SlotTable) : Type 0 where
  pub area : slots.area ≡ Blocks
  pub given : AreGiven slots.keys m.stamps
  pub slotted : AreSlotted slots.keys m
  pub indexed : AreIndexed m
  pub laws : HasLaws m
  pub leases : slots.leases ≡ fin.empty

-- the number behind a slot that was given, or zero where none was
abbrev pub IsBehind : SlotOfStamp → ℕ → Type 0
IsBehind given top = (top ≡ 0) ⊎ ((stamp : ℕ) × (slot : ℕ) × (fin.get given stamp ≡ Some slot) × (top ≡ slot + 1))

-- they are those of this state; a stamp without a block may have lost its slot
pub record IsOf (m : Machine) (slots : SlotTable) (k : State) : Type 0 where
  pub machine : m ≡ k.machine
  pub keys : AgreeOn k.machine slots.keys k.slots
  pub given : AreGiven k.slots k.machine.stamps
  pub below : (stamp slot : ℕ) → fin.get k.slots stamp ≡ Some slot → slot < slots.top
  pub behind : IsBehind k.slots slots.top

-- ---- one call

-- one change more, or why not
abbrev pub judged : Bool → Result Answer Failure → Result (Unit {0}) Unfollowed
judged true (Ok answer) = Err why.Bad
judged false (Ok answer) = Ok tt
judged stays (Err (failure.Refused refusal)) = Err why.Bad
judged stays (Err failure.Memory) = Err why.Memory

-- what the kept form makes of a request at the moment
abbrev pub Makes : Machine → Machine → Moment → ℕ → Request → Result (Unit {0}) Unfollowed → Type 0
Makes old new at account request (Ok done) = (answer : Answer) × (act same (advance old at) account request ≡ Ok (new, answer)) × (new.changes ≡ old.changes + 1)
Makes old new at account request (Err why.Bad) = (s : State) (slot : Option ℕ) → s.machine ≡ old → if_changed s slot (act same (advance old at) account request) ≡ None
Makes old new at account request (Err why.NotBuilt) = ⊥
Makes old new at account request (Err why.Memory) = Unit {0}

-- a call brings this block
pub record IsBrought (a : AcceptedCall) (b : Brought) : Type 0 where
  pub request : stated a.request ≡ write_at b.place b.index b.digest b.digest
  pub slot : a.slot ≡ Some b.slot
  pub few : b.index < 2 ^ 25
  pub small : b.slot < 2 ^ 43

-- ---- one record

-- the state after the change, or why there is none
abbrev pub Follows : Machine → SlotTable → Machine → SlotTable → Made → Result (Unit {0}) Unfollowed → Type 0
Follows m slots n after e (Ok done) = IsKeptState n after × ((k : State) → IsOf m slots k → (t : State) × (made same k e ≡ Some t) × IsOf n after t)
Follows m slots n after e (Err why.Bad) = (k : State) → IsOf m slots k → made same k e ≡ None
Follows m slots n after e (Err why.NotBuilt) = ⊥
Follows m slots n after e (Err why.Memory) = Unit {0}

-- the state after the record, or why there is none
abbrev pub FollowsRecord : Machine → SlotTable → Machine → SlotTable → Record → Result (Unit {0}) Unfollowed → Type 0
FollowsRecord m slots n after r (Ok done) = (is_unbuilt r ≡ false) × (IsKeptState n after × ((k : State) → IsOf m slots k → (t : State) × (followed k (r ∷ []) ≡ Some t) × IsOf n after t))
FollowsRecord m slots n after r (Err why.Bad) = (is_unbuilt r ≡ false) × ((k : State) → IsOf m slots k → followed k (r ∷ []) ≡ None)
FollowsRecord m slots n after r (Err why.NotBuilt) = is_unbuilt r ≡ true
FollowsRecord m slots n after r (Err why.Memory) = Unit {0}

-- ---- one payload

-- it spells a record that leads from one state to the other
pub record IsStep (k : State) (payload : List ℕ) (t : State) : Type 0 where
  pub made : Record
  pub value : IsRecord made
  pub is : payload ≡ record_bytes made
  pub gives : followed k (made ∷ []) ≡ Some t

abbrev pub FollowsPayload : Machine → SlotTable → Machine → SlotTable → List ℕ → Result (Unit {0}) Unfollowed → Type 0
FollowsPayload m slots n after payload (Ok done) = (IsUnbuilt payload → ⊥) × (IsKeptState n after × ((k : State) → IsOf m slots k → (t : State) × IsStep k payload t × IsOf n after t))
FollowsPayload m slots n after payload (Err why.Bad) = (IsUnbuilt payload → ⊥) × ((k : State) → IsOf m slots k → IsBad k payload)
FollowsPayload m slots n after payload (Err why.NotBuilt) = IsUnbuilt payload
FollowsPayload m slots n after payload (Err why.Memory) = Unit {0}

-- ---- all payloads

-- why the payload isn't followed from this state on
abbrev pub IsWhy : State → List ℕ → Unfollowed → Type 0
IsWhy k payload why.Bad = (IsUnbuilt payload → ⊥) × IsBad k payload
IsWhy k payload why.NotBuilt = IsUnbuilt payload
IsWhy k payload why.Memory = Unit {0}

-- the first that isn't followed is behind these
pub record IsStopped (k : State) (payloads : List (List ℕ)) (stopped : Stopped) : Type 0 where
  pub before : List (List ℕ)
  pub payload : List ℕ
  pub rest : List (List ℕ)
  pub is : payloads ≡ before ++ payload ∷ rest
  pub behind : stopped.behind ≡ length before
  pub built : AreBuilt before
  pub between : State
  pub replays : Replays k before between
  pub why : IsWhy between payload stopped.why

-- these payloads lead from one state of the kept form to another
abbrev pub Leads : Machine → SlotTable → Machine → SlotTable → List (List ℕ) → Type 0
Leads m slots n after payloads = AreBuilt payloads × (IsKeptState n after × ((k : State) → IsOf m slots k → (t : State) × Replays k payloads t × IsOf n after t))

abbrev pub FollowsAll : Machine → SlotTable → Machine → SlotTable → List (List ℕ) → Result (Unit {0}) Stopped → Type 0
FollowsAll m slots n after payloads (Ok done) = Leads m slots n after payloads
FollowsAll m slots n after payloads (Err stopped) = (k : State) → IsOf m slots k → IsStopped k payloads stopped
