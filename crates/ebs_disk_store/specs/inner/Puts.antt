-- What a put of a staged block tells.
use Rattle.std.specs.Prelude.{ℕ, List, codes, Option, None, Result, Some, ◌≡◌, ◌⊎◌, [], ◌+◌, Ok, false, Err, true}
use Rattle.std.specs.FinMap as fin
use Rattle.ebs_model.specs.declared.keys.Moment.{Moment}
use Rattle.ebs_model.specs.declared.rows.VolRow.{VolRow}
use Rattle.ebs_model.specs.declared.request.Request.{Request}
use Rattle.ebs_model.specs.declared.request.Request.TheVariants.{PutSnapshotBlock, WriteVolumeBlock}
use Rattle.ebs_model.specs.declared.answer.Answer.{Answer}
use Rattle.ebs_model.specs.declared.answer.Answer.TheVariants as answers
use Rattle.ebs_model.specs.declared.answer.Refusal.{Refusal}
use Rattle.ebs_model.specs.declared.answer.Refusal.TheVariants as refusals
use Rattle.ebs_model.specs.declared.answer.Failure.{Failure}
use Rattle.ebs_model.specs.declared.answer.Failure.TheVariants as failure
use Rattle.ebs_model.specs.declared.change.Change.{Change}
use Rattle.ebs_model.specs.declared.change.Decision.TheVariants as decision
use Rattle.ebs_model.specs.Limits.{has_ten_digits, unless, is_size}
use Rattle.ebs_model.specs.Refuse.{◌>>◌, refuse_bad}
use Rattle.ebs_model.specs.Kept.{same}
use Rattle.ebs_model.specs.Machine.{Machine, advance, rows_of, is_spent}
use Rattle.ebs_model.specs.Decide.{decide}
use Rattle.ebs_model.specs.Step.{refuse_digest, act, changed}
use Rattle.ebs_catalog.specs.Held.{IsDecided}
use Rattle.ebs_records.specs.declared.record.AcceptedCall.{AcceptedCall}
use Rattle.ebs_records.specs.declared.record.Record.TheVariants.{Accepted}
use Rattle.ebs_disk_store.specs.declared.heads.PutHead.{PutHead}
use Rattle.ebs_disk_store.specs.declared.heads.PutHead.TheVariants as head
use Rattle.ebs_disk_store.specs.declared.ruling.Ruling.{Ruling}
use Rattle.ebs_disk_store.specs.declared.ruling.Ruling.TheVariants as ruling
use Rattle.ebs_disk_store.specs.inner.Shown.{AreSlotted}
use Rattle.ebs_disk_store.specs.inner.Told.{mended, unsure, without_lease, at_clock, with_lease}
use Rattle.ebs_disk_store.specs.inner.Turned.{IsSpared}
use Rattle.ebs_kept.specs.inner.Requests.{Brings}
use Rattle.ebs_kept.specs.inner.Shown.{AreGoodRows}
use Rattle.ebs_records.specs.Fields.{IsKey, IsVolume}
use Rattle.ebs_recovery.specs.inner.Fits.{Seen}
use Rattle.ebs_holds.specs.Counted.{without_stamp}
use Rattle.ebs_slots.specs.inner.Slots.{IsNext, SlotTable, adopted, staged}

-- the request of a put with these bytes
abbrev pub with_bytes : PutHead → List ℕ → Request
with_bytes (head.Snapshot key index digest) bytes = PutSnapshotBlock key index digest bytes
with_bytes (head.Volume key index digest) bytes = WriteVolumeBlock key index digest bytes

abbrev pub index_of : PutHead → ℕ
index_of (head.Snapshot key index digest) = index
index_of (head.Volume key index digest) = index

-- the digest that is stated
abbrev pub stated_in : PutHead → List ℕ
stated_in (head.Snapshot key index digest) = digest
stated_in (head.Volume key index digest) = digest

-- a block that is whole leaves its index to be out of its limits
abbrev pub bad_index : ℕ → Option (List ℕ)
bad_index index = unless (has_ten_digits index) (codes "blockIndex") None

-- the tests on a put by itself: its index, then its digest
abbrev pub refuse_head : PutHead → List ℕ → Result (Unit {0}) Refusal
refuse_head put digest = refuse_bad (bad_index (index_of put)) >> refuse_digest same (with_bytes put digest)

-- what a put of a block with this digest does to the kept form
abbrev pub kept_put : Machine → ℕ → PutHead → List ℕ → Result (Machine × Answer) Refusal
kept_put m account put digest = refuse_bad (bad_index (index_of put)) >> act same m account (with_bytes put digest)

-- the change that a put is, of a block with these bytes in the slot
abbrev pub put_at : ℕ → Moment → PutHead → ℕ → List ℕ → AcceptedCall
put_at account now put slot bytes = record { at = now; account = account; request = with_bytes put bytes; slot = Some slot }

-- one entry of a stamp was given up, or none, and each block of the machine still has a slot
pub record GivesUp (m : Machine) (old new : SlotTable) : Type 0 where
  pub gone : Option ℕ
  pub is : new ≡ without_stamp old gone
  pub slotted : AreSlotted new.keys m

-- the put was taken: the lease is the slot of the next stamp, and the entry of the block that it replaced is given up, if there was one
pub record IsPutTaken (s : Seen) (now : Moment) (slot : ℕ) (next : Machine) (t : Seen) : Type 0 where
  pub recorded : t.recorded ≡ next
  pub clock : t.clock ≡ now
  pub slots : GivesUp next (adopted s.slots slot s.recorded.stamps) t.slots
  pub pending : t.pending ≡ None

-- the lease is given up, and nothing that is recorded has changed: what is pending is as it was, nothing, or this put
abbrev pub IsPutLeft : Seen → Seen → ℕ → Moment → PutHead → ℕ → Type 0
IsPutLeft s t account now put slot = (t ≡ without_lease s slot) ⊎ ((t ≡ mended (without_lease s slot)) ⊎ (t ≡ unsure (mended (without_lease s slot)) (Accepted (put_at account now put slot []))))

-- the kept form makes the put, as one change more
pub record WouldPut (s : Seen) (account : ℕ) (now : Moment) (put : PutHead) (digest : List ℕ) : Type 0 where
  pub next : Machine
  pub answer : Answer
  pub accepts : kept_put (advance s.recorded now) account put digest ≡ Ok (next, answer)
  pub more : next.changes ≡ s.recorded.changes + 1

-- a put that the machine, which stands at its moment, makes, with its answer
pub record IsPutRuled (m : Machine) (account : ℕ) (put : PutHead) (digest : List ℕ) (change : Change) (answer : Answer) : Type 0 where
  pub at : change.at ≡ m.clock
  pub decided : IsDecided (rows_of m) change
  pub brings : Brings change.request digest digest
  pub unspent : is_spent m ≡ false
  pub gives : decide (rows_of m) m.clock account (with_bytes put []) ≡ Ok (decision.Change change answer)
  pub limits : refuse_bad (bad_index (index_of put)) ≡ Ok tt
  pub acts : act same m account (with_bytes put digest) ≡ Ok (changed m digest change, answer)

-- what the machine does for the put
abbrev pub PutRules : Machine → ℕ → PutHead → List ℕ → Result Ruling Failure → Type 0
PutRules m account put digest (Ok (ruling.Change change answer)) = IsPutRuled m account put digest change answer
PutRules m account put digest (Ok (ruling.Answer answer)) = ⊥
PutRules m account put digest (Err (failure.Refused refusal)) = kept_put m account put digest ≡ Err refusal
PutRules m account put digest (Err failure.Memory) = Unit {0}

-- its key has its widths, and where it goes is at most as large as an image can be
abbrev pub IsBounded : Machine → PutHead → Type 0
IsBounded m (head.Snapshot key index digest) = IsKey key × AreGoodRows m.snaps
IsBounded m (head.Volume key index digest) = IsVolume key × ((row : VolRow) → fin.get m.vols key ≡ Some row → is_size row.size ≡ true)

-- what a put tells at its moment, of a lease with this slot and digest, whatever its disk. It is a change, which is durable, and what it replaced is given up; or it is
-- refused, and moves the clock alone, with no call of the disk; or it would be a change, and is E17, where the disk's count of faults rose; or
-- it is want of memory, which leaves nothing of the put. Where it is no change the lease is given up
pub data PutTold (Still Rose : Type 0) (s t : Seen) (account : ℕ) (now : Moment) (put : PutHead) (slot : ℕ) (digest : List ℕ) : Answer → Type 0 where
  made_change : (answer : Answer) → kept_put (advance s.recorded now) account put digest ≡ Ok (t.recorded, answer) → t.recorded.changes ≡ s.recorded.changes + 1
      → t.clock ≡ now → t.recorded.clock ≡ now → GivesUp t.recorded (adopted s.slots slot s.recorded.stamps) t.slots → t.pending ≡ None → PutTold Still Rose s t account now put slot digest answer
  refused : (refusal : Refusal) → kept_put (advance s.recorded now) account put digest ≡ Err refusal → t ≡ at_clock (without_lease s slot) now → Still
      → PutTold Still Rose s t account now put slot digest (answers.Refused refusal)
  unavailable : Rose → WouldPut s account now put digest → IsPutLeft s t account now put slot → PutTold Still Rose s t account now put slot digest (answers.Refused refusals.Unavailable)
  memory : IsSpared (without_lease s slot) t → PutTold Still Rose s t account now put slot digest answers.Memory

-- ---- a block that is staged and put in one call

-- the store with the block staged in the slot
abbrev pub staged_in : Seen → ℕ → List ℕ → Seen
staged_in s slot digest = with_lease (mended s) slot digest

-- the block was staged in a slot that was free, and its lease is given up
abbrev pub IsReturned : Seen → Seen → List ℕ → Type 0
IsReturned s t digest = (slot : ℕ) × IsNext s.slots slot × (t ≡ without_lease (staged_in s slot digest) slot)

-- nothing is recorded or pending that wasn't: the block wasn't staged, or its lease is given up
abbrev pub IsWholeSpared : Seen → Seen → List ℕ → Type 0
IsWholeSpared s t digest = (t ≡ s) ⊎ ((t ≡ mended s) ⊎ IsReturned s t digest)

-- what the put of a whole block tells at its moment. A block with another index or digest is refused before it is staged, with no call of the
-- disk. One that passes that test may be E17, for it couldn't be staged, whatever rows say of it; once it is staged, only where it would be a
-- change. It is staged in a slot that nothing has, one below the top where there is one
pub data WholePutTold (Still Rose : Type 0) (s t : Seen) (account : ℕ) (now : Moment) (put : PutHead) (digest : List ℕ) : Answer → Type 0 where
  put_made : (answer : Answer) → kept_put (advance s.recorded now) account put digest ≡ Ok (t.recorded, answer) → t.recorded.changes ≡ s.recorded.changes + 1
      → t.clock ≡ now → t.recorded.clock ≡ now → (slot : ℕ) → IsNext s.slots slot → GivesUp t.recorded (adopted (staged s.slots slot digest) slot s.recorded.stamps) t.slots → t.pending ≡ None
      → WholePutTold Still Rose s t account now put digest answer
  put_refused : (refusal : Refusal) → kept_put (advance s.recorded now) account put digest ≡ Err refusal
      → ((t ≡ at_clock s now) × Still) ⊎ ((refuse_head put digest ≡ Ok tt) × ((slot : ℕ) × IsNext s.slots slot × (t ≡ at_clock (without_lease (staged_in s slot digest) slot) now)))
      → WholePutTold Still Rose s t account now put digest (answers.Refused refusal)
  put_unstaged : Rose → refuse_head put digest ≡ Ok tt → IsSpared s t → WholePutTold Still Rose s t account now put digest (answers.Refused refusals.Unavailable)
  put_unavailable : Rose → WouldPut s account now put digest → (slot : ℕ) → IsNext s.slots slot → IsPutLeft (staged_in s slot digest) t account now put slot
      → WholePutTold Still Rose s t account now put digest (answers.Refused refusals.Unavailable)
  put_memory : IsWholeSpared s t digest → WholePutTold Still Rose s t account now put digest answers.Memory
