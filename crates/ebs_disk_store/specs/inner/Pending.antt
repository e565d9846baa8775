-- What is pending after a call, and what its record does.
use Rattle.std.specs.Prelude.{◌≡◌, ℕ, Option, ◌⊎◌, None, Some, List, Ok, ◌+◌}
use Rattle.sha2.specs.Sha256.{sha256}
use Rattle.ebs_world.specs.Image.{Image}
use Rattle.ebs_model.specs.declared.keys.Moment.{Moment}
use Rattle.ebs_model.specs.declared.request.Request.{Request}
use Rattle.ebs_model.specs.declared.request.Request.TheVariants.{PutSnapshotBlock, WriteVolumeBlock}
use Rattle.ebs_model.specs.declared.answer.Answer.{Answer}
use Rattle.ebs_model.specs.declared.answer.Answer.TheVariants as answers
use Rattle.ebs_model.specs.declared.answer.Refusal.TheVariants as refusals
use Rattle.ebs_model.specs.Machine.{Machine, advance}
use Rattle.ebs_model.specs.Step.{act}
use Rattle.ebs_records.specs.declared.record.Record.{Record}
use Rattle.ebs_records.specs.declared.record.Record.TheVariants.{Accepted}
use Rattle.ebs_recovery.specs.Made.{bare}
use Rattle.ebs_disk_store.specs.inner.Calls.{recorded_request}
use Rattle.ebs_recovery.specs.inner.Fits.{Seen}
use Rattle.ebs_recovery.specs.inner.Stands.{refilled}

-- the record of a call at its moment, as the machine that stands at it makes it
pub record IsRecordOf (m : Machine) (account : ℕ) (now : Moment) (request : Request) (r : Record) : Type 0 where
  pub slot : Option ℕ
  pub is : r ≡ Accepted (record { at = now; account = account; request = bare (recorded_request m account request); slot = slot })

-- nothing is pending, or what was, or this call, which is answered by E17
abbrev pub IsPendingAfter : Seen → Seen → ℕ → Moment → Request → Answer → Type 0
IsPendingAfter s t account now request answer = (t.pending ≡ None) ⊎ ((t.pending ≡ s.pending)
    ⊎ ((answer ≡ answers.Refused refusals.Unavailable) × ((r : Record) × (t.pending ≡ Some r) × IsRecordOf (advance s.recorded now) account now request r)))

-- what was made is what was asked: that put or that write, of some bytes; any other call as it was asked does the same
abbrev pub DoneAsAsked : Machine → ℕ → Request → Request → Machine → Answer → Type 0
DoneAsAsked m account (PutSnapshotBlock key index digest bytes) made next answer = (found : List ℕ) × (made ≡ PutSnapshotBlock key index digest found)
DoneAsAsked m account (WriteVolumeBlock key index digest bytes) made next answer = (found : List ℕ) × (made ≡ WriteVolumeBlock key index digest found)
DoneAsAsked m account request made next answer = act sha256 m account request ≡ Ok (next, answer)

-- a change whose record is that of a call, of the store's machine at the call's moment, is what was asked, with the bytes of any image
abbrev pub RecordedCallsAreAsked : Type 0
RecordedCallsAreAsked = (c : Image) (s : Seen) (account : ℕ) (now : Moment) (request made : Request) (next : Machine) (answer : Answer)
    → bare made ≡ bare (recorded_request (advance s.recorded now) account request) → act sha256 (advance (refilled c s.slots.keys s.recorded) now) account made ≡ Ok (next, answer)
    → next.changes ≡ s.recorded.changes + 1 → DoneAsAsked (advance (refilled c s.slots.keys s.recorded) now) account request made next answer
