-- The laws of a store and its disk, of the disk's views before and after some calls.
use Rattle.std.specs.Prelude.{ℕ, false, ◌≡◌, ◌≢◌, None, Some, List, [], ◌≤◌, ◌∷◌, ◌++◌, ◌⊎◌}
use Rattle.std.specs.FinMap as fin
use Rattle.sha2.specs.Sha256.{sha256}
use Rattle.ebs_model.specs.declared.keys.Moment.{Moment}
use Rattle.ebs_model.specs.Arrays.{WholeBlock}
use Rattle.ebs_world.specs.declared.area.Area.TheVariants.{Blocks}
use Rattle.ebs_world.specs.Image.{Image, Places}
use Rattle.ebs_world.specs.View.{View, Ran, Leaves}
use Rattle.ebs_slots.specs.Slots.{OffSlot}
use Rattle.ebs_model.specs.Kept.{same}
use Rattle.ebs_model.specs.Machine.{advance}
use Rattle.ebs_records.specs.declared.record.Record.{Record}
use Rattle.ebs_records.specs.Records.{record_bytes}
use Rattle.ebs_recovery.specs.Made.{spelled, State, Made, IsValue, made, record_of}
use Rattle.ebs_recovery.specs.Stands.{Holder, blocks_at, Stands}
use Rattle.ebs_recovery.specs.inner.Stands.{EachBlock, first_checkpoint, IsSecret}
use Rattle.ebs_journal.specs.Opening.{OffJournal}
use Rattle.ebs_journal.specs.inner.Line.{Line}
use Rattle.ebs_journal.specs.inner.Standing.{IsSettled, IsPending, IsOrAlso}
use Rattle.ebs_recovery.specs.inner.Fits.{AgreeOn, KeepsSlots, IsHeld, IsHeldSlot, Seen, Fit, StandsForOne, StandsRead, recorded, new_store, IsStagedChange, IsFound, kept_state, IsReady, StandsOrAfter, Took, IsStill}
use Rattle.ebs_recovery.specs.inner.Made.{kept_change, Leads}
use Rattle.ebs_slots.specs.inner.Slots.{IsFree, staged, abandoned, released}
use Rattle.ebs_slots.specs.inner.Standing.{Lies}

-- a write in the slot at the top keeps all that is held
abbrev pub StagingKeepsHeld : View → View → Type 0
StagingKeepsHeld old new = (top : ℕ) → Ran (OffSlot Blocks top) old new → Ran (IsHeld top) old new

-- a call on the journal keeps the slots
abbrev pub JournalKeepsSlots : View → View → Type 0
JournalKeepsSlots old new = (top : ℕ) → Ran OffJournal old new → Ran (IsHeldSlot top) old new

-- each image stands for what is recorded, or for that after the pending change
abbrev pub ImagesStandForOne : View → Type 0
ImagesStandForOne v = (s : Seen) → Fit v s → (c : Image) → v.may_leave c → StandsForOne v s c

-- the journal has the history's records, or where it isn't turning, its last gate is that of the pending one
abbrev pub JournalIsTold : View → Type 0
JournalIsTold v = (s : Seen) (fit : Fit v s)
    → (s.pending ≡ None → IsSettled v s.journal fit.checkpoint (spelled fit.changes))
    × ((r : Record) → s.pending ≡ Some r → s.journal.turning ≡ false → IsPending v s.journal fit.checkpoint (spelled fit.changes) (record_bytes r))

-- a block that is kept is read in its slot, with its digest
abbrev pub KeptBlocksStand : View → Type 0
KeptBlocksStand v = (s : Seen) (key : Holder) (index : ℕ) (kept : WholeBlock) → Fit v s → fin.get (blocks_at s.recorded key) index ≡ Some kept → StandsRead v s kept

-- calls that keep the journal and each slot that was handed out keep the fit
abbrev pub FitStays : View → View → Type 0
FitStays old new = (s : Seen) → Ran (IsHeld s.slots.top) old new → Fit old s → Fit new s

-- and at each of their moments each image stands for one of the two
abbrev pub ImagesStay : View → View → Type 0
ImagesStay old new = (s : Seen) → Ran (IsHeld s.slots.top) old new → Fit old s → Leaves old new (StandsForOne old s)

-- calls that keep the slots that were handed out keep the recorded machine
abbrev pub MachineStays : View → View → Type 0
MachineStays old new = (s t : Seen) → Fit old s → Ran (IsHeldSlot s.slots.top) old new → t.recorded ≡ s.recorded → t.slots.keys ≡ s.slots.keys → recorded new t ≡ recorded old s

-- time has passed for the recorded machine at its clock
abbrev pub RecordedRests : View → Type 0
RecordedRests v = (s : Seen) → Fit v s → advance (recorded v s) s.recorded.clock ≡ recorded v s

-- a new store, on a disk with its journal
abbrev pub NewFits : View → Type 0
NewFits v = (secret : List ℕ) (journal : Line) → IsSecret secret → IsSettled v journal (first_checkpoint secret) [] → Fit v (new_store secret journal)

-- nothing is pending, and a run of calls writes in a slot that no key and no lease has
pub record WritesFree (old new : View) (s : Seen) (slot : ℕ) : Type 0 where
  pub settled : s.pending ≡ None
  pub free : IsFree s.slots slot
  pub ran : Ran (OffSlot Blocks slot) old new

-- such calls keep the fit, whatever they leave in that slot
abbrev pub WritingFits : View → View → Type 0
WritingFits old new = (s : Seen) (slot : ℕ) → WritesFree old new s slot → Fit old s → Fit new s

-- at each of their moments each image stands for what is recorded
abbrev pub ImagesWhileWritten : View → View → Type 0
ImagesWhileWritten old new = (s : Seen) (slot : ℕ) → WritesFree old new s slot → Fit old s → Leaves old new (λ c. Stands c (recorded old s))

-- all of the blocks' area but the slot
abbrev pub IsOtherSlot : ℕ → Places
IsOtherSlot slot a i = (a ≡ Blocks) × OffSlot Blocks slot a i

-- calls that keep all blocks but a slot that no key and no lease has keep the recorded machine
abbrev pub MachineWhileWritten : View → View → Type 0
MachineWhileWritten old new = (s t : Seen) (slot : ℕ) → IsFree s.slots slot → Ran (IsOtherSlot slot) old new → Fit old s → t.recorded ≡ s.recorded → t.slots.keys ≡ s.slots.keys → recorded new t ≡ recorded old s

-- a block that was staged is under lease
abbrev pub StagedFits : View → View → Type 0
StagedFits old new = (s : Seen) (slot : ℕ) (block : List ℕ) → WritesFree old new s slot → Fit old s → Lies new Blocks slot block
    → Fit new (record s { slots = staged s.slots slot (sha256 block) })

-- a key that is no kept block's stamp has an entry less, and no slot any more where it was the last
abbrev pub ReleasedFits : View → Type 0
ReleasedFits v = (s : Seen) (key : ℕ) → EachBlock (λ block. block.stamp ≢ key) s.recorded → Fit v s → Fit v (record s { slots = released s.slots key })

-- nothing that is recorded or pending has changed, and each block that is kept has its slot; other keys may be gone
pub record FreesDead (s t : Seen) : Type 0 where
  pub recorded : t.recorded ≡ s.recorded
  pub keys : AgreeOn s.recorded t.slots.keys s.slots.keys
  pub slots : KeepsSlots s t
  pub clock : s.clock.second ≤ t.clock.second
  pub journal : t.journal ≡ s.journal
  pub pending : t.pending ≡ s.pending

-- such a store fits
abbrev pub FreedFits : View → Type 0
FreedFits v = (s t : Seen) → FreesDead s t → Fit v s → Fit v t

-- and has the same machine
abbrev pub FreedIsSame : View → Type 0
FreedIsSame v = (s t : Seen) → FreesDead s t → Fit v s → recorded v t ≡ recorded v s

-- a lease is given up
abbrev pub AbandonedFits : View → Type 0
AbandonedFits v = (s : Seen) (slot : ℕ) → Fit v s → Fit v (record s { slots = abandoned s.slots slot })

-- time passes, as it does at a call that is refused
abbrev pub LaterFits : View → Type 0
LaterFits v = (s : Seen) (now : Moment) → Fit v s → s.clock.second ≤ now.second → Fit v (record s { clock = now })

-- a change that the kept form accepts is one of the machine, with the same kept form behind it
abbrev pub KeptFormFinds : View → Type 0
KeptFormFinds v = (s : Seen) (fit : Fit v s) (e : Made) (k : State) → IsValue e → IsStagedChange v s.slots.top e → made same (kept_state s) (kept_change e) ≡ Some k → IsFound v s fit e k

-- while the record of such a change is appended, each image stands for the machine before it, or after it
abbrev pub ImagesWhileAppended : View → View → Type 0
ImagesWhileAppended old new = (s : Seen) (e : Made) (next : State) (fit : Fit old s) → IsReady old s fit e next → Ran OffJournal old new
    → Leaves old new (λ c. IsOrAlso c s.journal fit.checkpoint (spelled fit.changes) (record_bytes (record_of e)))
    → Leaves old new (StandsOrAfter old s e)

-- while the gate of a pending record is closed, each image stands for one of the two
abbrev pub ImagesWhileMended : View → View → Type 0
ImagesWhileMended old new = (s : Seen) (r : Record) (fit : Fit old s) → s.pending ≡ Some r → s.journal.turning ≡ false → Ran OffJournal old new
    → Leaves old new (λ c. IsOrAlso c s.journal fit.checkpoint (spelled fit.changes) (record_bytes r))
    → Leaves old new (StandsForOne old s)

-- once its gate is durable, the store fits that took it, and its machine is the one after the change
abbrev pub AcknowledgedFits : View → View → Type 0
AcknowledgedFits old new = (s t : Seen) (e : Made) (next : State) (fit : Fit old s) → IsReady old s fit e next → Ran OffJournal old new → Took s next t → t.pending ≡ None
    → IsSettled new t.journal fit.checkpoint (spelled fit.changes ++ record_bytes (record_of e) ∷ [])
    → Fit new t × Leads (recorded old s) e (recorded new t)

-- where its gate isn't known, the store fits that keeps it as pending
abbrev pub UnsureFits : View → View → Type 0
UnsureFits old new = (s t : Seen) (e : Made) (next : State) (fit : Fit old s) → IsReady old s fit e next → Ran OffJournal old new → IsStill s t → t.pending ≡ Some (record_of e)
    → IsPending new t.journal fit.checkpoint (spelled fit.changes) (record_bytes (record_of e)) → Fit new t

-- where the gate of a pending record still isn't known, the store fits as it was
abbrev pub UnsureStays : View → View → Type 0
UnsureStays old new = (s t : Seen) (r : Record) (fit : Fit old s) → s.pending ≡ Some r → s.journal.turning ≡ false → Ran OffJournal old new → IsStill s t → t.pending ≡ Some r
    → IsPending new t.journal fit.checkpoint (spelled fit.changes) (record_bytes r) → Fit new t

-- where it has left no trace, or the gate of an old one was closed, the store fits as it was, with nothing pending
abbrev pub ClosedFits : View → View → Type 0
ClosedFits old new = (s t : Seen) (fit : Fit old s) → Ran OffJournal old new → IsStill s t → t.pending ≡ None
    → IsSettled new t.journal fit.checkpoint (spelled fit.changes) → Fit new t

-- what an image stands for after some calls that leave the recorded machine, with no other change pending, it stands for before them
abbrev pub SameMachines : View → View → Type 0
SameMachines old new = (s t : Seen) (e : Made) (c : Image) → recorded new t ≡ recorded old s → (t.pending ≡ None) ⊎ (t.pending ≡ s.pending) → StandsOrAfter new t e c → StandsOrAfter old s e c
