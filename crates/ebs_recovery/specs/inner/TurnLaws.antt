-- The laws of a checkpoint that takes the place of the records.
use Rattle.std.specs.Prelude.{ℕ, true, ◌≡◌, ◌<◌, List, [], None, Some}
use Rattle.std.specs.FinMap as fin
use Rattle.ebs_world.specs.View.{View, Ran, Leaves}
use Rattle.ebs_journal.specs.Opening.{OffJournal}
use Rattle.ebs_journal.specs.inner.Standing.{IsSettled, IsTurning, IsOrNext}
use Rattle.ebs_model.specs.Machine.{advance}
use Rattle.ebs_checkpoints.specs.declared.checkpoint.Checkpoint.{Checkpoint}
use Rattle.ebs_checkpoints.specs.Checkpoints.{spelled as point_bytes}
use Rattle.ebs_records.specs.declared.record.Record.{Record}
use Rattle.ebs_records.specs.declared.record.Record.TheVariants.{Advance}
use Rattle.ebs_recovery.specs.Bases.{slots_of, HasNoCopies}
use Rattle.ebs_recovery.specs.Made.{advanced, spelled}
use Rattle.ebs_recovery.specs.inner.BaseLaws.{IsPointOf}
use Rattle.ebs_recovery.specs.inner.Fits.{Seen, Fit, KeepsSlots, IsStill, StandsForOne, StandsOrAfter, recorded}

-- the checkpoint is that of what answers calls, has nothing in the archive, and names only slots that were handed out
pub record IsNextOf (s : Seen) (point : Checkpoint) : Type 0 where
  pub of : IsPointOf s point
  pub here : HasNoCopies point
  pub below : (stamp slot : ℕ) → fin.get (slots_of point.standard) stamp ≡ Some slot → slot < s.slots.top

-- the store whose records are such a checkpoint alone: what answers calls is what is recorded
pub record IsTurnedTo (s t : Seen) : Type 0 where
  pub recorded : t.recorded ≡ advance s.recorded s.clock
  pub keys : t.slots.keys ≡ s.slots.keys
  pub slots : KeepsSlots s t
  pub clock : t.clock ≡ s.clock
  pub pending : t.pending ≡ None

-- while a journal goes on with the checkpoint in its other area, each image stands for what the store stood for, or for the machine that answers calls
abbrev pub ImagesWhileTurned : View → View → Type 0
ImagesWhileTurned old new = (s : Seen) (point : Checkpoint) (fit : Fit old s) → IsNextOf s point → Ran OffJournal old new
    → Leaves old new (λ c. IsOrNext c s.journal fit.checkpoint (spelled fit.changes) (point_bytes point)) → Leaves old new (StandsOrAfter old s (advanced s.clock))

-- and then the store fits whose journal has the checkpoint and no record, with the machine that answered calls
abbrev pub TurnedFits : View → View → Type 0
TurnedFits old new = (s t : Seen) (point : Checkpoint) → Fit old s → IsNextOf s point → Ran OffJournal old new → IsTurnedTo s t → IsSettled new t.journal (point_bytes point) []
    → Fit new t × (recorded new t ≡ advance (recorded old s) s.clock)

-- where the gate of that area isn't known, the store fits that keeps as pending that time has passed until its clock
abbrev pub TurningFits : View → View → Type 0
TurningFits old new = (s t : Seen) (point : Checkpoint) (fit : Fit old s) → IsNextOf s point → Ran OffJournal old new → IsStill s t → t.pending ≡ Some (Advance s.clock)
    → IsTurning new t.journal fit.checkpoint (spelled fit.changes) (point_bytes point) → Fit new t

-- the checkpoint whose gate isn't known
pub record IsInDoubt (old new : View) (s : Seen) (fit : Fit old s) : Type 0 where
  pub next : List ℕ
  pub gate : IsTurning old s.journal fit.checkpoint (spelled fit.changes) next
  -- while that gate is closed, each image stands for one of the two machines
  pub images : Ran OffJournal old new → Leaves old new (λ c. IsOrNext c s.journal fit.checkpoint (spelled fit.changes) next) → Leaves old new (StandsForOne old s)
  -- where it still isn't known, the store fits as it was
  pub stays : (t : Seen) → Ran OffJournal old new → IsStill s t → t.pending ≡ s.pending → IsTurning new t.journal fit.checkpoint (spelled fit.changes) next → Fit new t

-- a pending record of a journal that is turning has such a checkpoint
abbrev pub DoubtIsTold : View → View → Type 0
DoubtIsTold old new = (s : Seen) (r : Record) (fit : Fit old s) → s.pending ≡ Some r → s.journal.turning ≡ true → IsInDoubt old new s fit
