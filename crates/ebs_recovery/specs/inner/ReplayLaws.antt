-- The laws of openings.
use Rattle.std.specs.Prelude.{◌≡◌, ℕ, List, [], ◌∷◌, ◌++◌, Some}
use Rattle.ebs_world.specs.declared.area.Area.{Area}
use Rattle.ebs_world.specs.declared.area.Area.TheVariants.{Blocks}
use Rattle.ebs_world.specs.Image.{Image, Durable}
use Rattle.ebs_world.specs.View.{View}
use Rattle.ebs_journal.specs.Opening.{IsJournal}
use Rattle.ebs_model.specs.Machine.{Machine}
use Rattle.ebs_records.specs.declared.record.Record.{Record}
use Rattle.ebs_records.specs.Records.{IsRecord, record_bytes}
use Rattle.ebs_checkpoints.specs.declared.checkpoint.Checkpoint.{Checkpoint}
use Rattle.ebs_checkpoints.specs.Checkpoints.{spelled}
use Rattle.ebs_checkpoint_rules.specs.Rules.{IsCheckpoint}
use Rattle.ebs_recovery.specs.Made.{State, followed, Made, IsHistory}
use Rattle.ebs_recovery.specs.Made as changes
use Rattle.ebs_recovery.specs.Stands.{Records}
use Rattle.ebs_recovery.specs.Bases.{HasNoCopies}
use Rattle.ebs_recovery.specs.inner.Bases.{state_of}
use Rattle.ebs_recovery.specs.Replays.{Replays, IsBadBehind}
use Rattle.ebs_journal.specs.inner.Standing.{IsSettled}
use Rattle.ebs_recovery.specs.inner.Fits.{Seen, recorded, Fit}
use Rattle.ebs_recovery.specs.inner.Made.{digested_state}
use Rattle.ebs_recovery.specs.inner.Replays.{IsOpened}
use Rattle.ebs_recovery.specs.inner.Stands.{refilled}

-- one state comes of payloads
abbrev pub OneReplay : Type 0
OneReplay = (s t u : State) (payloads : List (List ℕ)) → Replays s payloads t → Replays s payloads u → t ≡ u

-- one payload more
abbrev pub ReplayGoesOn : Type 0
ReplayGoesOn = (s t u : State) (payloads : List (List ℕ)) (r : Record) → Replays s payloads t → IsRecord r → followed t (r ∷ []) ≡ Some u → Replays s (payloads ++ record_bytes r ∷ []) u

-- where all are followed, none is bad
abbrev pub NoneBad : Type 0
NoneBad = (s t : State) (payloads before : List (List ℕ)) → Replays s payloads t → IsBadBehind s payloads before → ⊥

-- the spelled records of a history are followed to the kept form of its state
abbrev pub HistoryReplays : Type 0
HistoryReplays = (base : State) (es : List Made) (s : State) → IsHistory base es s → Replays (digested_state base) (changes.spelled es) (digested_state s)

-- the records of an image that stands for a machine give its kept form, and with the image's bytes the machine; nothing of its checkpoint is in the archive
abbrev pub RecordsGiveMachine : Type 0
RecordsGiveMachine = (c : Image) (m : Machine) (area : Area) (epoch : ℕ) (point : Checkpoint) (payloads : List (List ℕ)) → Records c m → IsCheckpoint point → IsJournal c area epoch (spelled point) payloads
    → HasNoCopies point × ((k : State) × Replays (state_of point) payloads k × (refilled c k.slots k.machine ≡ m))

-- a store that was opened on a disk which stands for a machine has that machine, and fits
abbrev pub OpenedFits : View → Type 0
OpenedFits v = (m : Machine) (s : Seen) (point : Checkpoint) (payloads : List (List ℕ)) (k : State) → Records v.reads m → IsCheckpoint point → IsSettled v s.journal (spelled point) payloads
    → Durable Blocks v.reads v.may_leave → Replays (state_of point) payloads k → IsOpened s k → Fit v s × (recorded v s ≡ m)
