-- What a checkpoint tells that takes the place of the records.
use Rattle.std.specs.Prelude.{ℕ, ◌+◌, ◌≡◌, ◌≤◌, ◌<◌, ◌^◌, ◌⊎◌, List, length, None, Some, Result, Ok, Err}
use Rattle.ebs_model.specs.Machine.{advance}
use Rattle.ebs_records.specs.declared.record.Record.TheVariants.{Advance}
use Rattle.ebs_checkpoints.specs.declared.checkpoint.Checkpoint.{Checkpoint}
use Rattle.ebs_checkpoints.specs.Checkpoints.{spelled}
use Rattle.ebs_checkpoint_rules.specs.Rules.{HasRules}
use Rattle.ebs_point_rules.specs.Values.{HasShortLists}
use Rattle.ebs_journal.specs.inner.Areas.{other}
use Rattle.ebs_journal.specs.inner.Line.{Line}
use Rattle.ebs_recovery.specs.inner.Bases.{machine_of}
use Rattle.ebs_recovery.specs.inner.Fits.{Seen}
use Rattle.ebs_recovery.specs.inner.TurnLaws.{IsNextOf}
use Rattle.ebs_disk_store.specs.declared.pointing.StoreStop.{StoreStop}
use Rattle.ebs_disk_store.specs.declared.pointing.StoreStop.TheVariants.{Unavailable, Exhausted, Memory}
use Rattle.ebs_disk_store.specs.inner.Told.{mended}

-- these bytes are the checkpoint of what answers calls, and an area can have them
pub record IsNext (s : Seen) (bytes : List ℕ) : Type 0 where
  pub point : Checkpoint
  pub next : IsNextOf s point
  pub is : bytes ≡ spelled point
  pub short : length bytes ≤ 2 ^ 40

-- the checkpoint of what answers calls has more bytes, or a list of 2^32 members
pub record IsLong (s : Seen) : Type 0 where
  pub point : Checkpoint
  pub rules : HasRules point
  pub machine : machine_of point ≡ advance s.recorded s.clock
  pub long : HasShortLists point → 2 ^ 40 < length (spelled point)

-- no checkpoint can be written any more, or not this one
abbrev pub IsExhausted : Seen → Type 0
IsExhausted s = (2 ^ 62 ≤ s.journal.epoch) ⊎ IsLong s

-- what answered calls is recorded
abbrev pub pointed : Seen → Line → Seen
pointed s journal = record s { recorded = advance s.recorded s.clock; journal = journal; pending = None }

-- it is so by a checkpoint without records, of the next epoch and in the other area
pub record IsPointed (s t : Seen) : Type 0 where
  pub is : t ≡ pointed s t.journal
  pub area : t.journal.area ≡ other s.journal.area
  pub epoch : t.journal.epoch ≡ s.journal.epoch + 1
  pub records : t.journal.since_checkpoint ≡ 0

-- nothing that is recorded has changed, and it may be in doubt which area counts
pub record IsUnpointed (s t : Seen) : Type 0 where
  pub recorded : t.recorded ≡ s.recorded
  pub clock : t.clock ≡ s.clock
  pub slots : t.slots ≡ s.slots
  pub waiting : t.waiting ≡ s.waiting
  pub journal : t.journal ≡ record s.journal { clean = t.journal.clean; shut = t.journal.shut; turning = t.journal.turning }
  pub pending : (t.pending ≡ s.pending) ⊎ ((t.pending ≡ None) ⊎ (t.pending ≡ Some (Advance s.clock)))

-- what a checkpoint tells, whatever its disk
abbrev pub Pointed : Seen → Seen → Result (Unit {0}) StoreStop → Type 0
Pointed s t (Ok done) = IsPointed s t
Pointed s t (Err Unavailable) = IsUnpointed s t
Pointed s t (Err Exhausted) = (t ≡ mended s) × IsExhausted s
Pointed s t (Err Memory) = t ≡ mended s
