-- What a collection tells.
use Rattle.std.specs.Prelude.{◌≡◌, ◌⊎◌, ◌≤◌, ◌-◌, ◌==◌, if◌then◌else◌, ℕ, None, Result, Ok, Err}
use Rattle.ebs_model.specs.declared.keys.Moment.{Moment}
use Rattle.ebs_model.specs.declared.keys.SnapKey.{SnapKey}
use Rattle.ebs_model.specs.Machine.{Machine, advance, array_of}
use Rattle.ebs_records.specs.declared.record.Record.TheVariants.{Advance}
use Rattle.ebs_collect.specs.declared.backlog.Progress.{Progress}
use Rattle.ebs_collect.specs.declared.backlog.Progress.TheVariants.{More, Finished}
use Rattle.ebs_collect.specs.Slices.{Frees}
use Rattle.ebs_journal.specs.inner.Line.{Line}
use Rattle.ebs_recovery.specs.inner.Fits.{Seen}
use Rattle.ebs_disk_store.specs.declared.collecting.Unavailable.{Unavailable}
use Rattle.ebs_disk_store.specs.Collected.{AreShared}
use Rattle.ebs_disk_store.specs.inner.Told.{mended, unsure}

-- the machine as it was, or as time leaves it at the moment
abbrev pub IsAged : Machine → Moment → Machine → Type 0
IsAged m now next = (next ≡ m) ⊎ (next ≡ advance m now)

-- the store after a record of time
abbrev pub aged_store : Seen → Moment → Line → Seen
aged_store s now journal = record s { recorded = advance s.recorded now; clock = now; journal = journal; pending = None }

-- what a moment's passing tells of the machine that is recorded, and of what is pending
pub record Passes (s t : Seen) (now : Moment) : Type 0 where
  pub clock : t.clock ≡ now
  pub recorded : IsAged s.recorded now t.recorded
  pub pending : (t.pending ≡ s.pending) ⊎ (t.pending ≡ None)

-- time takes no array until the moment
abbrev pub StaysUntil : Machine → Moment → Type 0
StaysUntil m now = (key : SnapKey) → array_of (advance m now) key ≡ array_of m key

-- what is recorded and pending stays, and of the stamps that had a slot some have none any more; where nothing waits, those that have one are
-- the stamps of the machine's blocks
pub record Sweeps (s t : Seen) : Type 0 where
  pub recorded : t.recorded ≡ s.recorded
  pub clock : t.clock ≡ s.clock
  pub journal : t.journal ≡ s.journal
  pub pending : t.pending ≡ s.pending
  pub slots : Frees s.slots t.slots
  pub shared : t.waiting ≡ 0 → AreShared t.slots.keys t.recorded

-- the moment is passed, and of the stamps that had a slot some have none any more; where nothing waits, those that have one are the stamps of the
-- blocks that the machine has at the moment
pub record Collects (s t : Seen) (now : Moment) : Type 0 where
  pub passes : Passes s t now
  pub slots : Frees s.slots t.slots
  pub shared : t.waiting ≡ 0 → AreShared t.slots.keys (advance t.recorded now)

-- of what waited, and of what waits since time has ended it, so many were looked at
pub record IsLooked (s t : Seen) (work : ℕ) : Type 0 where
  pub waited : ℕ
  pub all : s.waiting ≤ waited
  pub left : t.waiting ≡ waited - work

abbrev pub progress_of : ℕ → Progress
progress_of waiting = if waiting == 0 then Finished else More

-- nothing that is recorded has changed: what is pending is as it was, nothing, or a record of time
abbrev pub IsUnpassed : Seen → Seen → Moment → Type 0
IsUnpassed s t now = (t ≡ s) ⊎ ((t ≡ mended s) ⊎ (t ≡ unsure (mended s) (Advance now)))

-- what a slice tells at its moment, whatever its disk
abbrev pub Sliced : Seen → Seen → Moment → ℕ → Result Progress Unavailable → Type 0
Sliced s t now work (Ok progress) = Collects s t now × IsLooked s t work × (progress ≡ progress_of t.waiting)
Sliced s t now work (Err unavailable) = IsUnpassed s t now

-- and a whole collection
abbrev pub Collected : Seen → Seen → Moment → Result (Unit {0}) Unavailable → Type 0
Collected s t now (Ok done) = Collects s t now × (t.waiting ≡ 0)
Collected s t now (Err unavailable) = IsUnpassed s t now
