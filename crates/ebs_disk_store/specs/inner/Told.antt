-- Beside what is promised: what a call of the store tells.
use Rattle.std.specs.Prelude.{◌≡◌, true, None, ℕ, List, false, Some, max, min}
use Rattle.ebs_world.specs.View.{View, Ran}
use Rattle.ebs_model.specs.declared.keys.Moment.{Moment}
use Rattle.ebs_model.specs.declared.request.Request.{Request}
use Rattle.ebs_model.specs.Machine.{Machine}
use Rattle.ebs_model.specs.Quotas.{last_second}
use Rattle.ebs_records.specs.declared.record.AcceptedCall.{AcceptedCall}
use Rattle.ebs_records.specs.declared.record.Record.{Record}
use Rattle.ebs_journal.specs.inner.Line.{Line, mended as mended_line}
use Rattle.ebs_recovery.specs.inner.Fits.{Seen}
use Rattle.ebs_disk_store.specs.Opened.{OffJournalAndSlot}
use Rattle.ebs_slots.specs.inner.Slots.{SlotTable, IsFree, staged, abandoned}

-- the premises of what is said of machines with their bytes
abbrev pub IfSound : Type 0 → View → Type 0 → Type 0
IfSound sound v P = sound → v.tells ≡ true → v.honest ≡ true → P

-- the gate that is in doubt is closed
abbrev pub mended : Seen → Seen
mended s = record s { pending = None; journal = mended_line s.journal }

abbrev pub at_clock : Seen → Moment → Seen
at_clock s now = record s { clock = now }

-- the slot is under lease
abbrev pub with_lease : Seen → ℕ → List ℕ → Seen
with_lease s slot digest = record s { slots = staged s.slots slot digest }

-- the gate of this record was written and isn't known
abbrev pub unsure : Seen → Record → Seen
unsure s r = record s { pending = Some r; journal = record s.journal { clean = false } }

-- the change that a call is, whatever slot has its block
abbrev pub called_at : ℕ → Moment → Request → AcceptedCall
called_at account now request = record { at = now; account = account; request = request; slot = None }

-- the store after a change, which lets blocks wait
abbrev pub taken : Seen → Moment → Machine → Line → ℕ → Seen
taken s now next journal waiting = record { recorded = next; clock = now; slots = s.slots; waiting = waiting; journal = journal; pending = None }

-- the moment of a call: the later of the clock and the reading, which counts as 2^36 where it is above that
abbrev pub at_reading : Seen → Moment → Moment
at_reading s reading = record { second = max s.clock.second (min reading.second last_second) }

-- a run of calls changed nothing but journals and one slot, which no key and no lease had
pub record RanOffJournalAndOne (s : SlotTable) (old new : View) : Type 0 where
  pub slot : ℕ
  pub free : IsFree s slot
  pub ran : Ran (OffJournalAndSlot slot) old new

-- a lease is given up
abbrev pub without_lease : Seen → ℕ → Seen
without_lease s slot = record s { slots = abandoned s.slots slot }
