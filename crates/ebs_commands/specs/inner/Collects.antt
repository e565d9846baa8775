-- Beside what is promised: a collection of a store on a disk.
use Rattle.std.specs.Prelude.{◌≡◌, ◌⊎◌, ℕ, List, Option, Result, Ok, Err}
use Rattle.std.specs.FinMap as fin
use Rattle.ebs_world.specs.Ends.{Outlet, Ticks}
use Rattle.ebs_world.specs.Image.{Images}
use Rattle.ebs_world.specs.View.{View, Leaves, Ran}
use Rattle.ebs_journal.specs.Opening.{OffJournal}
use Rattle.ebs_model.specs.Machine.{advance}
use Rattle.ebs_model.specs.Quotas.{Rose}
use Rattle.ebs_model.specs.declared.keys.Moment.{Moment}
use Rattle.ebs_recovery.specs.Stands.{Stands}
use Rattle.ebs_recovery.specs.inner.Fits.{Seen, StandsForOne, kept_state, recorded, running}
use Rattle.ebs_slots.specs.inner.Slots.{SlotTable}
use Rattle.ebs_disk_store.specs.inner.Told.{IfSound, at_reading}
use Rattle.ebs_disk_store.specs.declared.collecting.Usage.{Usage}
use Rattle.ebs_disk_store.specs.declared.pointing.StoreStop.{StoreStop}
use Rattle.ebs_disk_store.specs.declared.pointing.StoreStop.TheVariants as stops
use Rattle.ebs_commands.specs.Collects.{CollectEnds, IsCollected, PointEnds, Promised, usage_of}
use Rattle.ebs_commands.specs.declared.ending.CommandEnd.{CommandEnd}
use Rattle.ebs_commands.specs.declared.ending.CommandEnd.TheVariants.{Done, DiskFailed, AlreadyMade, OutputFailed, Memory, Damaged, Exhausted}

-- what is used of these slots
abbrev pub used : SlotTable → Usage
used slots = usage_of slots.keys (fin.len slots.leases)

-- nothing waits any more, the clock is at this moment, and the machine that answers calls is as time leaves it then
pub record Finished (sound : Type 0) (old new : View) (s t : Seen) (now : Moment) : Type 0 where
  pub collected : IsCollected (kept_state s) (kept_state t) now
  pub idle : t.waiting ≡ 0
  pub clock : t.clock ≡ now
  pub leases : t.slots.leases ≡ s.slots.leases
  pub machine : IfSound sound old (running new t ≡ advance (running old s) now)

-- the disk's count of faults rose, and what is kept is as it was
pub record Failed (sound : Type 0) (old new : View) (s t : Seen) : Type 0 where
  pub rose : Rose old.faults new.faults
  pub kept : kept_state t ≡ kept_state s
  pub clock : t.clock ≡ s.clock
  pub leases : t.slots.leases ≡ s.slots.leases
  pub same : IfSound sound old ((recorded new t ≡ recorded old s) × (running new t ≡ running old s))

-- an image of one of a collection's moments stands for one of the machines before it, or for what was recorded, as time leaves it at this moment
abbrev pub MayAge : View → Seen → Moment → Images
MayAge old s now c = StandsForOne old s c ⊎ Stands c (advance (recorded old s) now)

-- it was finished, and this is how the checkpoint behind it ended
pub record Ended (sound : Type 0) (old new : View) (s t : Seen) (now : Moment) (result : Result (Unit {0}) StoreStop) : Type 0 where
  pub finished : Finished sound old new s t now
  pub point : PointEnds (Promised sound old) old new (kept_state s) (kept_state t) now result

-- the end of a collection whose checkpoint ended so
abbrev pub after_point : Result (Unit {0}) StoreStop → Result (Unit {0}) CommandEnd
after_point (Ok done) = Ok tt
after_point (Err stops.Unavailable) = Err DiskFailed
after_point (Err stops.Exhausted) = Err Exhausted
after_point (Err stops.Memory) = Err Memory

-- whether a collection was finished with its checkpoint, or why it wasn't
abbrev pub IsCollectedOr : Result (Unit {0}) CommandEnd → Type 0 → (Result (Unit {0}) StoreStop → Type 0) → Type 0
IsCollectedOr (Ok done) Failed Finished = Finished (Ok tt)
IsCollectedOr (Err DiskFailed) Failed Finished = Failed ⊎ Finished (Err stops.Unavailable)
IsCollectedOr (Err Exhausted) Failed Finished = Finished (Err stops.Exhausted)
IsCollectedOr (Err Memory) Failed Finished = Finished (Err stops.Memory)
IsCollectedOr (Err Done) Failed Finished = ⊥
IsCollectedOr (Err AlreadyMade) Failed Finished = ⊥
IsCollectedOr (Err OutputFailed) Failed Finished = ⊥
IsCollectedOr (Err Damaged) Failed Finished = ⊥

-- a collection was made at this reading, with its checkpoint, and all that it did to the disk is in the journals
pub record Collects {D : Type 0} (view : D → View) (sound : Type 0) (reading : Moment) (d : D) (s : Seen) (e : D) (t : Seen) : Type 0 where
  pub moments : IfSound sound (view d) (Leaves (view d) (view e) (MayAge (view d) s (at_reading s reading)))
  pub ran : Ran OffJournal (view d) (view e)

-- and what was used behind it was told
pub record CollectsAt {D : Type 0} (view : D → View) (sound : Type 0) (end : CommandEnd) (reading : Moment) (d : D) (s : Seen) (e : D) (t : Seen) (before after : Outlet) : Type 0 where
  pub collects : Collects view sound reading d s e t
  pub ends : CollectEnds end (Failed sound (view d) (view e) s t) (Ended sound (view d) (view e) s t (at_reading s reading)) (used t.slots) before after

-- at one reading of the clock
pub record CollectsNow {D : Type 0} (view : D → View) (sound : Type 0) (end : CommandEnd) (clock_old clock_new : Option (List ℕ)) (d : D) (s : Seen) (e : D) (t : Seen) (before after : Outlet) : Type 0 where
  pub reading : Moment
  pub ticks : Ticks clock_old clock_new reading.second
  pub at : CollectsAt view sound end reading d s e t before after
