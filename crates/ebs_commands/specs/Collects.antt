-- What a collection leaves, how the checkpoint behind it ended, and how a usage is told.
use Rattle.std.specs.Prelude.{◌≡◌, ◌⊎◌, ◌<◌, ◌≤◌, ◌^◌, ℕ, List, [], ◌∷◌, length, Some, true, Result, Ok, Err}
use Rattle.std.specs.List.{AllByRecursion}
use Rattle.std.specs.FinMap as fin
use Rattle.ebs_world.specs.declared.area.Area.{Area}
use Rattle.ebs_world.specs.Ends.{Outlet}
use Rattle.ebs_world.specs.View.{View}
use Rattle.ebs_journal.specs.Opening.{IsJournal}
use Rattle.ebs_model.specs.declared.keys.Moment.{Moment}
use Rattle.ebs_model.specs.Machine.{Machine, advance}
use Rattle.ebs_model.specs.Quotas.{Rose}
use Rattle.ebs_checkpoints.specs.declared.checkpoint.Checkpoint.{Checkpoint}
use Rattle.ebs_checkpoints.specs.Checkpoints.{spelled}
use Rattle.ebs_checkpoint_rules.specs.Rules.{HasRules}
use Rattle.ebs_recovery.specs.Bases.{IsDigestOf, Says}
use Rattle.ebs_recovery.specs.Made.{SlotOfStamp, State}
use Rattle.ebs_disk_store.specs.Collected.{AreShared}
use Rattle.ebs_disk_store.specs.declared.collecting.Usage.{Usage}
use Rattle.ebs_disk_store.specs.declared.pointing.StoreStop.{StoreStop}
use Rattle.ebs_disk_store.specs.declared.pointing.StoreStop.TheVariants as stops
use Rattle.ebs_commands.specs.Lines.{usage_line}
use Rattle.ebs_commands.specs.Ends.{Wrote, FailedAt, Writes}
use Rattle.ebs_commands.specs.declared.ending.CommandEnd.{CommandEnd}
use Rattle.ebs_commands.specs.declared.ending.CommandEnd.TheVariants.{Done, DiskFailed, AlreadyMade, OutputFailed, Memory, Damaged, Exhausted}

-- what is used where these stamps have a slot and so many slots are under lease
abbrev pub usage_of : SlotOfStamp → ℕ → Usage
usage_of slots leased = record { standard = fin.len slots; archived = 0; leased = leased; waiting = 0 }

-- each slot was given back but those of the blocks that a snapshot or a volume has at this moment, which stay where they were; what is recorded stays,
-- or is as time leaves it at this moment
pub record IsCollected (s t : State) (now : Moment) : Type 0 where
  pub machine : (t.machine ≡ s.machine) ⊎ (t.machine ≡ advance s.machine now)
  pub slots : (stamp slot : ℕ) → fin.get t.slots stamp ≡ Some slot → fin.get s.slots stamp ≡ Some slot
  pub shared : AreShared t.slots (advance t.machine now)

-- ---- the checkpoint behind it

-- what is promised holds, and the disk tells what a read gives and is honest
abbrev pub Promised : Type 0 → View → Type 0
Promised sound v = sound × (v.tells ≡ true) × (v.honest ≡ true)

-- as the disk reads, its journal has a checkpoint and no record behind it
pub record HasNoRecords (v : View) : Type 0 where
  pub area : Area
  pub epoch : ℕ
  pub checkpoint : List ℕ
  pub journal : IsJournal v.reads area epoch checkpoint []

-- as it reads, its journal is of an epoch behind which none comes
pub record HasLastEpoch (v : View) : Type 0 where
  pub area : Area
  pub epoch : ℕ
  pub checkpoint : List ℕ
  pub records : List (List ℕ)
  pub journal : IsJournal v.reads area epoch checkpoint records
  pub late : 2 ^ 62 ≤ epoch

abbrev pub lengths_of : Checkpoint → List ℕ
lengths_of p = length p.accounts ∷ length p.snapshots ∷ length p.volumes ∷ length p.rules ∷ length p.policies ∷ length p.nodes ∷ length p.standard ∷ length p.archive ∷ []

-- a checkpoint that says this machine in the kept form has a list of 2^32 members, or more than 2^40 bytes
pub record IsTooLong (m : Machine) : Type 0 where
  pub point : Checkpoint
  pub rules : HasRules point
  pub state : State
  pub says : Says IsDigestOf point state
  pub machine : state.machine ≡ m
  pub long : AllByRecursion (λ n. n < 2 ^ 32) (lengths_of point) → 2 ^ 40 < length (spelled point)

-- how it ended: what answers calls is recorded, and no record stands behind it; the disk failed; none can be written; or memory was wanting
abbrev pub PointEnds : Type 0 → View → View → State → State → Moment → Result (Unit {0}) StoreStop → Type 0
PointEnds Kept v w s t now (Ok done) = (t.machine ≡ advance s.machine now) × (Kept → HasNoRecords w)
PointEnds Kept v w s t now (Err stops.Unavailable) = Rose v.faults w.faults
PointEnds Kept v w s t now (Err stops.Exhausted) = (Kept → HasLastEpoch w) ⊎ IsTooLong (advance t.machine now)
PointEnds Kept v w s t now (Err stops.Memory) = Unit {0}

-- ---- how it is told

-- how a usage is told
abbrev pub TellsUsage : CommandEnd → Usage → Outlet → Outlet → Type 0
TellsUsage Done usage before after = Wrote before after (usage_line usage)
TellsUsage OutputFailed usage before after = FailedAt before after (usage_line usage)
TellsUsage Memory usage before after = after ≡ before
TellsUsage DiskFailed usage before after = ⊥
TellsUsage AlreadyMade usage before after = ⊥
TellsUsage Damaged usage before after = ⊥
TellsUsage Exhausted usage before after = ⊥

-- what a command's end says of its collection: that it failed, or that it was finished and how the checkpoint behind it ended
abbrev pub CollectedAs : CommandEnd → Type 0 → (Result (Unit {0}) StoreStop → Type 0) → Type 0
CollectedAs Done Failed Finished = Finished (Ok tt)
CollectedAs OutputFailed Failed Finished = Finished (Ok tt)
CollectedAs DiskFailed Failed Finished = Failed ⊎ Finished (Err stops.Unavailable)
CollectedAs Exhausted Failed Finished = Finished (Err stops.Exhausted)
CollectedAs Memory Failed Finished = Finished (Ok tt) ⊎ Finished (Err stops.Memory)
CollectedAs AlreadyMade Failed Finished = ⊥
CollectedAs Damaged Failed Finished = ⊥

-- how a collection ends, and that the usage behind it is told where its checkpoint was written
abbrev pub CollectEnds : CommandEnd → Type 0 → (Result (Unit {0}) StoreStop → Type 0) → Usage → Outlet → Outlet → Type 0
CollectEnds end Failed Finished usage before after = CollectedAs end Failed Finished × Writes end (usage_line usage) before after
