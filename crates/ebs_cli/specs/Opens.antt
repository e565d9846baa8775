-- What is kept of a disk.
use Rattle.std.specs.Prelude.{◌≡◌, true, ℕ, List, ◌⊎◌}
use Rattle.ebs_world.specs.declared.area.Area.{Area}
use Rattle.ebs_world.specs.Image.{Image}
use Rattle.ebs_world.specs.View.{View, Ran}
use Rattle.ebs_journal.specs.Opening.{IsJournal, OffMaking}
use Rattle.ebs_recovery.specs.Made.{State}
use Rattle.ebs_recovery.specs.Replays.{Replays}
use Rattle.ebs_recovery.specs.Stands.{no_secret}
use Rattle.ebs_disk_store.specs.Opened.{Starts, AreBuilt, IsMarked, IsUnmarked, KeepsMade, KeepsShared}
use Rattle.ebs_cli.specs.Told.{Kept, new_kept}

-- what is kept is what the image's journal gives: its records lead to it from what its checkpoint says
pub record IsKept (c : Image) (k : Kept) : Type 0 where
  pub checkpoint : List ℕ
  pub base : State
  pub starts : Starts checkpoint base
  pub area : Area
  pub epoch : ℕ
  pub payloads : List (List ℕ)
  pub journal : IsJournal c area epoch checkpoint payloads
  pub built : AreBuilt payloads
  pub state : State
  pub replays : Replays base payloads state
  pub machine : k.state.machine ≡ state.machine
  -- of the slots that were given, just those of the blocks that snapshots and volumes have
  pub slots : KeepsShared k.state.machine state.slots k.state.slots
  pub clock : k.clock ≡ k.state.machine.clock

-- where the mark says that a store was made, that is kept which the disk's journal gives; where it says that none was, nothing, with the secret of a store that
-- wasn't made yet
abbrev pub IsKeptOrNew : View → Kept → Type 0
IsKeptOrNew v k = (IsMarked v × IsKept v.reads k) ⊎ (IsUnmarked v × (k ≡ new_kept no_secret))

-- nothing was written but the areas of a journal and the mark; and where the mark said that a store was made, nothing was written at all
pub record OnlyMakes (v u : View) : Type 0 where
  pub ran : Ran OffMaking v u
  pub unwritten : KeepsMade v u
