-- Why a command isn't done on a disk.
use Rattle.std.specs.Prelude.{◌≡◌, true, ◌⊎◌, ℕ}
use Rattle.ebs_world.specs.View.{View}
use Rattle.ebs_disk_store.specs.declared.refusal.OpenRefusal.{OpenRefusal}
use Rattle.ebs_words.specs.declared.words.Command.{Command}
use Rattle.ebs_words.specs.declared.words.Command.TheVariants.{Session, Init, Tick, Collect, Usage, Check, Sample}
use Rattle.ebs_cli.specs.Told.{Kept}
use Rattle.ebs_opening.specs.Opens.{IsUnready}
use Rattle.ebs_cli.specs.Opens.{IsKept}
use Rattle.ebs_cli.specs.Outcomes.{unready_at}
use Rattle.ebs_disk_store.specs.Opened.{IsMarked}
use Rattle.ebs_model.specs.Quotas.{Rose}

-- there is no store on the disk that can be used, and the status says so
pub record HasNone (v w : View) : Type 0 where
  pub refusal : OpenRefusal
  pub status : unready_at refusal ≡ 3
  pub cause : IsUnready v w refusal

-- why a command is refused by status 3: one that makes a store because one was made before, any other because there is none that can be used
abbrev pub IsRefused : Command → View → View → Type 0
IsRefused Session v w = HasNone v w
IsRefused (Init secret) v w = v.tells ≡ true → IsMarked v
IsRefused Tick v w = HasNone v w
IsRefused Collect v w = HasNone v w
IsRefused Usage v w = HasNone v w
IsRefused Check v w = HasNone v w
IsRefused (Sample rounds) v w = v.tells ≡ true → IsMarked v

-- a command that writes a checkpoint at its end
abbrev pub WritesCheckpoint : Command → Type 0
WritesCheckpoint Session = ⊥
WritesCheckpoint (Init secret) = ⊥
WritesCheckpoint Tick = ⊥
WritesCheckpoint Collect = Unit {0}
WritesCheckpoint Usage = ⊥
WritesCheckpoint Check = ⊥
WritesCheckpoint (Sample rounds) = Unit {0}

-- a store was made on the disk, and none can be read of it
abbrev pub IsUnreadable : View → Type 0
IsUnreadable v = IsMarked v × ((k : Kept) → IsKept v.reads k → ⊥)

-- where a command can't be done: one that makes a store where one was made, any other where one was made and none can be read
abbrev pub CantBeDone : Command → View → Type 0
CantBeDone Session v = IsUnreadable v
CantBeDone (Init secret) v = IsMarked v
CantBeDone Tick v = IsUnreadable v
CantBeDone Collect v = IsUnreadable v
CantBeDone Usage v = IsUnreadable v
CantBeDone Check v = IsUnreadable v
CantBeDone (Sample rounds) v = IsMarked v

-- the status says that the command was refused, that the disk failed, whose count of faults rose, or that memory was wanting
abbrev pub SaysUndone : ℕ → View → View → Type 0
SaysUndone status v w = (status ≡ 3) ⊎ (((status ≡ 2) × Rose v.faults w.faults) ⊎ (status ≡ 8))
