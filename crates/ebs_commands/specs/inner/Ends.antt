-- Beside what is promised: how a making and a check end.
use Rattle.std.specs.Prelude.{◌≡◌, ℕ, List, true}
use Rattle.ebs_disk_store.specs.Opened.{IsUnmarked}
use Rattle.ebs_world.specs.View.{View}
use Rattle.ebs_journal.specs.inner.Line.{Line}
use Rattle.ebs_recovery.specs.inner.Fits.{Fits, new_store}

-- the disk, on which no store was made before, has that of the empty machine with this secret
pub record IsMade (sound : Type 0) (old new : View) (secret : List ℕ) : Type 0 where
  pub unmarked : old.tells ≡ true → IsUnmarked old
  pub journal : Line
  pub fits : Fits sound new (new_store secret journal)
