-- Beside what is promised: how a store is had of a disk: it is opened, or made where none was made.
use Rattle.std.specs.Prelude.{Bool, true, false, ◌≡◌, ◌⊎◌}
use Rattle.ebs_world.specs.View.{View}
use Rattle.ebs_model.specs.Machine.{Machine}
use Rattle.ebs_recovery.specs.Stands.{no_secret}
use Rattle.ebs_disk_store.specs.Opened.{IsMarked, IsUnmarked}
use Rattle.ebs_disk_store.specs.declared.refusal.OpenRefusal.{OpenRefusal}
use Rattle.ebs_disk_store.specs.declared.refusal.OpenRefusal.TheVariants.{NotMade}
use Rattle.ebs_disk_store.specs.inner.Opened.{IsRead}
use Rattle.ebs_recovery.specs.inner.Fits.{Seen, new_store, recorded, running}

-- the refusal is that none was made
abbrev pub is_unmade : OpenRefusal → Bool
is_unmade NotMade = true
is_unmade refusal = false

-- where the mark says that a store was made, it is what the disk's journal gives; where it says that none was, it is a new one, of the empty machine with
-- the secret of a store that wasn't made yet
abbrev pub IsReadOrNew : View → Seen → Type 0
IsReadOrNew v s = (IsMarked v × IsRead v.reads s) ⊎ (IsUnmarked v × (s ≡ new_store no_secret s.journal))

-- the machine of the store's records, and the one that answers calls, are the one for which the disk stood
pub record Has (v : View) (s : Seen) (m : Machine) : Type 0 where
  pub records : recorded v s ≡ m
  pub answers : running v s ≡ m
