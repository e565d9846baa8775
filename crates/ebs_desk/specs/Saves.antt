-- What a saving makes of the store, and what its turn leaves.
use Rattle.std.specs.Prelude.{ℕ, ◌≡◌, ◌<◌, ◌⊎◌, Result, Ok, Err}
use Rattle.std.specs.declared.snapshot.Snapshot.{Snapshot}
use Rattle.ebs_world.specs.View.{View}
use Rattle.ebs_recovery.specs.inner.Fits.{Seen, recorded, running}
use Rattle.ebs_disk_store.specs.declared.pointing.StoreStop.{StoreStop}
use Rattle.ebs_disk_store.specs.declared.pointing.StoreStop.TheVariants.{Unavailable, Exhausted, Memory}
use Rattle.ebs_disk_store.specs.inner.Pointed.{IsPointed, Pointed}
use Rattle.ebs_disk_store.specs.inner.Told.{IfSound}
use Rattle.ebs_desk.specs.declared.desk.TurnRefusal.{TurnRefusal}
use Rattle.ebs_desk.specs.declared.desk.TurnRefusal.TheVariants as refusal
use Rattle.ebs_desk.specs.declared.item.Item.{Item}
use Rattle.ebs_desk.specs.declared.item.Item.TheVariants.{Fault, Saving, Full, Blank}

-- a checkpoint was passed over, and nothing was done; or one stands in the place of the records, and what answers calls is recorded
pub data Saves (Still sound : Type 0) (old new : View) (s t : Seen) : Type 0 where
  passed : t ≡ s → Still → Saves Still sound old new s t
  written : IsPointed s t → IfSound sound old (recorded new t ≡ running old s) → Saves Still sound old new s t

-- no record stands behind the checkpoint, or fewer than the least number
abbrev pub IsLow : ℕ → ℕ → Type 0
IsLow least left = (left ≡ 0) ⊎ (left < least)

-- what a saving tells, by its end
abbrev pub SaveTold : Type 0 → Type 0 → View → View → Seen → Seen → ℕ → Result ℕ StoreStop → Type 0
SaveTold Still sound old new s t least (Ok left) = Saves Still sound old new s t × (t.journal.since_checkpoint ≡ left) × IsLow least left
SaveTold Still sound old new s t least (Err stop) = Pointed s t (Err stop)

-- what its turn leaves, by its end: an item, and what is told
abbrev pub IsSaved : {D : Type 0} → Snapshot D → D → Result ℕ StoreStop → Item D × Result (Unit {0}) TurnRefusal → Type 0
IsSaved before disk (Ok count) left = left ≡ (Saving count, Ok tt)
IsSaved {D} before disk (Err Unavailable) left = (after : Snapshot D) × (after.value ≡ disk) × (left ≡ (Fault before after, Err refusal.Unavailable))
IsSaved before disk (Err Exhausted) left = left ≡ (Full, Err refusal.Exhausted)
IsSaved before disk (Err Memory) left = left ≡ (Blank, Err refusal.Memory)
