-- Beside what is promised: what an image of the disk stands for.
use Rattle.std.specs.FinMap as fin
use Rattle.std.specs.declared.cmp.Ordering.{Ordering}
use Rattle.ebs_world.specs.Image.{Image}
use Rattle.ebs_model.specs.declared.keys.SnapKey.{SnapKey}
use Rattle.ebs_model.specs.declared.keys.VolKey.{VolKey}
use Rattle.ebs_model.specs.Arrays.{WholeBlock, WholeArray}
use Rattle.ebs_model.specs.Time.{Snapshot}
use Rattle.ebs_model.specs.Machine.{Machine}
use Rattle.ebs_recovery.specs.Made.{SlotOfStamp}
use Rattle.ebs_recovery.specs.Stands.{Holder, snapshot, volume, EachEntry, place_of, bytes_at}
use Rattle.std.specs.Prelude.{ℕ, ◌+◌, List, ◌++◌, map, replicate, ◌≡◌, length}

-- so it is of each block of the machine, whoever has it
abbrev pub EachBlock : (WholeBlock → Type 0) → Machine → Type 0
EachBlock P m = EachEntry (λ key index block. P block) m

-- a finite map with each value replaced by one that its key may choose
unfoldable pub map_entries : {K X Y : Type 0} {R : K → K → Ordering} → (K → X → Y) → fin.FinMap R X → fin.FinMap R Y
map_entries f m = fin.from_entries (map (λ e. (e.0, f e.0 e.1)) (fin.entries m))

-- ---- the machine of a kept form, with the bytes that stand in the places of its blocks

abbrev pub refilled_block : Image → SlotOfStamp → Holder → ℕ → WholeBlock → WholeBlock
refilled_block c slots key index block = record block { bytes = bytes_at c (place_of slots key index block) }

abbrev pub refilled_array : Image → SlotOfStamp → Holder → WholeArray → WholeArray
refilled_array c slots key array = map_entries (refilled_block c slots key) array

abbrev pub refilled_snapshot : Image → SlotOfStamp → SnapKey → Snapshot → Snapshot
refilled_snapshot c slots key s = record { row = s.row; array = refilled_array c slots (snapshot key) s.array }

abbrev pub refilled_disk : Image → SlotOfStamp → VolKey → WholeArray → WholeArray
refilled_disk c slots key array = refilled_array c slots (volume key) array

abbrev pub refilled : Image → SlotOfStamp → Machine → Machine
refilled c slots m = record m { snaps = map_entries (refilled_snapshot c slots) m.snaps; disks = map_entries (refilled_disk c slots) m.disks }

-- the checkpoint of the empty machine with this secret: clock, changes, next stamp and next copy are 0 in eight bytes
-- each, and behind the secret eight lists are empty, each with its count in four bytes
unfoldable pub first_checkpoint : List ℕ → List ℕ
first_checkpoint secret = replicate 32 0 ++ (secret ++ replicate 32 0)

abbrev pub IsSecret : List ℕ → Type 0
IsSecret secret = length secret ≡ 32
