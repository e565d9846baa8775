-- Slots, and what stands in them.
use Rattle.std.specs.Prelude.{ℕ, ◌+◌, ◌*◌, ◌≡◌, List, length}
use Rattle.ebs_world.specs.Image.{Places, IsOutside, Image, Spells}
use Rattle.ebs_world.specs.declared.area.Area.{Area}
use Rattle.ebs_world.specs.declared.area.Area.TheVariants.{Archive}

-- the byte at which a slot of the area begins. Byte 0 of the archive is the mark that says that a store was made, so the slots
-- there begin one block later
abbrev pub start_of : Area → ℕ → ℕ
start_of Archive slot = 524288 * (slot + 1)
start_of area slot = 524288 * slot

-- all places but those of the slot
abbrev pub OffSlot : Area → ℕ → Places
OffSlot area slot = IsOutside area (start_of area slot) 524288

-- a block stands in the slot
pub record IsBlock (c : Image) (area : Area) (slot : ℕ) (bytes : List ℕ) : Type 0 where
  pub size : length bytes ≡ 524288
  pub stands : Spells (c area) (start_of area slot) bytes
