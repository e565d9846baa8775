-- The laws of slots.
use Rattle.std.specs.Prelude.{◌≡◌, ℕ, List, ◌≢◌, Some}
use Rattle.std.specs.FinMap as map
use Rattle.sha2.specs.Sha256.{sha256}
use Rattle.ebs_world.specs.declared.area.Area.{Area}
use Rattle.ebs_world.specs.declared.area.Area.TheVariants.{Archive}
use Rattle.ebs_world.specs.Image.{Image, Keeps}
use Rattle.ebs_slots.specs.Slots.{OffSlot, IsBlock}
use Rattle.ebs_slots.specs.inner.Slots.{SlotTable, IsFree, staged, adopted, abandoned, placed, forgotten, released}
use Rattle.ebs_slots.specs.inner.Standing.{IsInSlot, EachIn, with_block}

-- no byte of an area is in two slots
abbrev pub SlotsAreApart : Type 0
SlotsAreApart = (area : Area) (m n i : ℕ) → IsInSlot area m i → IsInSlot area n i → m ≡ n

-- the mark, byte 0 of the archive, is off each slot of each area
abbrev pub MarkIsOffSlots : Type 0
MarkIsOffSlots = (area : Area) (slot : ℕ) → OffSlot area slot Archive 0

-- one block stands in a slot
abbrev pub OneBlockStands : Type 0
OneBlockStands = (c : Image) (area : Area) (slot : ℕ) (xs ys : List ℕ) → IsBlock c area slot xs → IsBlock c area slot ys → xs ≡ ys

-- a write in another slot leaves a block
abbrev pub OtherSlotStays : Type 0
OtherSlotStays = (c d : Image) (area : Area) (slot other : ℕ) (bytes : List ℕ) → slot ≢ other → Keeps (OffSlot area other) c d
    → IsBlock c area slot bytes → IsBlock d area slot bytes

-- each block stands while a free slot is written, and the new one beside them afterwards
abbrev pub StagingKeepsBlocks : Type 0
StagingKeepsBlocks = (c d : Image) (s : SlotTable) (bytes : ℕ → List ℕ) (slot : ℕ) → IsFree s slot → Keeps (OffSlot s.area slot) c d → EachIn c s bytes
    → EachIn d s bytes × ((block : List ℕ) → IsBlock d s.area slot block → EachIn d (staged s slot (sha256 block)) (with_block bytes slot block))

-- a key has the block that was under lease
abbrev pub AdoptingKeepsBlocks : Type 0
AdoptingKeepsBlocks = (c : Image) (s : SlotTable) (bytes : ℕ → List ℕ) (slot key : ℕ) (digest : List ℕ) → map.get s.leases slot ≡ Some digest
    → EachIn c s bytes → EachIn c (adopted s slot key) bytes

abbrev pub AbandoningKeepsBlocks : Type 0
AbandoningKeepsBlocks = (c : Image) (s : SlotTable) (bytes : ℕ → List ℕ) (slot : ℕ) → EachIn c s bytes → EachIn c (abandoned s slot) bytes

-- a key is given a block that stands
abbrev pub PlacingKeepsBlocks : Type 0
PlacingKeepsBlocks = (c : Image) (s : SlotTable) (bytes : ℕ → List ℕ) (key slot : ℕ) → EachIn c s bytes → IsBlock c s.area slot (bytes slot)
    → EachIn c (placed s key slot) bytes

-- a key loses its slot
abbrev pub ForgettingKeepsBlocks : Type 0
ForgettingKeepsBlocks = (c : Image) (s : SlotTable) (bytes : ℕ → List ℕ) (key : ℕ) → EachIn c s bytes → EachIn c (forgotten s key) bytes

-- an entry less has the block of a key
abbrev pub ReleasingKeepsBlocks : Type 0
ReleasingKeepsBlocks = (c : Image) (s : SlotTable) (bytes : ℕ → List ℕ) (key : ℕ) → EachIn c s bytes → EachIn c (released s key) bytes
