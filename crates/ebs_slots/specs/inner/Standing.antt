-- Beside what is promised: what stands in slots.
use Rattle.std.specs.Prelude.{ℕ, ◌+◌, ◌<◌, ◌≤◌, ◌≡◌, List, true, Some, ◌==◌, if◌then◌else◌, length}
use Rattle.std.specs.FinMap as map
use Rattle.sha2.specs.Sha256.{sha256}
use Rattle.ebs_world.specs.declared.area.Area.{Area}
use Rattle.ebs_world.specs.Image.{Image, Spells}
use Rattle.ebs_world.specs.View.{View, Ran}
use Rattle.ebs_slots.specs.Slots.{start_of, OffSlot, IsBlock}
use Rattle.ebs_slots.specs.inner.Slots.{SlotTable, IsFree}

-- the bytes of a slot
abbrev pub IsInSlot : Area → ℕ → ℕ → Type 0
IsInSlot area slot i = (start_of area slot ≤ i) × (i < start_of area slot + 524288)

-- a block is read in the slot, and whatever a crash leaves has it there
pub record Lies (v : View) (area : Area) (slot : ℕ) (bytes : List ℕ) : Type 0 where
  pub reads : v.tells ≡ true → IsBlock v.reads area slot bytes
  pub images : v.tells ≡ true → v.honest ≡ true → (c : Image) → v.may_leave c → IsBlock c area slot bytes

-- each key and each lease has a block, these bytes by slot, and a lease its digest
pub record EachIn (c : Image) (s : SlotTable) (bytes : ℕ → List ℕ) : Type 0 where
  pub keyed : (key slot : ℕ) → map.get s.keys key ≡ Some slot → IsBlock c s.area slot (bytes slot)
  pub leased : (slot : ℕ) (digest : List ℕ) → map.get s.leases slot ≡ Some digest → IsBlock c s.area slot (bytes slot) × (digest ≡ sha256 (bytes slot))

-- that is read, and whatever a crash leaves has it
pub record AllStand (v : View) (s : SlotTable) (bytes : ℕ → List ℕ) : Type 0 where
  pub reads : v.tells ≡ true → EachIn v.reads s bytes
  pub images : v.tells ≡ true → v.honest ≡ true → (c : Image) → v.may_leave c → EachIn c s bytes

-- these bytes by slot, and the block in this one
abbrev pub with_block : (ℕ → List ℕ) → ℕ → List ℕ → ℕ → List ℕ
with_block bytes slot block n = if n == slot then block else bytes n

-- a read of the key's slot gives these bytes
pub record IsRead (v : View) (s : SlotTable) (key : ℕ) (bytes : List ℕ) : Type 0 where
  pub size : length bytes ≡ 524288
  pub read : (slot : ℕ) → map.get s.keys key ≡ Some slot → v.tells ≡ true → Spells (v.reads s.area) (start_of s.area slot) bytes

-- a run of calls changed nothing but in one slot that no key and no lease had
pub record RanOffOne (s : SlotTable) (old new : View) : Type 0 where
  pub slot : ℕ
  pub free : IsFree s slot
  pub ran : Ran (OffSlot s.area slot) old new
