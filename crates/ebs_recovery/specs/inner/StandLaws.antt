-- The laws of what images stand for.
use Rattle.std.specs.Prelude.{◌≡◌, Some, ℕ, List, []}
use Rattle.ebs_world.specs.declared.area.Area.{Area}
use Rattle.ebs_world.specs.declared.area.Area.TheVariants.{Archive}
use Rattle.ebs_journal.specs.Opening.{IsJournal}
use Rattle.ebs_world.specs.Image.{Image}
use Rattle.ebs_model.specs.Machine.{Machine, empty_machine, advance}
use Rattle.ebs_recovery.specs.Made.{SlotOfStamp}
use Rattle.ebs_recovery.specs.Stands.{EachEntry, HasBlock, bytes_at, no_secret, Stands}
use Rattle.ebs_recovery.specs.inner.Stands.{first_checkpoint, IsSecret, refilled}
use Rattle.ebs_model.specs.inner.Kept.{digested}
use Rattle.ebs_slots.specs.Slots.{IsBlock}

-- the machine is its kept form, with the bytes that stand in the places of its blocks
abbrev pub KeptFormRefilled : Type 0
KeptFormRefilled = (c : Image) (slots : SlotOfStamp) (m : Machine) → EachEntry (HasBlock c slots) m → refilled c slots (digested m) ≡ m

-- the bytes in a slot are those of the block that stands there
abbrev pub BytesInSlot : Type 0
BytesInSlot = (c : Image) (area : Area) (slot : ℕ) (bytes : List ℕ) → IsBlock c area slot bytes → bytes_at c (Some (area, slot)) ≡ bytes

-- before a store is made, and once it was made, an image stands for an empty machine
abbrev pub UnmadeStands : Type 0
UnmadeStands = (c : Image) → c Archive 0 ≡ 0 → Stands c (empty_machine no_secret)

abbrev pub NewStands : Type 0
NewStands = (c : Image) (area : Area) (epoch : ℕ) (secret : List ℕ) → IsSecret secret → IsJournal c area epoch (first_checkpoint secret) [] → Stands c (empty_machine secret)

-- an image stands for one machine
abbrev pub OneMachine : Type 0
OneMachine = (c : Image) (m n : Machine) → Stands c m → Stands c n → m ≡ n

-- time has passed for it at its clock
abbrev pub StandingRests : Type 0
StandingRests = (c : Image) (m : Machine) → Stands c m → advance m m.clock ≡ m
