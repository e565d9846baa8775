-- Which slots are held once nothing waits.
use Rattle.std.specs.Prelude.{ℕ, ◌≡◌, ◌↔◌, Some, IsSome}
use Rattle.std.specs.FinMap as fin
use Rattle.ebs_model.specs.Arrays.{WholeBlock}
use Rattle.ebs_model.specs.Machine.{Machine}
use Rattle.ebs_recovery.specs.Made.{SlotOfStamp}
use Rattle.ebs_recovery.specs.Stands.{Holder, blocks_at}

-- a block of a snapshot or of a volume has the stamp
pub record IsShared (m : Machine) (stamp : ℕ) : Type 0 where
  pub key : Holder
  pub index : ℕ
  pub block : WholeBlock
  pub there : fin.get (blocks_at m key) index ≡ Some block
  pub is : block.stamp ≡ stamp

-- just these stamps have a slot
abbrev pub AreShared : SlotOfStamp → Machine → Type 0
AreShared keys m = (stamp : ℕ) → IsSome (fin.get keys stamp) ↔ IsShared m stamp
