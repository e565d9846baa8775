-- Beside what is promised: what an opening makes of a journal's records.
use Rattle.std.specs.Prelude.{◌≡◌, ℕ, ◌<◌, ◌≤◌, None, Some}
use Rattle.std.specs.FinMap as fin
use Rattle.ebs_world.specs.declared.area.Area.TheVariants.{Blocks}
use Rattle.ebs_recovery.specs.Made.{State}
use Rattle.ebs_recovery.specs.inner.Fits.{Seen, AgreeOn}
use Rattle.ebs_slots.specs.inner.Slots.{IsApart}

-- a store that was opened by records which give this state
pub record IsOpened (s : Seen) (k : State) : Type 0 where
  pub recorded : s.recorded ≡ k.machine
  pub keys : AgreeOn k.machine s.slots.keys k.slots
  pub area : s.slots.area ≡ Blocks
  pub apart : IsApart s.slots
  pub leases : (slot : ℕ) → fin.get s.slots.leases slot ≡ None
  pub below : (stamp slot : ℕ) → fin.get k.slots stamp ≡ Some slot → slot < s.slots.top
  pub clock : k.machine.clock.second ≤ s.clock.second
  pub pending : s.pending ≡ None
