-- What the turn of a task did to the disk.
use Rattle.std.proofs.Common.{◌≡◌}
use Rattle.ebs_world.specs.Image.{Everywhere}
use Rattle.ebs_world.specs.View.{View, Ran}
use Rattle.ebs_world.specs.inner.Runs.{ran_weaker}
use Rattle.ebs_journal.specs.Opening.{OffJournal}
use Rattle.ebs_slots.specs.inner.Slots.{SlotTable}
use Rattle.ebs_recovery.specs.inner.Fits.{Seen}
use Rattle.ebs_turns.specs.declared.line.Deed.TheVariants.{Nothing}
use Rattle.ebs_desk.specs.declared.item.Item.{Item}
use Rattle.ebs_desk.specs.declared.task.Task.{Task}
use Rattle.ebs_desk.specs.declared.task.Task.TheVariants.{Put, Fetch, Call}
use Rattle.ebs_desk.specs.Tasks.{RanFor}
use Rattle.ebs_desk.specs.Turns.{Goes}
use Rattle.ebs_desk.proofs.Leases.{MovesLeases, idle, idle_off}

pub goes_for : (task : Task) (slots : SlotTable) (old new : View) → RanFor task slots old new → Goes old new
goes_for (Put head block) slots old new ran = record { told = ran.ran.told; honest = ran.ran.kept_honest; count = ran.ran.count }
goes_for (Fetch request) slots old new ran = record { told = ran.told; honest = ran.kept_honest; count = ran.count }
goes_for (Call request) slots old new ran = record { told = ran.ran.told; honest = ran.ran.kept_honest; count = ran.ran.count }

pub moves_for : {D : Type 0} (task : Task) (old new : View) (s t : Seen) (item : Item D) → RanFor task s.slots old new → t.slots.leases ≡ s.slots.leases → MovesLeases old new s t item Nothing
moves_for (Put head block) old new s t item ran same = idle old new s t item ran.slot ran.free ran.ran same
moves_for (Fetch request) old new s t item ran same = idle_off old new s t item (ran_weaker Everywhere OffJournal old new (λ a i here. tt) ran) same
moves_for (Call request) old new s t item ran same = idle old new s t item ran.slot ran.free ran.ran same
