-- A disk in memory, as its users see it.
use Rattle.std.specs.Prelude.{ℕ}
use Rattle.ebs_world.specs.declared.area.Area.{Area}
use Rattle.ebs_world.specs.declared.memory_disk.MemoryDisk.{MemoryDisk}
use Rattle.ebs_world.specs.View.{View}
use Rattle.ebs_world.specs.inner.Fails.{Plan, plan}
use Rattle.ebs_world.specs.inner.Log.{State}
use Rattle.ebs_world.specs.inner.Logged.{log_view, log_end, log_state}

abbrev pub disk_view : MemoryDisk → View
disk_view d = log_view d.log d.faults

-- the calls that fail
abbrev pub disk_plan : MemoryDisk → Plan
disk_plan d = plan d.fails

-- where an area ends
abbrev pub disk_end : MemoryDisk → Area → ℕ
disk_end d a = log_end d.log a

-- what was read, kept and not synced at one of its moments
abbrev pub disk_state : MemoryDisk → ℕ → State
disk_state d moment = log_state d.log moment
