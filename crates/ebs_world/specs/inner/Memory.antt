-- The forms in memory, as their users see them.
use Rattle.std.specs.Prelude.{ℕ, List, drop, map}
use Rattle.ebs_world.specs.declared.memory.MemorySource.{MemorySource}
use Rattle.ebs_world.specs.declared.memory.MemorySink.{MemorySink}
use Rattle.ebs_world.specs.declared.memory.ListClock.{ListClock}
use Rattle.ebs_world.specs.inner.Fails.{Plan, plan}

-- a source: the bytes that are left, the most that a call hands out, the calls that fail, and how often it has failed
pub record Supply : Type 0 where
  pub left : List ℕ
  pub piece : ℕ
  pub plan : Plan
  pub faults : ℕ

abbrev pub supply : MemorySource → Supply
supply s = record { left = drop s.at s.bytes; piece = s.piece; plan = plan s.fails; faults = s.faults }

-- a sink: the bytes so far, the calls that fail, and how often it has failed
pub record Keeping : Type 0 where
  pub written : List ℕ
  pub plan : Plan
  pub faults : ℕ

abbrev pub keeping : MemorySink → Keeping
keeping s = record { written = s.bytes; plan = plan s.fails; faults = s.faults }

-- the readings that a clock will give
abbrev pub list_left : ListClock → List ℕ
list_left c = map (λ m. m.second) (drop c.at c.list.items)
