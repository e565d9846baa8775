-- The listener in memory, as its users see it.
use Rattle.std.specs.Prelude.{List, [], ◌∷◌, ◌≡◌}
use Rattle.ebs_world.specs.inner.Fails.{Plan}
use Rattle.ebs_doors.specs.Doors.{Door}
use Rattle.ebs_doors.specs.declared.memory.MemoryListener.{MemoryListener}
use Rattle.ebs_doors.specs.declared.listener.Accepted.{Accepted}
use Rattle.ebs_doors.specs.declared.listener.Accepted.TheVariants.{Connection, Closed, Failed}

-- the connections that wait, in their order, and the calls that fail
pub record Waiting (C : Type 0) : Type 0 where
  pub left : List C
  pub plan : Plan

module _ {C : Type 0} where
  abbrev pub waiting : MemoryListener C → Waiting C
  waiting l = record { left = l.left.items; plan = record { fail = l.fail.items; calls = l.calls } }

  abbrev pub shown : MemoryListener C → Door
  shown l = record { closed = l.closed; faults = l.faults }

  -- the first of those that wait was given, or none was left, or nothing was given
  abbrev pub Gave : List C → List C → Accepted C → Type 0
  Gave old new (Connection conn) = old ≡ conn ∷ new
  Gave old new Closed = (old ≡ []) × (new ≡ [])
  Gave old new Failed = new ≡ old

  abbrev pub IsFailed : Accepted C → Type 0
  IsFailed (Connection conn) = ⊥
  IsFailed Closed = ⊥
  IsFailed Failed = Unit {0}
