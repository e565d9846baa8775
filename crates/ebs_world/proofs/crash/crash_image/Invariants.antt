use Rattle.std.proofs.Common.{◌≡◌, ℕ, length}
use Rattle.ebs_world.specs.declared.area.Area.{Area}
use Rattle.ebs_world.specs.inner.Held.{shown}
use Rattle.ebs_world.specs.inner.Log.{State, replay, present}
use Rattle.ebs_world.specs.inner.Crash.{picked}
use Rattle.ebs_world.proofs.crash.crash_image.Given as goal

-- some state is what is read and what a crash leaves so far, and goes on to that after all calls
abbrev pub invariant-loop-rest : goal.invariant-loop-rest
invariant-loop-rest l = (s : State) × ((a : Area) (i : ℕ) → shown l.now a i ≡ s.now a i) × ((a : Area) (i : ℕ) → shown l.image a i ≡ picked l.pick s a i)
    × (replay s l.rest ≡ present (shown l.fn.first) l.fn.steps)

abbrev pub decreases-loop-rest : goal.decreases-loop-rest
decreases-loop-rest l = length l.rest
