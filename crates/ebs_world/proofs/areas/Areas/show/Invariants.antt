use Rattle.std.proofs.Common.{◌≡◌, ◌+◌, ◌<◌, ℕ, get_or}
use Rattle.ebs_world.specs.inner.Held.{shown}
use Rattle.ebs_world.proofs.areas.Areas.show.Given as goal

abbrev pub invariant-loop-j : goal.invariant-loop-j
invariant-loop-j l = (k : ℕ) → k < l.j → get_or l.room k 0 ≡ shown l.self l.area (l.at + k)
