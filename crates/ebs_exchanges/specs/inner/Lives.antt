-- Beside what is promised: the life of a disk: what was called in the runs of the program over it, one after the other, and how they stopped.
use Rattle.std.specs.Prelude.{◌≡◌, ◌≤◌}
use Rattle.ebs_model.specs.declared.keys.Moment.{Moment}
use Rattle.ebs_model.specs.Machine.{Machine, advance}

-- a machine, or what time leaves of it at a later moment
pub data IsLater (m later : Machine) : Type 0 where
  same : later ≡ m → IsLater m later
  moved : (at : Moment) → m.clock.second ≤ at.second → later ≡ advance m at → IsLater m later
