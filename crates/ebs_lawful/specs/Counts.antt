-- The clock, and how many changes and blocks there were.
use Rattle.std.specs.Prelude.{◌≤◌}
use Rattle.ebs_model.specs.Quotas.{most_changes}
use Rattle.ebs_model.specs.Machine.{Machine}
use Rattle.ebs_lawful.specs.Ends.{IsMoment}

-- the clock is a moment, no more changes were accepted than a store takes, and each made one stamp at most
pub record HasCounts (m : Machine) : Type 0 where
  pub clock : IsMoment m.clock
  pub changes : m.changes ≤ most_changes
  pub stamps : m.stamps ≤ m.changes
