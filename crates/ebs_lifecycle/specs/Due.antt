-- What the due moments of a policy are (Amazon Data Lifecycle Manager, schedules).
use Rattle.std.specs.Prelude.{◌≡◌, ℕ, ◌+◌, ◌*◌, ◌≤◌}
use Rattle.ebs_model.specs.declared.policy.Policy.{Policy}
use Rattle.ebs_model.specs.Policies.{interval}

-- a whole number of intervals after the time of day
abbrev pub IsDue : Policy → ℕ → Type 0
IsDue p m = (n : ℕ) × (m ≡ p.at + n * interval p)

-- the latest due moment that isn't after now
abbrev pub IsLatestDue : Policy → ℕ → ℕ → Type 0
IsLatestDue p now m = IsDue p m × (m ≤ now) × ((other : ℕ) → IsDue p other → other ≤ now → other ≤ m)

-- no due moment is above one moment and at most another
abbrev pub NoneIsDue : Policy → ℕ → ℕ → Type 0
NoneIsDue p since now = (m : ℕ) → IsDue p m → m ≤ now → m ≤ since
