-- What due moments are to each other.
use Rattle.std.specs.Prelude.{◌≡◌, ℕ, ◌+◌, ◌*◌, ◌<◌, ◌≤◌, true, false}
use Rattle.ebs_model.specs.declared.policy.Policy.{Policy}
use Rattle.ebs_model.specs.Policies.{interval, latest_due, is_due}
use Rattle.ebs_lifecycle.specs.Due.{IsDue, IsLatestDue, NoneIsDue}

-- a due moment has come since where the latest one is later, and else none has
abbrev pub LatestIsDue : Type 0
LatestIsDue =
    (p : Policy) (since now : ℕ) → 1 ≤ p.hours
    → (is_due p since now ≡ true → IsLatestDue p now (latest_due p now) × (since < latest_due p now)) × (is_due p since now ≡ false → NoneIsDue p since now)

-- two due moments are a whole number of intervals apart
abbrev pub AreWholeIntervalsApart : Type 0
AreWholeIntervalsApart = (p : Policy) (m later : ℕ) → IsDue p m → IsDue p later → m ≤ later → (n : ℕ) × (later ≡ m + n * interval p)

-- an interval after a due moment comes the next one, and none between
abbrev pub NextIsAnIntervalLater : Type 0
NextIsAnIntervalLater = (p : Policy) (m : ℕ) → IsDue p m → IsDue p (m + interval p) × ((now : ℕ) → now < m + interval p → NoneIsDue p m now)

-- where the hours divide the day, a policy is due at the same times every day
abbrev pub IsDueEachDay : Type 0
IsDueEachDay = (p : Policy) (n m : ℕ) → n * p.hours ≡ 24 → IsDue p m → IsDue p (m + 86400)
