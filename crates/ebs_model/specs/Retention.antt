-- The calendar, and how long snapshots of a policy are kept.
use Rattle.std.specs.Prelude.{ℕ, pos, ◌+◌, nat_lt, if◌then◌else◌, zero, suc, min, ◌-◌, ◌*◌, ◌/◌, ◌%◌, unsigned_abs, Bool, List, false, nat_le, ◌&&◌, not}
use Rattle.std.specs.List.{count_by}
use Rattle.std.specs.Ordering.{nat_cmp, ordering_then, is_lt}
use Rattle.jiff_core.specs.Calendar.{days_in_month, days_from_civil}
use Rattle.ebs_model.specs.declared.policy.Made.{Made}
use Rattle.ebs_model.specs.declared.policy.Retain.{Retain}
use Rattle.ebs_model.specs.declared.policy.Retain.TheVariants.{Count, Days, Weeks, Months, Years}
use Rattle.ebs_model.specs.Keys.{snap_cmp}

pub record Day : Type 0 where
  pub year : ℕ
  pub month : ℕ
  pub day : ℕ

-- the days of its month
abbrev pub month_length : ℕ → ℕ → ℕ
month_length year month = days_in_month (pos year) month

abbrev pub next_day : Day → Day
next_day d =
    if nat_lt d.day (month_length d.year d.month) then record { year = d.year; month = d.month; day = d.day + 1 }
    else (if nat_lt d.month 12 then record { year = d.year; month = d.month + 1; day = 1 } else record { year = d.year + 1; month = 1; day = 1 })

-- so many days after 1 January 1970
unfoldable pub day_after : ℕ → Day
day_after zero = record { year = 1970; month = 1; day = 1 }
day_after (suc n) = next_day (day_after n)

-- the same day of a month, or the month's last where it is shorter
abbrev pub day_of : ℕ → ℕ → ℕ → Day
day_of year month day = record { year = year; month = month; day = min day (month_length year month) }

-- months since January of the year 0
abbrev pub month_number : Day → ℕ
month_number d = 12 * d.year + (d.month - 1)

-- the same day so many months later
abbrev pub months_later : ℕ → Day → Day
months_later n d = day_of ((month_number d + n) / 12) ((month_number d + n) % 12 + 1) d.day

-- how many days after 1 January 1970 it is
abbrev pub number_of : Day → ℕ
number_of d = unsigned_abs (days_from_civil (pos d.year) d.month d.day)

-- the second that has the same time of day so many months later
abbrev pub months_after : ℕ → ℕ → ℕ
months_after start n = 86400 * number_of (months_later n (day_after (start / 86400))) + start % 86400

-- the first is older than the second: by start, then by key
abbrev pub is_before : Made → Made → Bool
is_before a b = is_lt (ordering_then (nat_cmp a.start.second b.start.second) (snap_cmp a.key b.key))

-- how many of them are newer
abbrev pub newer : List Made → Made → ℕ
newer made m = count_by (λ other. is_before m other) made

-- it has reached its age; under a count it has none
abbrev pub is_aged : Retain → ℕ → Made → Bool
is_aged (Count n) now m = false
is_aged (Days n) now m = nat_le (m.start.second + 86400 * n) now
is_aged (Weeks n) now m = nat_le (m.start.second + 604800 * n) now
is_aged (Months n) now m = nat_le (months_after m.start.second n) now
is_aged (Years n) now m = nat_le (months_after m.start.second (12 * n)) now

-- under a count those with as many newer ones or more, else those that have their age
abbrev pub is_picked : Retain → List Made → ℕ → Made → Bool
is_picked (Count n) made now m = nat_le n (newer made m)
is_picked (Days n) made now m = is_aged (Days n) now m
is_picked (Weeks n) made now m = is_aged (Weeks n) now m
is_picked (Months n) made now m = is_aged (Months n) now m
is_picked (Years n) made now m = is_aged (Years n) now m

-- a picked one under a lock is released from the policy
abbrev pub is_released : Retain → List Made → ℕ → Made → Bool
is_released retain made now m = is_picked retain made now m && m.locked

-- and is deleted where it has no lock and stands in the standard tier
abbrev pub is_ended : Retain → List Made → ℕ → Made → Bool
is_ended retain made now m = is_picked retain made now m && (not m.locked && not m.archived)
