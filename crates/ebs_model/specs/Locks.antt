-- What a command makes of a snapshot's lock (EBS User Guide, snapshot lock).
use Rattle.std.specs.Prelude.{ℕ, ◌+◌, ◌*◌, Bool, false, ◌||◌, nat_lt, unwrap_or, Option, true, if◌then◌else◌, Result, Ok, Err, nat_le, is_some}
use Rattle.ebs_model.specs.declared.keys.Moment.{Moment}
use Rattle.ebs_model.specs.declared.rows.LockState.{LockState}
use Rattle.ebs_model.specs.declared.rows.LockState.TheVariants as state
use Rattle.ebs_model.specs.declared.lock.LockMode.{LockMode}
use Rattle.ebs_model.specs.declared.lock.LockMode.TheVariants as mode
use Rattle.ebs_model.specs.declared.lock.Term.{Term}
use Rattle.ebs_model.specs.declared.lock.Term.TheVariants.{Days, Date}
use Rattle.ebs_model.specs.declared.lock.LockCommand.{LockCommand}
use Rattle.ebs_model.specs.declared.lock.LockCommand.TheVariants.{Lock, Unlock}
use Rattle.ebs_model.specs.declared.phases.LockPhase.{LockPhase}
use Rattle.ebs_model.specs.declared.phases.LockPhase.TheVariants as phase
use Rattle.ebs_model.specs.declared.lock.LockRefusal.{LockRefusal}
use Rattle.ebs_model.specs.declared.lock.LockRefusal.TheVariants as refusal
use Rattle.ebs_model.specs.Tiers.{lock_state}

-- the date, or so many days from now
abbrev pub end_of : Term → ℕ → Moment
end_of (Days days) now = record { second = now + 86400 * days }
end_of (Date date) now = date

-- a date is at least a day and at most 36500 days from now
abbrev pub is_bad : Term → ℕ → Bool
is_bad (Days days) now = false
is_bad (Date date) now = nat_lt date.second (now + 86400) || nat_lt (now + 36500 * 86400) date.second

-- the cool-off is counted from now
abbrev pub new_lock : LockMode → Moment → Option ℕ → ℕ → LockState
new_lock mode.Governance until cool_hours now = state.Governance until
new_lock mode.Compliance until cool_hours now = state.Compliance until (record { second = now + 3600 * unwrap_or cool_hours 0 })

abbrev pub is_governance : LockMode → Bool
is_governance mode.Governance = true
is_governance mode.Compliance = false

-- a new lock in the place of the old one
abbrev pub replaced : LockMode → Term → Option ℕ → ℕ → Result LockState LockRefusal
replaced mode term cool_hours now = if is_bad term now then Err refusal.BadDate else Ok (new_lock mode (end_of term now) cool_hours now)

-- a lock in compliance is made longer, and is changed in nothing else
abbrev pub prolonged : Moment → Moment → LockMode → Term → Option ℕ → ℕ → Result LockState LockRefusal
prolonged until cool_end mode term cool_hours now =
    if is_governance mode || (is_some cool_hours || nat_le (end_of term now).second until.second) then Err (refusal.Locked until)
    else (if is_bad term now then Err refusal.BadDate else Ok (state.Compliance (end_of term now) cool_end))

abbrev pub is_compliance : LockPhase → Bool
is_compliance phase.Unlocked = false
is_compliance phase.Governance = false
is_compliance phase.CoolOff = false
is_compliance phase.Compliance = true
is_compliance phase.Expired = false

abbrev pub lock : LockState → LockMode → Term → Option ℕ → ℕ → Result LockState LockRefusal
lock state.None mode term cool_hours now = replaced mode term cool_hours now
lock (state.Governance until) mode term cool_hours now = replaced mode term cool_hours now
lock (state.Compliance until cool_end) mode term cool_hours now =
    if is_compliance (lock_state (state.Compliance until cool_end) now) then prolonged until cool_end mode term cool_hours now else replaced mode term cool_hours now

-- in governance and while it cools off a lock is taken off
abbrev pub unlock_by : LockPhase → Moment → Result LockState LockRefusal
unlock_by phase.Unlocked until = Err refusal.Unlocked
unlock_by phase.Expired until = Err refusal.Unlocked
unlock_by phase.Governance until = Ok state.None
unlock_by phase.CoolOff until = Ok state.None
unlock_by phase.Compliance until = Err (refusal.Locked until)

abbrev pub unlock : LockState → ℕ → Result LockState LockRefusal
unlock state.None now = Err refusal.Unlocked
unlock (state.Governance until) now = unlock_by (lock_state (state.Governance until) now) until
unlock (state.Compliance until cool_end) now = unlock_by (lock_state (state.Compliance until cool_end) now) until

abbrev pub lock_change : LockState → LockCommand → ℕ → Result LockState LockRefusal
lock_change state (Lock mode term cool_hours) now = lock state mode term cool_hours now
lock_change state Unlock now = unlock state now
