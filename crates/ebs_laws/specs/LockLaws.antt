-- The lock of a snapshot, in fields of its row.
use Rattle.std.specs.Prelude.{◌≡◌, ℕ, ◌+◌, ◌*◌, ◌<◌, ◌≤◌, true, List, [], ◌∷◌}
use Rattle.std.specs.FinMap as fin
use Rattle.std.specs.declared.option.Option.{Option}
use Rattle.std.specs.declared.option.Option.TheVariants.{None, Some}
use Rattle.ebs_model.specs.declared.keys.SnapKey.{SnapKey}
use Rattle.ebs_model.specs.declared.keys.Moment.{Moment}
use Rattle.ebs_model.specs.declared.rows.LockState.{LockState}
use Rattle.ebs_model.specs.declared.rows.LockState.TheVariants as state
use Rattle.ebs_model.specs.declared.lock.LockMode.{LockMode}
use Rattle.ebs_model.specs.declared.lock.LockMode.TheVariants.{Governance, Compliance}
use Rattle.ebs_model.specs.declared.lock.Term.{Term}
use Rattle.ebs_model.specs.declared.lock.Term.TheVariants.{Days, Date}
use Rattle.ebs_model.specs.declared.request.Request.{Request}
use Rattle.ebs_model.specs.declared.request.Request.TheVariants.{LockSnapshot, UnlockSnapshot}
use Rattle.ebs_model.specs.Arrays.{WholeArray}
use Rattle.ebs_model.specs.Time.{Snapshot}
use Rattle.ebs_model.specs.Machine.{Machine, advance}
use Rattle.ebs_model.specs.Step.{step}
use Rattle.ebs_laws.specs.Words.{second_of, moment_at}
use Rattle.ebs_model.specs.Timed.{Timed, turn, after_all}
use Rattle.ebs_laws.specs.Uploads.{NumbersGiven}
use Rattle.ebs_laws.specs.OneRow.{WritesRow}

-- a lock, in whatever mode, whose end lies ahead
abbrev pub IsLocked : LockState → ℕ → Type 0
IsLocked state.None now = ⊥
IsLocked (state.Governance until) now = now < until.second
IsLocked (state.Compliance until cool_end) now = now < until.second

-- a completed snapshot outside the bin with these blocks
pub record Stands (m : Machine) (key : SnapKey) (array : WholeArray) : Type 0 where
  pub found : Snapshot
  pub is_there : fin.get m.snaps key ≡ Some found
  pub completed : found.row.completed ≡ true
  pub not_binned : found.row.bin_end ≡ None
  pub blocks : found.array ≡ array

-- its lock ends after this second
abbrev pub LockLasts : Machine → SnapKey → ℕ → Type 0
LockLasts m key now = (s : Snapshot) → fin.get m.snaps key ≡ Some s → IsLocked s.row.lock now

-- no call takes it out, nor any of its blocks
abbrev pub LockedIsKept : Type 0
LockedIsKept =
    (m : Machine) (account : ℕ) (reading : Moment) (request : Request) (key : SnapKey) (array : WholeArray)
    → NumbersGiven m → Stands m key array → LockLasts m key (second_of m reading) → Stands (step m account reading request).0 key array

-- at each call of a run the lock that there is then ends later
abbrev pub IsLockedThrough : SnapKey → Machine → List Timed → Type 0
IsLockedThrough key m [] = Unit {0}
IsLockedThrough key m (t ∷ ts) = LockLasts m key (second_of m t.reading) × IsLockedThrough key (turn m t).0 ts

abbrev pub RunKeepsLocked : Type 0
RunKeepsLocked =
    (m : Machine) (turns : List Timed) (key : SnapKey) (array : WholeArray)
    → NumbersGiven m → Stands m key array → IsLockedThrough key m turns → Stands (after_all m turns) key array

-- its lock is in compliance with this end of the cool-off, until this second or later
pub record IsInCompliance (m : Machine) (key : SnapKey) (array : WholeArray) (until : ℕ) (cool_end : Moment) : Type 0 where
  pub stands : Stands m key array
  pub end : Moment
  pub lock_is : stands.found.row.lock ≡ state.Compliance end cool_end
  pub no_earlier : until ≤ end.second

-- each call of a run is at one of these seconds
abbrev pub AreCalledBetween : ℕ → ℕ → Machine → List Timed → Type 0
AreCalledBetween from until m [] = Unit {0}
AreCalledBetween from until m (t ∷ ts) = (from ≤ second_of m t.reading) × (second_of m t.reading < until) × AreCalledBetween from until (turn m t).0 ts

-- from the end of its cool-off on, until its own, whoever calls what
abbrev pub ComplianceIsKept : Type 0
ComplianceIsKept =
    (m : Machine) (turns : List Timed) (key : SnapKey) (array : WholeArray) (until : ℕ) (cool_end : Moment)
    → NumbersGiven m → IsInCompliance m key array until cool_end → AreCalledBetween cool_end.second until m turns → IsInCompliance (after_all m turns) key array until cool_end

-- the date, or so many days of 86400 seconds from this second on
abbrev pub term_end : Term → ℕ → Moment
term_end (Days days) now = record { second = now + 86400 * days }
term_end (Date date) now = date

-- so many hours of 3600 seconds from this second on; at once without any
abbrev pub cool_off_end : Option ℕ → ℕ → Moment
cool_off_end None now = record { second = now }
cool_off_end (Some hours) now = record { second = now + 3600 * hours }

abbrev pub lock_for : LockMode → Moment → Moment → LockState
lock_for Governance until cool_end = state.Governance until
lock_for Compliance until cool_end = state.Compliance until cool_end

-- in compliance, cooled off, and not ended
abbrev pub IsFast : LockState → ℕ → Type 0
IsFast state.None now = ⊥
IsFast (state.Governance until) now = ⊥
IsFast (state.Compliance until cool_end) now = (cool_end.second ≤ now) × (now < until.second)

-- a lock that is fast was only made longer, by compliance without a cool-off
pub record IsProlonged (old new : LockState) (mode : LockMode) (term : Term) (hours : Option ℕ) (now : ℕ) : Type 0 where
  pub until : Moment
  pub cool_end : Moment
  pub was : old ≡ state.Compliance until cool_end
  pub mode_is : mode ≡ Compliance
  pub no_cool_off : hours ≡ None
  pub later : until.second < (term_end term now).second
  pub is : new ≡ state.Compliance (term_end term now) cool_end

-- the lock that was asked for, and nothing else of the row, is new
pub record IsLockedSo (old new : Machine) (account : ℕ) (key : SnapKey) (mode : LockMode) (term : Term) (hours : Option ℕ) (now : ℕ) : Type 0 where
  pub one : WritesRow old new account key
  pub rest : one.row ≡ record one.found.row { lock = one.row.lock }
  pub anew : (IsFast one.found.row.lock now → ⊥) → one.row.lock ≡ lock_for mode (term_end term now) (cool_off_end hours now)
  pub longer : IsFast one.found.row.lock now → IsProlonged one.found.row.lock one.row.lock mode term hours now
  pub bounds : (date : Moment) → term ≡ Date date → (now + 86400 ≤ date.second) × (date.second ≤ now + 36500 * 86400)

abbrev pub LockIsAsAsked : Type 0
LockIsAsAsked =
    (m : Machine) (account : ℕ) (reading : Moment) (key : SnapKey) (mode : LockMode) (term : Term) (hours : Option ℕ) → let s = step m account reading (LockSnapshot key mode term hours) in
    s.0.changes ≡ m.changes + 1 → IsLockedSo (advance m (moment_at m reading)) s.0 account key mode term hours (second_of m reading)

-- in governance, or in compliance while it cools off, and not ended
abbrev pub IsLoose : LockState → ℕ → Type 0
IsLoose state.None now = ⊥
IsLoose (state.Governance until) now = now < until.second
IsLoose (state.Compliance until cool_end) now = (now < cool_end.second) × (now < until.second)

-- a loose lock was taken off, and nothing else of the row is new
pub record IsUnlockedSo (old new : Machine) (account : ℕ) (key : SnapKey) (now : ℕ) : Type 0 where
  pub one : WritesRow old new account key
  pub rest : one.row ≡ record one.found.row { lock = state.None }
  pub was_loose : IsLoose one.found.row.lock now

abbrev pub UnlockIsAsAsked : Type 0
UnlockIsAsAsked =
    (m : Machine) (account : ℕ) (reading : Moment) (key : SnapKey) → let s = step m account reading (UnlockSnapshot key) in
    s.0.changes ≡ m.changes + 1 → IsUnlockedSo (advance m (moment_at m reading)) s.0 account key (second_of m reading)
