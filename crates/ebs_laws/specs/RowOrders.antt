-- In which order the tests of calls on rows refuse them. Each test stands over fields of the request and of the row.
use Rattle.std.specs.Prelude.{ℕ, ◌+◌, ◌*◌, ◌^◌, Bool, true, false, not, ◌&&◌, ◌||◌, ◌==◌, cond, nat_le, nat_lt, is_some, List, [], ◌∷◌, ◌++◌, length, codes}
use Rattle.std.specs.FinMap as fin
use Rattle.std.specs.declared.option.Option.{Option}
use Rattle.std.specs.declared.option.Option.TheVariants.{None, Some}
use Rattle.ebs_model.specs.declared.keys.SnapKey.{SnapKey}
use Rattle.ebs_model.specs.declared.keys.Moment.{Moment}
use Rattle.ebs_model.specs.declared.rows.SnapRow.{SnapRow}
use Rattle.ebs_model.specs.declared.rows.LockState.{LockState}
use Rattle.ebs_model.specs.declared.rows.LockState.TheVariants as lock
use Rattle.ebs_model.specs.declared.rows.Tier.{Tier}
use Rattle.ebs_model.specs.declared.rows.Tier.TheVariants.{Standard, Archived, Temporary}
use Rattle.ebs_model.specs.declared.lock.LockMode.{LockMode}
use Rattle.ebs_model.specs.declared.lock.LockMode.TheVariants.{Governance, Compliance}
use Rattle.ebs_model.specs.declared.lock.Term.{Term}
use Rattle.ebs_model.specs.declared.lock.Term.TheVariants.{Days, Date}
use Rattle.ebs_model.specs.declared.request.Request.TheVariants.{DescribeSnapshot, DescribeSnapshots, DeleteSnapshot, ModifyPermission, LockSnapshot, UnlockSnapshot, ArchiveSnapshot, RestoreTier}
use Rattle.ebs_model.specs.declared.answer.Kind.TheVariants.{Snapshot as snapshot}
use Rattle.ebs_model.specs.declared.answer.StateName.TheVariants as state
use Rattle.ebs_model.specs.declared.answer.QuotaName.TheVariants.{SharedAccounts}
use Rattle.ebs_model.specs.declared.answer.Spent.TheVariants.{Changes}
use Rattle.ebs_model.specs.declared.answer.Refusal.TheVariants.{BadParameter, Quota, WrongState, NotFound, NotOwner, Locked, Exhausted}
use Rattle.ebs_model.specs.Limits.{are_accounts, are_apart}
use Rattle.ebs_model.specs.Time.{Snapshot}
use Rattle.ebs_model.specs.Machine.{Machine, advance}
use Rattle.ebs_model.specs.Calls.Permission.{permitted}
use Rattle.ebs_model.specs.Step.{step}
use Rattle.ebs_laws.specs.Words.{moment_at}
use Rattle.ebs_laws.specs.OrderLaws.{Tests, first_of, IsRefusedBy, is_late, is_unknown, not_there}

-- DescribeSnapshot: the row alone
abbrev pub describe_tests : ℕ → ℕ → SnapKey → Option Snapshot → Tests
describe_tests account now key None = not_there
describe_tests account now key (Some s) = (is_unknown account key now s.row, NotFound snapshot) ∷ []

abbrev pub DescribeIsRefusedInOrder : Type 0
DescribeIsRefusedInOrder =
    (m : Machine) (account : ℕ) (reading : Moment) (key : SnapKey) → let now = moment_at m reading in
    IsRefusedBy (first_of (describe_tests account now.second key (fin.get (advance m now).snaps key))) (step m account reading (DescribeSnapshot key)).1

-- DescribeSnapshots: its members, and nothing of the machine
abbrev pub own_list_tests : ℕ → ℕ → Tests
own_list_tests from most = (not (nat_lt from (2 ^ 28)), BadParameter (codes "from")) ∷ (not (nat_le 1 most && nat_le most 1000), BadParameter (codes "max")) ∷ []

abbrev pub OwnListIsRefusedInOrder : Type 0
OwnListIsRefusedInOrder =
    (m : Machine) (account : ℕ) (reading : Moment) (from most : ℕ) → IsRefusedBy (first_of (own_list_tests from most)) (step m account reading (DescribeSnapshots from most)).1

-- what all but the owner are refused by: they may not know of the snapshot; they don't own it
abbrev pub own_tests : ℕ → SnapKey → ℕ → SnapRow → Tests
own_tests account key now row = (is_unknown account key now row, NotFound snapshot) ∷ (not (account == key.account), NotOwner) ∷ []

-- and the owner too, where it isn't completed
abbrev pub owner_tests : ℕ → SnapKey → ℕ → SnapRow → Tests
owner_tests account key now row = own_tests account key now row ++ ((not row.completed, WrongState (cond (is_late row now) state.Error state.Pending)) ∷ [])

-- ModifyPermission: the row, of which the caller is the owner, and which is completed; then how many accounts it would be shared
-- with, then the store's changes
abbrev pub permission_row_tests : Machine → ℕ → ℕ → SnapKey → List ℕ → List ℕ → Option Snapshot → Tests
permission_row_tests m account now key add remove None = not_there
permission_row_tests m account now key add remove (Some s) =
    owner_tests account key now s.row
    ++ ((nat_lt 1000 (length (permitted s.row.shared add remove)), Quota SharedAccounts 1000)
    ∷ (nat_le (2 ^ 40) m.changes, Exhausted Changes)
    ∷ [])

abbrev pub permission_tests : Machine → ℕ → ℕ → SnapKey → List ℕ → Bool → List ℕ → Bool → Option Snapshot → Tests
permission_tests m account now key add add_all remove remove_all found =
    (not (are_accounts add), BadParameter (codes "Add"))
    ∷ (not (are_accounts remove && (are_apart add remove && not (add_all && remove_all))), BadParameter (codes "Remove"))
    ∷ permission_row_tests m account now key add remove found

abbrev pub PermissionIsRefusedInOrder : Type 0
PermissionIsRefusedInOrder =
    (m : Machine) (account : ℕ) (reading : Moment) (key : SnapKey) (add : List ℕ) (add_all : Bool) (remove : List ℕ) (remove_all : Bool) → let now = moment_at m reading in
    IsRefusedBy (first_of (permission_tests m account now.second key add add_all remove remove_all (fin.get (advance m now).snaps key)))
    (step m account reading (ModifyPermission key add add_all remove remove_all)).1

-- DeleteSnapshot: the row, of which the caller is the owner; then an upload that is open, then a lock that lasts, then the store's
-- changes: a lock lasts until its end, whatever its mode
abbrev pub lasting_tests : LockState → ℕ → Tests
lasting_tests lock.None now = []
lasting_tests (lock.Governance until) now = (nat_lt now until.second, Locked until) ∷ []
lasting_tests (lock.Compliance until cool_end) now = (nat_lt now until.second, Locked until) ∷ []

abbrev pub delete_tests : Machine → ℕ → ℕ → SnapKey → Option Snapshot → Tests
delete_tests m account now key None = not_there
delete_tests m account now key (Some s) =
    own_tests account key now s.row
    ++ ((not s.row.completed && not (is_late s.row now), WrongState state.Pending)
    ∷ (lasting_tests s.row.lock now ++ ((nat_le (2 ^ 40) m.changes, Exhausted Changes) ∷ [])))

abbrev pub DeleteIsRefusedInOrder : Type 0
DeleteIsRefusedInOrder =
    (m : Machine) (account : ℕ) (reading : Moment) (key : SnapKey) → let now = moment_at m reading in
    IsRefusedBy (first_of (delete_tests m account now.second key (fin.get (advance m now).snaps key))) (step m account reading (DeleteSnapshot key)).1

-- LockSnapshot: its members, then the row, then a lock in compliance, then the date, then the store's changes
abbrev pub is_duration : Term → Bool
is_duration (Days days) = nat_le 1 days && nat_le days 36500
is_duration (Date date) = true

abbrev pub is_cool_off_of : LockMode → Option ℕ → Bool
is_cool_off_of mode None = true
is_cool_off_of Governance (Some hours) = false
is_cool_off_of Compliance (Some hours) = nat_le 1 hours && nat_le hours 72

abbrev pub asks_governance : LockMode → Bool
asks_governance Governance = true
asks_governance Compliance = false

-- the second at which it would end
abbrev pub asked_end : Term → ℕ → ℕ
asked_end (Days days) now = now + 86400 * days
asked_end (Date date) now = date.second

-- a lock in compliance whose cool-off is over is made longer alone: not for governance, with no cool-off, and to a later end
abbrev pub compliance_tests : LockState → LockMode → Term → Option ℕ → ℕ → Tests
compliance_tests lock.None mode term cool_hours now = []
compliance_tests (lock.Governance until) mode term cool_hours now = []
compliance_tests (lock.Compliance until cool_end) mode term cool_hours now =
    (nat_lt now until.second && (nat_le cool_end.second now && (asks_governance mode || (is_some cool_hours || nat_le (asked_end term now) until.second))), Locked until) ∷ []

-- a date is a day to 36500 days ahead
abbrev pub date_tests : Term → ℕ → Tests
date_tests (Days days) now = []
date_tests (Date date) now = (nat_lt date.second (now + 86400) || nat_lt (now + 36500 * 86400) date.second, BadParameter (codes "ExpirationDate")) ∷ []

abbrev pub lock_row_tests : Machine → ℕ → ℕ → SnapKey → LockMode → Term → Option ℕ → Option Snapshot → Tests
lock_row_tests m account now key mode term cool_hours None = not_there
lock_row_tests m account now key mode term cool_hours (Some s) =
    owner_tests account key now s.row
    ++ ((compliance_tests s.row.lock mode term cool_hours now ++ date_tests term now) ++ ((nat_le (2 ^ 40) m.changes, Exhausted Changes) ∷ []))

abbrev pub lock_tests : Machine → ℕ → ℕ → SnapKey → LockMode → Term → Option ℕ → Option Snapshot → Tests
lock_tests m account now key mode term cool_hours found =
    (not (is_duration term), BadParameter (codes "LockDuration"))
    ∷ (not (is_cool_off_of mode cool_hours), BadParameter (codes "CoolOffPeriod"))
    ∷ lock_row_tests m account now key mode term cool_hours found

abbrev pub LockIsRefusedInOrder : Type 0
LockIsRefusedInOrder =
    (m : Machine) (account : ℕ) (reading : Moment) (key : SnapKey) (mode : LockMode) (term : Term) (cool_hours : Option ℕ) → let now = moment_at m reading in
    IsRefusedBy (first_of (lock_tests m account now.second key mode term cool_hours (fin.get (advance m now).snaps key))) (step m account reading (LockSnapshot key mode term cool_hours)).1

-- UnlockSnapshot: the row, then no lock or one that has expired, then a lock in compliance whose cool-off is over, then the store's
-- changes
abbrev pub held_tests : LockState → ℕ → Tests
held_tests lock.None now = (true, WrongState state.Unlocked) ∷ []
held_tests (lock.Governance until) now = (nat_le until.second now, WrongState state.Unlocked) ∷ []
held_tests (lock.Compliance until cool_end) now = (nat_le until.second now, WrongState state.Unlocked) ∷ (nat_lt now until.second && nat_le cool_end.second now, Locked until) ∷ []

abbrev pub unlock_tests : Machine → ℕ → ℕ → SnapKey → Option Snapshot → Tests
unlock_tests m account now key None = not_there
unlock_tests m account now key (Some s) = owner_tests account key now s.row ++ (held_tests s.row.lock now ++ ((nat_le (2 ^ 40) m.changes, Exhausted Changes) ∷ []))

abbrev pub UnlockIsRefusedInOrder : Type 0
UnlockIsRefusedInOrder =
    (m : Machine) (account : ℕ) (reading : Moment) (key : SnapKey) → let now = moment_at m reading in
    IsRefusedBy (first_of (unlock_tests m account now.second key (fin.get (advance m now).snaps key))) (step m account reading (UnlockSnapshot key)).1

-- ArchiveSnapshot: the row, then a snapshot that is archived already, or whose restore has ended, then one that is restored for a
-- time, then the store's changes
abbrev pub archived_tests : Tier → ℕ → Tests
archived_tests Standard now = []
archived_tests Archived now = (true, WrongState state.Archived) ∷ []
archived_tests (Temporary until) now = (nat_le until.second now, WrongState state.Archived) ∷ (nat_lt now until.second, WrongState state.Temporary) ∷ []

abbrev pub archive_tests : Machine → ℕ → ℕ → SnapKey → Option Snapshot → Tests
archive_tests m account now key None = not_there
archive_tests m account now key (Some s) = owner_tests account key now s.row ++ (archived_tests s.row.tier now ++ ((nat_le (2 ^ 40) m.changes, Exhausted Changes) ∷ []))

abbrev pub ArchiveIsRefusedInOrder : Type 0
ArchiveIsRefusedInOrder =
    (m : Machine) (account : ℕ) (reading : Moment) (key : SnapKey) → let now = moment_at m reading in
    IsRefusedBy (first_of (archive_tests m account now.second key (fin.get (advance m now).snaps key))) (step m account reading (ArchiveSnapshot key)).1

-- RestoreTier: the days, then the row, then a snapshot that was never archived, then the store's changes
abbrev pub is_restore_of : Option ℕ → Bool
is_restore_of None = true
is_restore_of (Some days) = nat_le 1 days && nat_le days 180

abbrev pub is_standard : Tier → Bool
is_standard Standard = true
is_standard Archived = false
is_standard (Temporary until) = false

abbrev pub restore_row_tests : Machine → ℕ → ℕ → SnapKey → Option Snapshot → Tests
restore_row_tests m account now key None = not_there
restore_row_tests m account now key (Some s) =
    owner_tests account key now s.row ++ ((is_standard s.row.tier, WrongState state.Standard) ∷ (nat_le (2 ^ 40) m.changes, Exhausted Changes) ∷ [])

abbrev pub restore_tests : Machine → ℕ → ℕ → SnapKey → Option ℕ → Option Snapshot → Tests
restore_tests m account now key days found = (not (is_restore_of days), BadParameter (codes "TemporaryRestoreDays")) ∷ restore_row_tests m account now key found

abbrev pub RestoreIsRefusedInOrder : Type 0
RestoreIsRefusedInOrder =
    (m : Machine) (account : ℕ) (reading : Moment) (key : SnapKey) (days : Option ℕ) → let now = moment_at m reading in
    IsRefusedBy (first_of (restore_tests m account now.second key days (fin.get (advance m now).snaps key))) (step m account reading (RestoreTier key days)).1
