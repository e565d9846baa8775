-- What is shown of a snapshot's row, and to whom, in fields of the row.
use Rattle.std.specs.Prelude.{◌≡◌, ◌≢◌, ◌⊎◌, ℕ, ◌+◌, ◌*◌, Bool, false, cond, nat_le, nat_lt}
use Rattle.std.specs.FinMap as fin
use Rattle.std.specs.declared.option.Option.{Option}
use Rattle.std.specs.declared.option.Option.TheVariants.{None, Some}
use Rattle.ebs_model.specs.declared.keys.SnapKey.{SnapKey}
use Rattle.ebs_model.specs.declared.keys.Moment.{Moment}
use Rattle.ebs_model.specs.declared.rows.SnapRow.{SnapRow}
use Rattle.ebs_model.specs.declared.rows.RowStatus.{RowStatus}
use Rattle.ebs_model.specs.declared.rows.RowStatus.TheVariants as status
use Rattle.ebs_model.specs.declared.rows.LockState.{LockState}
use Rattle.ebs_model.specs.declared.rows.LockState.TheVariants as state
use Rattle.ebs_model.specs.declared.rows.Tier.{Tier}
use Rattle.ebs_model.specs.declared.rows.Tier.TheVariants as tier
use Rattle.ebs_model.specs.declared.views.LockName.{LockName}
use Rattle.ebs_model.specs.declared.views.LockName.TheVariants as lock
use Rattle.ebs_model.specs.declared.views.TierName.{TierName}
use Rattle.ebs_model.specs.declared.views.TierName.TheVariants as name
use Rattle.ebs_model.specs.declared.views.SnapView.{SnapView}
use Rattle.ebs_model.specs.declared.request.Request.TheVariants.{DescribeSnapshot}
use Rattle.ebs_model.specs.declared.answer.Answer.TheVariants.{SnapshotShown, Refused}
use Rattle.ebs_model.specs.declared.answer.Kind.TheVariants.{Snapshot as snapshot}
use Rattle.ebs_model.specs.declared.answer.Refusal.TheVariants.{NotFound}
use Rattle.ebs_model.specs.Time.{Snapshot}
use Rattle.ebs_model.specs.Machine.{Machine}
use Rattle.ebs_model.specs.Step.{step}
use Rattle.ebs_laws.specs.Words.{second_of, IsShown, MayRead}

-- completed; else failed once the minutes after the last put are over
abbrev pub status_in : SnapRow → ℕ → RowStatus
status_in row now = cond row.completed status.Completed (cond (nat_le (row.last.second + 60 * row.timeout) now) status.Failed status.Pending)

-- expired from its end on; before that in governance, or in compliance, which cools off first
abbrev pub lock_in : LockState → ℕ → Option LockName
lock_in state.None now = None
lock_in (state.Governance until) now = Some (cond (nat_le until.second now) lock.Expired lock.Governance)
lock_in (state.Compliance until cool_end) now = Some (cond (nat_le until.second now) lock.Expired (cond (nat_lt now cool_end.second) lock.CoolOff lock.Compliance))

abbrev pub lock_end : LockState → Option Moment
lock_end state.None = None
lock_end (state.Governance until) = Some until
lock_end (state.Compliance until cool_end) = Some until

-- restored before its end, and archived from then on
abbrev pub tier_in : Tier → ℕ → TierName
tier_in tier.Standard now = name.Standard
tier_in tier.Archived now = name.Archive
tier_in (tier.Temporary until) now = cond (nat_lt now until.second) name.Temporary name.Archive

abbrev pub restore_end : Tier → ℕ → Option Moment
restore_end tier.Standard now = None
restore_end tier.Archived now = None
restore_end (tier.Temporary until) now = cond (nat_lt now until.second) (Some until) None

-- the row's own fields, what time makes of its status, lock and tier, and lock and permission to its owner alone
pub record ShowsRow (account : ℕ) (key : SnapKey) (now : ℕ) (row : SnapRow) (view : SnapView) : Type 0 where
  pub key_is : view.key ≡ key
  pub owner_is : view.owner ≡ key.account
  pub size_is : view.size ≡ row.size
  pub parent_is : view.parent ≡ row.parent
  pub description_is : view.description ≡ row.description
  pub tags_are : view.tags ≡ row.tags
  pub starts : view.start ≡ row.start
  pub volume_is : view.volume ≡ row.volume
  pub bin_end_is : view.bin_end ≡ row.bin_end
  pub status_is : view.status ≡ status_in row now
  pub tier_is : view.tier ≡ tier_in row.tier now
  pub restored_until : view.restore_until ≡ restore_end row.tier now
  pub to_owner : account ≡ key.account → (view.lock ≡ lock_in row.lock now) × (view.lock_until ≡ lock_end row.lock) × (view.permission ≡ Some (record { accounts = row.shared; public = row.public }))
  pub to_others : account ≢ key.account → (view.lock ≡ None) × (view.lock_until ≡ None) × (view.permission ≡ None)

-- to its owner while it is outside the bin, and to one who may read it
pub record MayKnow (m : Machine) (account : ℕ) (key : SnapKey) (now : ℕ) (s : Snapshot) : Type 0 where
  pub is_there : fin.get m.snaps key ≡ Some s
  pub not_binned : s.row.bin_end ≡ None
  pub who : (account ≡ key.account) ⊎ MayRead m account key now s

-- what is shown is the row, to one who may know of it
abbrev pub ShownIsTheRow : Type 0
ShownIsTheRow =
    (m : Machine) (account : ℕ) (reading : Moment) (key : SnapKey) (created : Bool) (view : SnapView) → let now = second_of m reading in
    (step m account reading (DescribeSnapshot key)).1 ≡ SnapshotShown created view → (s : Snapshot) × MayKnow m account key now s × (created ≡ false) × ShowsRow account key now s.row view

-- to each who may know of it
abbrev pub KnownIsShown : Type 0
KnownIsShown =
    (m : Machine) (account : ℕ) (reading : Moment) (key : SnapKey) (s : Snapshot) → MayKnow m account key (second_of m reading) s
    → (view : SnapView) × ((step m account reading (DescribeSnapshot key)).1 ≡ SnapshotShown false view)

-- it isn't there, or is neither the account's own nor shared with it nor public
abbrev pub IsHidden : Machine → ℕ → SnapKey → Type 0
IsHidden m account key = (s : Snapshot) → fin.get m.snaps key ≡ Some s → IsShown account key s.row → ⊥

-- such a row isn't found
abbrev pub HiddenIsNotFound : Type 0
HiddenIsNotFound =
    (m : Machine) (account : ℕ) (reading : Moment) (key : SnapKey) → IsHidden m account key → (step m account reading (DescribeSnapshot key)).1 ≡ Refused (NotFound snapshot)
