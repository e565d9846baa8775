-- Who may do what with a snapshot. Each test is over one row, and gives its refusals in order.
use Rattle.std.specs.Prelude.{ℕ, Bool, ◌==◌, not, ◌&&◌, ◌||◌, Result, true, false}
use Rattle.std.specs.List.{list_any}
use Rattle.ebs_model.specs.declared.keys.SnapKey.{SnapKey}
use Rattle.ebs_model.specs.declared.rows.SnapRow.{SnapRow}
use Rattle.ebs_model.specs.declared.rows.RowStatus.{RowStatus}
use Rattle.ebs_model.specs.declared.rows.RowStatus.TheVariants as status
use Rattle.ebs_model.specs.declared.rows.Tier.{Tier}
use Rattle.ebs_model.specs.declared.rows.Tier.TheVariants.{Standard, Archived, Temporary}
use Rattle.ebs_model.specs.declared.answer.StateName.{StateName}
use Rattle.ebs_model.specs.declared.answer.StateName.TheVariants as state
use Rattle.ebs_model.specs.declared.answer.Kind.TheVariants.{Snapshot}
use Rattle.ebs_model.specs.declared.answer.Refusal.{Refusal}
use Rattle.ebs_model.specs.declared.answer.Refusal.TheVariants.{NotFound, NotOwner, WrongState}
use Rattle.ebs_model.specs.Refuse.{◌>>◌, refuse_if}
use Rattle.ebs_model.specs.Time.{status_at, is_completed, is_ahead, is_readable, is_pending}

abbrev pub owns : ℕ → SnapKey → Bool
owns account key = account == key.account

abbrev pub state_of : RowStatus → StateName
state_of status.Pending = state.Pending
state_of status.Completed = state.Completed
state_of status.Failed = state.Error

-- it is the caller's, or is shown to it, and can be read now
abbrev pub may_read : ℕ → SnapKey → ℕ → SnapRow → Bool
may_read account key now row =
    (owns account key || (row.public || list_any (λ own. own == account) row.shared))
    && (is_completed (status_at row now) && (not (is_ahead row.bin_end now) && is_readable row.tier now))

-- the snapshot is there for the caller
abbrev pub seen : ℕ → SnapKey → ℕ → SnapRow → Result (Unit {0}) Refusal
seen account key now row = do
  refuse_if (is_ahead row.bin_end now) (NotFound Snapshot)
  refuse_if (not (owns account key) && not (may_read account key now row)) (NotFound Snapshot)

-- and is the caller's
abbrev pub own : ℕ → SnapKey → ℕ → SnapRow → Result (Unit {0}) Refusal
own account key now row = do
  seen account key now row
  refuse_if (not (owns account key)) NotOwner

-- an open upload of the caller
abbrev pub open_upload : ℕ → SnapKey → ℕ → SnapRow → Result (Unit {0}) Refusal
open_upload account key now row = do
  own account key now row
  refuse_if (not (is_pending (status_at row now))) (WrongState (state_of (status_at row now)))

-- a completed snapshot of the caller
abbrev pub done : ℕ → SnapKey → ℕ → SnapRow → Result (Unit {0}) Refusal
done account key now row = do
  own account key now row
  refuse_if (not (is_completed (status_at row now))) (WrongState (state_of (status_at row now)))

-- a snapshot that the caller may read now
abbrev pub ready : ℕ → SnapKey → ℕ → SnapRow → Result (Unit {0}) Refusal
ready account key now row = do
  seen account key now row
  refuse_if (not (is_completed (status_at row now))) (WrongState (state_of (status_at row now)))
  refuse_if (not (is_readable row.tier now)) (WrongState state.Archived)

abbrev pub is_temporary : Tier → Bool
is_temporary Standard = false
is_temporary Archived = false
is_temporary (Temporary until) = true

-- one that an upload or a volume may begin from now
abbrev pub base : ℕ → SnapKey → ℕ → SnapRow → Result (Unit {0}) Refusal
base account key now row = do
  ready account key now row
  refuse_if (is_temporary row.tier) (WrongState state.Temporary)
