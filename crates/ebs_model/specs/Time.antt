-- What time decides of a snapshot.
use Rattle.std.specs.Prelude.{ℕ, Bool, false, nat_le, Option, None, Some, nat_lt, true, ◌+◌, ◌*◌, not, if◌then◌else◌}
use Rattle.std.specs.FinMap as map
use Rattle.ebs_model.specs.declared.keys.Moment.{Moment}
use Rattle.ebs_model.specs.declared.rows.SnapRow.{SnapRow}
use Rattle.ebs_model.specs.declared.rows.RowStatus.{RowStatus}
use Rattle.ebs_model.specs.declared.rows.RowStatus.TheVariants.{Pending, Completed, Failed}
use Rattle.ebs_model.specs.declared.rows.Tier.{Tier}
use Rattle.ebs_model.specs.declared.rows.Tier.TheVariants.{Standard, Archived, Temporary}
use Rattle.ebs_model.specs.Arrays.{WholeArray}

-- a snapshot: its row and its own whole array
pub record Snapshot : Type 0 where
  pub row : SnapRow
  pub array : WholeArray

-- whether the moment of an end is reached; without an end it never is
abbrev pub is_reached : Option Moment → ℕ → Bool
is_reached None now = false
is_reached (Some end) now = nat_le end.second now

-- whether an end lies ahead
abbrev pub is_ahead : Option Moment → ℕ → Bool
is_ahead None now = false
is_ahead (Some end) now = nat_lt now end.second

-- by whether the upload was completed, and whether its time is up
abbrev pub status_by : Bool → Bool → RowStatus
status_by true late = Completed
status_by false true = Failed
status_by false false = Pending

-- an upload fails as many minutes after its last put as its timeout says
abbrev pub status_at : SnapRow → ℕ → RowStatus
status_at row now = status_by row.completed (nat_le (row.last.second + 60 * row.timeout) now)

abbrev pub is_pending : RowStatus → Bool
is_pending Pending = true
is_pending Completed = false
is_pending Failed = false

abbrev pub is_completed : RowStatus → Bool
is_completed Pending = false
is_completed Completed = true
is_completed Failed = false

abbrev pub is_failed : RowStatus → Bool
is_failed Pending = false
is_failed Completed = false
is_failed Failed = true

-- a snapshot in the archive can be read while it is restored (EBS User Guide, archive tier)
abbrev pub is_readable : Tier → ℕ → Bool
is_readable Standard now = true
is_readable Archived now = false
is_readable (Temporary until) now = nat_lt now until.second

-- time takes a snapshot out whose stay in the bin has ended
abbrev pub stays : ℕ → SnapRow → Bool
stays now row = not (is_reached row.bin_end now)

-- what time leaves of the others: a failed upload has no put set and no blocks
abbrev pub rested_row : ℕ → SnapRow → SnapRow
rested_row now row = record row { put = if is_failed (status_at row now) then map.empty else row.put }

abbrev pub rested : ℕ → Snapshot → Snapshot
rested now s = record {
  row = rested_row now s.row;
  array = if is_failed (status_at s.row now) then map.empty else s.array;
}
