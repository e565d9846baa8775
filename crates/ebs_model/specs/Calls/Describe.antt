-- DescribeSnapshot, DescribeSnapshots and ListBin: rows as they are shown (EBS User Guide, viewing snapshots; Recycle Bin documentation).
use Rattle.std.specs.Prelude.{ℕ, false, Result, Ok, Bool, true, not, ◌&&◌, nat_le, List, map}
use Rattle.std.specs.List.{filter}
use Rattle.std.specs.FinMap as fin
use Rattle.ebs_model.specs.declared.keys.SnapKey.{SnapKey}
use Rattle.ebs_model.specs.declared.keys.Moment.{Moment}
use Rattle.ebs_model.specs.declared.rows.SnapRow.{SnapRow}
use Rattle.ebs_model.specs.declared.change.Decision.{Decision}
use Rattle.ebs_model.specs.declared.change.Decision.TheVariants as decision
use Rattle.ebs_model.specs.declared.answer.Answer.TheVariants.{SnapshotShown, SnapshotList}
use Rattle.ebs_model.specs.declared.answer.Refusal.{Refusal}
use Rattle.ebs_model.specs.Refuse.{◌>>=◌}
use Rattle.ebs_model.specs.Time.{is_ahead}
use Rattle.ebs_model.specs.Access.{seen, owns}
use Rattle.ebs_model.specs.Rows.{Rows, the_row}
use Rattle.ebs_model.specs.Lists.{page_of, next_of}
use Rattle.ebs_model.specs.Views.{view_of}

abbrev pub decide_describe : Rows → Moment → ℕ → SnapKey → Result Decision Refusal
decide_describe rows at account key = do
  row ← the_row rows key (seen account key at.second)
  Ok (decision.View (SnapshotShown false (view_of account at.second key row)))

-- a row of the list of the bin, or of the other one
abbrev pub is_there : Bool → Bool → Bool
is_there true binned = binned
is_there false binned = not binned

-- a row of the account's own list: its number is at least the given one, and it is in the bin, or isn't
abbrev pub is_listed : Bool → ℕ → ℕ → ℕ → SnapKey × SnapRow → Bool
is_listed bin account now from e = owns account e.0 && (nat_le from e.0.number && is_there bin (is_ahead e.1.bin_end now))

-- in ascending number
abbrev pub listed : Bool → Rows → ℕ → ℕ → ℕ → List (SnapKey × SnapRow)
listed bin rows account now from = filter (is_listed bin account now from) (fin.entries rows.snaps)

-- the first rows of a list as they are shown, and the number of the next one where more are left
abbrev pub decide_rows : Bool → Rows → Moment → ℕ → ℕ → ℕ → Result Decision Refusal
decide_rows bin rows at account from most =
    let found = listed bin rows account at.second from in
    Ok (decision.View (SnapshotList (next_of (λ e. e.0.number) most found) (map (λ e. view_of account at.second e.0 e.1) (page_of most found))))
