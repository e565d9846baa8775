-- Rows that are shown, and rows that are shared.
use Rattle.std.specs.Prelude.{ℕ, Bool, ◌&&◌, List, map, nat_le}
use Rattle.ebs_model.specs.declared.keys.SnapKey.{SnapKey}
use Rattle.ebs_model.specs.declared.rows.SnapRow.{SnapRow}
use Rattle.ebs_model.specs.declared.views.SnapView.{SnapView}
use Rattle.ebs_model.specs.declared.answer.Answer.{Answer}
use Rattle.ebs_model.specs.declared.answer.Answer.TheVariants.{SnapshotList}
use Rattle.ebs_model.specs.Time.{stays, is_ahead}
use Rattle.ebs_model.specs.Access.{owns}
use Rattle.ebs_model.specs.Lists.{page_of, next_of}
use Rattle.ebs_model.specs.Views.{view_of}
use Rattle.ebs_model.specs.Calls.Describe.{is_there}
use Rattle.ebs_model.specs.Calls.Permission.{is_public}
use Rattle.ebs_catalog.specs.declared.rows.KeptRow.{KeptRow}

-- a kept row of the account's own list: its number is at least the given one, and time leaves it in the bin, or it isn't there
abbrev pub is_listed : Bool → ℕ → ℕ → ℕ → SnapKey × KeptRow → Bool
is_listed bin account now from e = owns account e.0 && (nat_le from e.0.number && (stays now e.1.row && is_there bin (is_ahead e.1.row.bin_end now)))

-- as it is shown to the account
abbrev pub shown_row : ℕ → ℕ → SnapKey × KeptRow → SnapView
shown_row account now e = view_of account now e.0 e.1.row

-- the first of these rows as they are shown, and the number of the next one
abbrev pub shown_page : ℕ → ℕ → ℕ → List (SnapKey × KeptRow) → Answer
shown_page account now most rows = SnapshotList (next_of (λ e. e.0.number) most rows) (map (shown_row account now) (page_of most rows))

-- a row that is shared with these accounts from now on
abbrev pub shared_row : List ℕ → Bool → Bool → SnapRow → SnapRow
shared_row shared add_all remove_all row = record row { shared = shared; public = is_public row.public add_all remove_all }
