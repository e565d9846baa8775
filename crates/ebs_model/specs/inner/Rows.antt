-- Beside what is promised: all of the machine that isn't a block: rows of snapshots, volumes and policies, what each account has besides, its client tokens and its rules. They are found by key.
use Rattle.std.specs.Prelude.{ℕ, map}
use Rattle.std.specs.List.{filter}
use Rattle.std.specs.FinMap as fin
use Rattle.ebs_model.specs.declared.rows.SnapRow.{SnapRow}
use Rattle.ebs_model.specs.Keys.{snap_cmp}
use Rattle.ebs_model.specs.Time.{stays, rested_row}
use Rattle.ebs_model.specs.Rows.{Rows}

abbrev pub no_rows : Rows
no_rows = record { snaps = fin.empty; own = fin.empty; tokens = fin.empty; vols = fin.empty; books = fin.empty; policies = fin.empty }

-- what time leaves of the rows of snapshots
unfoldable pub aged_snaps : ℕ → fin.FinMap snap_cmp SnapRow → fin.FinMap snap_cmp SnapRow
aged_snaps now snaps = fin.from_entries (map (λ e. (e.0, rested_row now e.1)) (filter (λ e. stays now e.1) (fin.entries snaps)))

-- the rows at a moment
abbrev pub aged : ℕ → Rows → Rows
aged now rows = record rows { snaps = aged_snaps now rows.snaps }
