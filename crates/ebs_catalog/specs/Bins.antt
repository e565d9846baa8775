-- Rows that go to the bin, and rows that are taken out.
use Rattle.std.specs.Prelude.{ℕ}
use Rattle.std.specs.FinMap as map
use Rattle.std.specs.declared.option.Option.{Option}
use Rattle.std.specs.declared.option.Option.TheVariants.{None, Some}
use Rattle.ebs_model.specs.declared.keys.SnapKey.{SnapKey}
use Rattle.ebs_model.specs.declared.keys.Moment.{Moment}
use Rattle.ebs_model.specs.declared.rows.SnapRow.{SnapRow}
use Rattle.ebs_model.specs.Rules.{bin_end}
use Rattle.ebs_model.specs.Rows.{Rows}
use Rattle.ebs_model.specs.Calls.Delete.{days_in_bin}

-- how many days a snapshot that is found stays in the bin
abbrev pub days_at : Rows → SnapKey → Option SnapRow → Option ℕ
days_at rows key None = None
days_at rows key (Some row) = days_in_bin rows key row

-- in the bin for so many days
abbrev pub binned_row : Moment → ℕ → SnapRow → SnapRow
binned_row at days row = record row { bin_end = Some (bin_end at.second days) }

-- without the snapshot
abbrev pub removed : Rows → SnapKey → Rows
removed rows key = record rows { snaps = map.remove rows.snaps key }
