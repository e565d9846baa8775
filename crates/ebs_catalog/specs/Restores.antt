-- Rows that are put back as they were.
use Rattle.std.specs.Prelude.{Bool, not, ◌||◌, if◌then◌else◌}
use Rattle.std.specs.Option.{is_some}
use Rattle.std.specs.FinMap as map
use Rattle.ebs_model.specs.declared.rows.SnapRow.{SnapRow}
use Rattle.ebs_model.specs.Keys.{snap_cmp}

-- time can end an upload that isn't completed, and what has an end in the bin
abbrev pub can_end : SnapRow → Bool
can_end row = not row.completed || is_some row.bin_end

-- what time can end waits for it
abbrev pub with_wait : map.FinMap snap_cmp (Unit {0}) → SnapRow → map.FinMap snap_cmp (Unit {0})
with_wait waits row = if can_end row then map.insert waits row.key tt else waits
