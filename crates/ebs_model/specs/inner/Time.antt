-- Beside what is promised: what time decides of a snapshot.
use Rattle.std.specs.Prelude.{ℕ, Bool, false, not, ◌&&◌, Option, None, Some}
use Rattle.ebs_model.specs.declared.rows.SnapRow.{SnapRow}
use Rattle.ebs_model.specs.Time.{is_failed, status_at, stays}

-- time leaves the row, and its upload hasn't failed
abbrev pub has_blocks : ℕ → Option SnapRow → Bool
has_blocks now None = false
has_blocks now (Some row) = stays now row && not (is_failed (status_at row now))
