-- Which rows count for an account's quotas at a moment.
use Rattle.std.specs.Prelude.{ℕ, Bool, false, ◌&&◌}
use Rattle.std.specs.declared.option.Option.{Option}
use Rattle.std.specs.declared.option.Option.TheVariants.{None, Some}
use Rattle.ebs_model.specs.declared.keys.SnapKey.{SnapKey}
use Rattle.ebs_model.specs.Time.{stays, status_at, is_pending}
use Rattle.ebs_model.specs.Access.{owns}
use Rattle.ebs_catalog.specs.declared.rows.KeptRow.{KeptRow}

abbrev pub is_kept : ℕ → ℕ → SnapKey × KeptRow → Bool
is_kept account now e = stays now e.1.row && owns account e.0

-- what is found is an open upload
abbrev pub is_pending_row : ℕ → Option KeptRow → Bool
is_pending_row now None = false
is_pending_row now (Some k) = stays now k.row && is_pending (status_at k.row now)

-- and the account's
abbrev pub is_open : ℕ → ℕ → SnapKey → Option KeptRow → Bool
is_open account now key found = is_pending_row now found && owns account key
