-- How much the standard tier and the archive hold.
use Rattle.std.specs.Prelude.{Bool, true, false, ℕ, ◌&&◌, Some, not, List, map, ◌++◌, length}
use Rattle.std.specs.List.{filter, flat_map, sum}
use Rattle.std.specs.FinMap as fin
use Rattle.std.specs.Ordering.{nat_cmp}
use Rattle.ebs_model.specs.declared.rows.SnapRow.{SnapRow}
use Rattle.ebs_model.specs.declared.rows.Tier.{Tier}
use Rattle.ebs_model.specs.declared.rows.Tier.TheVariants.{Standard, Archived, Temporary}
use Rattle.ebs_model.specs.Arrays.{WholeArray}
use Rattle.ebs_model.specs.Time.{stays, status_at, is_completed}
use Rattle.ebs_model.specs.Machine.{Machine}
use Rattle.ebs_model.specs.inner.Time.{has_blocks}

-- a temporary restore reads the archive's own copy
abbrev pub is_standard : Tier → Bool
is_standard Standard = true
is_standard Archived = false
is_standard (Temporary until) = false

-- an upload that is open, or a kept snapshot in the standard tier, those in the bin among them
abbrev pub is_shared : ℕ → SnapRow → Bool
is_shared now row = has_blocks now (Some row) && is_standard row.tier

-- a kept snapshot that is archived or restored for some days
abbrev pub is_full : ℕ → SnapRow → Bool
is_full now row = stays now row && is_completed (status_at row now) && not (is_standard row.tier)

abbrev pub arrays_where : (SnapRow → Bool) → Machine → List WholeArray
arrays_where is m = map (λ e. e.1.array) (filter (λ e. is e.1.row) (fin.entries m.snaps))

abbrev pub stamps_of : WholeArray → List ℕ
stamps_of array = map (λ e. e.1.stamp) (fin.entries array)

-- the stamps of the blocks that volumes, open uploads and snapshots in the standard tier share, each once
unfoldable pub shared : Machine → fin.FinMap nat_cmp (Unit {0})
shared m = fin.from_entries (map (λ stamp. (stamp, tt)) (flat_map stamps_of (map (λ e. e.1) (fin.entries m.disks) ++ arrays_where (is_shared m.clock.second) m)))

-- how many blocks the archive has, which shares none
unfoldable pub full : Machine → ℕ
full m = sum (map (λ array. length (fin.entries array)) (arrays_where (is_full m.clock.second) m))
