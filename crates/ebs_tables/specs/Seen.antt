-- A table as a finite map.
use Rattle.std.specs.Prelude.{Bool, ◌&&◌, not}
use Rattle.std.specs.declared.cmp.Ordering.{Ordering}
use Rattle.std.specs.Ordering.{is_le}
use Rattle.std.specs.FinMap as map
use Rattle.ebs_tables.specs.declared.table.Table.{Table}

-- by the order of its keys
abbrev pub seen : {K V : Type 0} → (R : K → K → Ordering) → Table K V → map.FinMap R V
seen R t = map.from_entries t.rows.entries

-- at the start or above it, and below the end
abbrev pub is_within : {K : Type 0} → (K → K → Ordering) → K → K → K → Bool
is_within R start end key = is_le (R start key) && not (is_le (R end key))
