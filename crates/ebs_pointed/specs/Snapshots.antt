-- What a checkpoint has of a snapshot.
use Rattle.std.specs.Prelude.{◌≡◌, ℕ, true, List, [], map as list_map, Option, None, if◌then◌else◌}
use Rattle.std.specs.List.{filter}
use Rattle.std.specs.Ordering.{nat_cmp}
use Rattle.std.specs.FinMap as map
use Rattle.ebs_model.specs.declared.keys.SnapKey.{SnapKey}
use Rattle.ebs_model.specs.declared.rows.SnapRow.{SnapRow}
use Rattle.ebs_model.specs.Time.{is_failed, rested_row, status_at, stays}
use Rattle.ebs_checkpoints.specs.declared.snapshots.SnapPoint.{SnapPoint}
use Rattle.ebs_row_rules.specs.Order.{ascends}
use Rattle.ebs_holds.specs.Holders.{of_snap}
use Rattle.ebs_holds.specs.Holds.{Holding}
use Rattle.ebs_catalog.specs.declared.rows.KeptRow.{KeptRow}
use Rattle.ebs_catalog.specs.Held.{whole}
use Rattle.ebs_recovery.specs.Bases.{row_of}
use Rattle.ebs_point_rules.specs.Values.{HasSnapValues}
use Rattle.ebs_pointed.specs.Nodes.{number_in}

-- the indexes of a list, as the set of a row
abbrev pub put_set : List ℕ → map.FinMap nat_cmp (Unit {0})
put_set put = map.from_entries (list_map (λ index. (index, tt)) put)

-- what a moment leaves of rows
abbrev pub left_at : ℕ → List (SnapKey × KeptRow) → List (SnapKey × SnapRow)
left_at now rows = list_map (λ (e : SnapKey × SnapRow). (e.0, rested_row now e.1)) (filter (λ (e : SnapKey × SnapRow). stays now e.1) (list_map (λ (e : SnapKey × KeptRow). (e.0, whole e.1)) rows))

-- a point's row, at its key
abbrev pub listed_row : SnapPoint → SnapKey × SnapRow
listed_row point = (point.key, row_of point)

-- the node that a row names at a moment: a failed upload names none
abbrev pub node_at : Holding → ℕ → SnapRow → Option ℕ
node_at h now row = if is_failed (status_at row now) then None else number_in h (of_snap row.key)

-- no copy is in the archive, the indexes that were put ascend, and the values are of their types
pub record IsPoint (h : Holding) (now : ℕ) (point : SnapPoint) : Type 0 where
  pub node : point.node ≡ node_at h now (row_of point)
  pub copies : point.copies ≡ []
  pub puts : ascends nat_cmp (λ n. n) point.put ≡ true
  pub values : HasSnapValues point
