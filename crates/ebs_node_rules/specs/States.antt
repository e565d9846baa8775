-- What the state of a snapshot lets it have.
use Rattle.std.specs.Prelude.{ℕ, ◌+◌, ◌*◌, Bool, true, false, not, ◌&&◌, ◌||◌, nat_le, List, [], ◌∷◌}
use Rattle.std.specs.declared.option.Option.{Option}
use Rattle.std.specs.Option.{is_some}
use Rattle.std.specs.List.{list_all}
use Rattle.ebs_model.specs.declared.keys.Moment.{Moment}
use Rattle.ebs_model.specs.declared.rows.RowStatus.{RowStatus}
use Rattle.ebs_model.specs.declared.rows.RowStatus.TheVariants.{Pending, Completed, Failed}
use Rattle.ebs_model.specs.declared.rows.Tier.{Tier}
use Rattle.ebs_model.specs.declared.rows.Tier.TheVariants.{Standard, Archived, Temporary}
use Rattle.ebs_model.specs.Time.{status_by, is_pending, is_reached}
use Rattle.ebs_checkpoints.specs.declared.nodes.NodeRow.{NodeRow}
use Rattle.ebs_checkpoints.specs.declared.snapshots.SnapPoint.{SnapPoint}
use Rattle.ebs_checkpoints.specs.declared.checkpoint.Checkpoint.{Checkpoint}
use Rattle.ebs_node_rules.specs.Nodes.{node_of, is_open, is_closed}

abbrev pub is_none_of : {X : Type 0} → List X → Bool
is_none_of [] = true
is_none_of (x ∷ xs) = false

abbrev pub is_standard : Tier → Bool
is_standard Standard = true
is_standard Archived = false
is_standard (Temporary until) = false

-- what the upload has come to, as of a row
abbrev pub status_of : SnapPoint → ℕ → RowStatus
status_of snapshot now = status_by snapshot.completed (nat_le (snapshot.last.second + 60 * snapshot.timeout) now)

-- an upload has an open node, and one that has failed has none. What is completed has a copy in the archive, or its node and that is closed
abbrev pub has_node_by : RowStatus → List NodeRow → SnapPoint → Bool
has_node_by Pending nodes snapshot = is_open (node_of nodes snapshot.node)
has_node_by Failed nodes snapshot = not (is_some snapshot.node)
has_node_by Completed nodes snapshot = not (is_none_of snapshot.copies) || is_closed (node_of nodes snapshot.node)

-- whether an end lies ahead, or there is none
abbrev pub is_ahead : Option Moment → ℕ → Bool
is_ahead end now = not (is_reached end now)

-- a snapshot that isn't completed is neither in the bin nor in the archive
abbrev pub is_plain : SnapPoint → Bool
is_plain snapshot = snapshot.completed || (not (is_some snapshot.bin_end) && (is_none_of snapshot.copies && is_standard snapshot.tier))

-- what names a volume is completed
abbrev pub is_upload_or_done : SnapPoint → Bool
is_upload_or_done snapshot = snapshot.completed || not (is_some snapshot.volume)

-- only an upload that goes on has indexes that were put
abbrev pub has_puts_by : RowStatus → SnapPoint → Bool
has_puts_by status snapshot = is_pending status || is_none_of snapshot.put

abbrev pub fits_state : ℕ → List NodeRow → SnapPoint → Bool
fits_state now nodes snapshot = has_node_by (status_of snapshot now) nodes snapshot
    && (is_ahead snapshot.bin_end now
    && (is_plain snapshot
    && (is_upload_or_done snapshot
    && has_puts_by (status_of snapshot now) snapshot)))

-- each snapshot has what its state lets it have
abbrev pub fit_states : Checkpoint → Bool
fit_states point = list_all (fits_state point.clock.second point.nodes) point.snapshots
