-- Entries whose blocks are somebody's, and rows of nodes with these alone.
use Rattle.std.specs.Prelude.{ℕ, Bool, ◌&&◌, List, map}
use Rattle.std.specs.List.{filter}
use Rattle.ebs_records.specs.Records.{is_index}
use Rattle.ebs_checkpoints.specs.declared.nodes.EntryRow.{EntryRow}
use Rattle.ebs_checkpoints.specs.declared.nodes.NodeRow.{NodeRow}
use Rattle.ebs_row_rules.specs.inner.Stamps.{has_digest}
use Rattle.ebs_kept.specs.Stamps.{Digests}

-- its block has the digest of its stamp, at an index of an image
abbrev pub is_live : Digests → EntryRow → Bool
is_live digests entry = is_index entry.index && has_digest digests entry.block

-- the row without other entries
abbrev pub with_live : Digests → NodeRow → NodeRow
with_live digests row = record row { entries = filter (is_live digests) row.entries }

abbrev pub live_rows : Digests → List NodeRow → List NodeRow
live_rows digests rows = map (with_live digests) rows
