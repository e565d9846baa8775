-- ListBin and RestoreFromBin: deleted snapshots that a rule keeps for a time (Recycle Bin documentation).
use Rattle.std.specs.Prelude.{ℕ, not, Result, None, false, Ok}
use Rattle.ebs_model.specs.declared.keys.SnapKey.{SnapKey}
use Rattle.ebs_model.specs.declared.keys.Moment.{Moment}
use Rattle.ebs_model.specs.declared.rows.SnapRow.{SnapRow}
use Rattle.ebs_model.specs.declared.request.Request.TheVariants.{RestoreFromBin}
use Rattle.ebs_model.specs.declared.change.Decision.{Decision}
use Rattle.ebs_model.specs.declared.change.Decision.TheVariants as decision
use Rattle.ebs_model.specs.declared.answer.Answer.TheVariants.{SnapshotShown}
use Rattle.ebs_model.specs.declared.answer.Kind.TheVariants.{Snapshot}
use Rattle.ebs_model.specs.declared.answer.Refusal.{Refusal}
use Rattle.ebs_model.specs.declared.answer.Refusal.TheVariants.{NotFound}
use Rattle.ebs_model.specs.Refuse.{◌>>=◌, ◌>>◌, refuse_if}
use Rattle.ebs_model.specs.Time.{is_ahead}
use Rattle.ebs_model.specs.Access.{owns}
use Rattle.ebs_model.specs.Views.{view_of}
use Rattle.ebs_model.specs.Rows.{Rows, the_row, with_row}
use Rattle.ebs_model.specs.Decisions.{alters}

-- in the bin, where its owner alone finds it
abbrev pub binned : ℕ → SnapKey → ℕ → SnapRow → Result (Unit {0}) Refusal
binned account key now row = do
  refuse_if (not (owns account key)) (NotFound Snapshot)
  refuse_if (not (is_ahead row.bin_end now)) (NotFound Snapshot)

-- out of the bin, with all else as it was
abbrev pub recovered : SnapRow → SnapRow
recovered row = record row { bin_end = None }

abbrev pub decide_recover : Rows → Moment → ℕ → SnapKey → Result Decision Refusal
decide_recover rows at account key = do
  row ← the_row rows key (binned account key at.second)
  Ok (decision.Change (alters account at (RestoreFromBin key)) (SnapshotShown false (view_of account at.second key (recovered row))))

abbrev pub commit_recover : Rows → SnapKey → Rows
commit_recover rows key = with_row rows key recovered
