-- PutSnapshotBlock: one block of an upload (EBS direct APIs reference).
use Rattle.std.specs.Prelude.{ℕ, List, [], nat_le, Result, Ok}
use Rattle.std.specs.FinMap as fin
use Rattle.ebs_model.specs.declared.keys.SnapKey.{SnapKey}
use Rattle.ebs_model.specs.declared.keys.Moment.{Moment}
use Rattle.ebs_model.specs.declared.rows.SnapRow.{SnapRow}
use Rattle.ebs_model.specs.declared.request.Request.TheVariants.{PutSnapshotBlock}
use Rattle.ebs_model.specs.declared.change.Decision.{Decision}
use Rattle.ebs_model.specs.declared.change.Decision.TheVariants as decision
use Rattle.ebs_model.specs.declared.answer.Answer.TheVariants.{BlockWritten}
use Rattle.ebs_model.specs.declared.answer.Refusal.{Refusal}
use Rattle.ebs_model.specs.declared.answer.Refusal.TheVariants.{BadIndex}
use Rattle.ebs_model.specs.Refuse.{◌>>=◌, ◌>>◌, refuse_if}
use Rattle.ebs_model.specs.Access.{open_upload}
use Rattle.ebs_model.specs.Rows.{Rows, the_row, with_row}
use Rattle.ebs_model.specs.Decisions.{alters}
use Rattle.ebs_model.specs.Quotas.{blocks_of}

-- the change keeps no bytes
abbrev pub decide_put : Rows → Moment → ℕ → SnapKey → ℕ → List ℕ → Result Decision Refusal
decide_put rows at account key index digest = do
  row ← the_row rows key (open_upload account key at.second)
  refuse_if (nat_le (blocks_of row.size) index) BadIndex
  Ok (decision.Change (alters account at (PutSnapshotBlock key index digest [])) (BlockWritten digest))

abbrev pub put_row : Moment → ℕ → SnapRow → SnapRow
put_row at index row = record row { put = fin.insert row.put index tt; last = at }

abbrev pub commit_put : Rows → Moment → SnapKey → ℕ → Rows
commit_put rows at key index = with_row rows key (put_row at index)
