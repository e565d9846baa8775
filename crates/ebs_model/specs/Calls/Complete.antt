-- CompleteSnapshot: the end of an upload (EBS direct APIs reference).
use Rattle.std.specs.Prelude.{ℕ, not, ◌==◌, List, codes, Option, Result, Ok, true, nat_eq, None, Some}
use Rattle.std.specs.Cmp.Lexicographic.{pointwise}
use Rattle.std.specs.FinMap as fin
use Rattle.ebs_model.specs.declared.keys.SnapKey.{SnapKey}
use Rattle.ebs_model.specs.declared.keys.Moment.{Moment}
use Rattle.ebs_model.specs.declared.rows.SnapRow.{SnapRow}
use Rattle.ebs_model.specs.declared.request.Request.TheVariants.{CompleteSnapshot}
use Rattle.ebs_model.specs.declared.change.Decision.{Decision}
use Rattle.ebs_model.specs.declared.change.Decision.TheVariants as decision
use Rattle.ebs_model.specs.declared.answer.Answer.TheVariants as answer
use Rattle.ebs_model.specs.declared.answer.Refusal.{Refusal}
use Rattle.ebs_model.specs.declared.answer.Refusal.TheVariants.{BadParameter, Checksum}
use Rattle.ebs_model.specs.Refuse.{◌>>=◌, ◌>>◌, refuse_if}
use Rattle.ebs_model.specs.Access.{open_upload}
use Rattle.ebs_model.specs.Rows.{Rows, the_row, with_row}
use Rattle.ebs_model.specs.Decisions.{alters}

abbrev pub decide_complete : Rows → Moment → ℕ → SnapKey → ℕ → Option (List ℕ) → Result Decision Refusal
decide_complete rows at account key count checksum = do
  row ← the_row rows key (open_upload account key at.second)
  refuse_if (not (fin.len row.put == count)) (BadParameter (codes "x-amz-ChangedBlocksCount"))
  Ok (decision.Change (alters account at (CompleteSnapshot key count checksum)) answer.Completed)

abbrev pub completed_row : SnapRow → SnapRow
completed_row row = record row { completed = true; put = fin.empty }

abbrev pub commit_complete : Rows → SnapKey → Rows
commit_complete rows key = with_row rows key completed_row

-- the stated checksum, where there is one, is the one that was found
abbrev pub refuse_checksum : Option (List ℕ) → List ℕ → Result (Unit {0}) Refusal
refuse_checksum None found = Ok tt
refuse_checksum (Some stated) found = refuse_if (not (pointwise nat_eq stated found)) (Checksum stated found)
