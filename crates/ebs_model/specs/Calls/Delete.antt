-- DeleteSnapshot: a snapshot goes to the bin, or is taken out (EBS User Guide, deleting a snapshot; Recycle Bin documentation).
use Rattle.std.specs.Prelude.{ℕ, nat_lt, Option, None, Some, Result, Ok, if◌then◌else◌}
use Rattle.std.specs.FinMap as fin
use Rattle.ebs_model.specs.declared.keys.SnapKey.{SnapKey}
use Rattle.ebs_model.specs.declared.keys.Moment.{Moment}
use Rattle.ebs_model.specs.declared.rows.SnapRow.{SnapRow}
use Rattle.ebs_model.specs.declared.request.Request.TheVariants.{DeleteSnapshot}
use Rattle.ebs_model.specs.declared.change.Decision.{Decision}
use Rattle.ebs_model.specs.declared.change.Decision.TheVariants as decision
use Rattle.ebs_model.specs.declared.answer.Answer.TheVariants.{Done}
use Rattle.ebs_model.specs.declared.answer.StateName.TheVariants.{Pending}
use Rattle.ebs_model.specs.declared.answer.Refusal.{Refusal}
use Rattle.ebs_model.specs.declared.answer.Refusal.TheVariants.{Locked, WrongState}
use Rattle.ebs_model.specs.Refuse.{refuse_if, ◌>>=◌, ◌>>◌}
use Rattle.ebs_model.specs.Time.{status_at, is_pending}
use Rattle.ebs_model.specs.Access.{own}
use Rattle.ebs_model.specs.Views.{lock_until}
use Rattle.ebs_model.specs.Rules.{retention, bin_end}
use Rattle.ebs_model.specs.Rows.{Rows, the_row, book_of}
use Rattle.ebs_model.specs.Decisions.{ends}

-- refused while a lock lasts
abbrev pub refuse_locked : Option Moment → ℕ → Result (Unit {0}) Refusal
refuse_locked None now = Ok tt
refuse_locked (Some until) now = refuse_if (nat_lt now until.second) (Locked until)

-- an upload is either completed or has failed
abbrev pub decide_delete : Rows → Moment → ℕ → SnapKey → Result Decision Refusal
decide_delete rows at account key = do
  row ← the_row rows key (own account key at.second)
  refuse_if (is_pending (status_at row at.second)) (WrongState Pending)
  refuse_locked (lock_until row.lock) at.second
  Ok (decision.Change (ends account at (DeleteSnapshot key) key) Done)

-- how many days a deleted snapshot stays in the bin: the most of its account's rules that match it; a failed upload doesn't stay
abbrev pub days_in_bin : Rows → SnapKey → SnapRow → Option ℕ
days_in_bin rows key row = if row.completed then retention (book_of rows key.account) row.tags else None

abbrev pub deleted_by : Rows → Moment → SnapKey → SnapRow → Option ℕ → Rows
deleted_by rows at key row None = record rows { snaps = fin.remove rows.snaps key }
deleted_by rows at key row (Some days) = record rows { snaps = fin.insert rows.snaps key (record row { bin_end = Some (bin_end at.second days) }) }

abbrev pub deleted : Rows → Moment → SnapKey → Option SnapRow → Rows
deleted rows at key None = rows
deleted rows at key (Some row) = deleted_by rows at key row (days_in_bin rows key row)

abbrev pub commit_delete : Rows → Moment → SnapKey → Rows
commit_delete rows at key = deleted rows at key (fin.get rows.snaps key)
