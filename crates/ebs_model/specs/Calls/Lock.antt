-- LockSnapshot and UnlockSnapshot: the lock of a snapshot (EBS User Guide, snapshot lock).
use Rattle.std.specs.Prelude.{codes, Result, Ok, Err, Option, None, Some, ℕ}
use Rattle.ebs_model.specs.declared.keys.SnapKey.{SnapKey}
use Rattle.ebs_model.specs.declared.keys.Moment.{Moment}
use Rattle.ebs_model.specs.declared.rows.SnapRow.{SnapRow}
use Rattle.ebs_model.specs.declared.rows.LockState.{LockState}
use Rattle.ebs_model.specs.declared.lock.LockCommand.{LockCommand}
use Rattle.ebs_model.specs.declared.lock.LockRefusal.{LockRefusal}
use Rattle.ebs_model.specs.declared.lock.LockRefusal.TheVariants.{Unlocked, BadDate}
use Rattle.ebs_model.specs.declared.lock.LockRefusal.TheVariants as lock
use Rattle.ebs_model.specs.declared.views.LockName.{LockName}
use Rattle.ebs_model.specs.declared.request.Request.{Request}
use Rattle.ebs_model.specs.declared.change.Decision.{Decision}
use Rattle.ebs_model.specs.declared.change.Decision.TheVariants as decision
use Rattle.ebs_model.specs.declared.answer.Answer.{Answer}
use Rattle.ebs_model.specs.declared.answer.Answer.TheVariants.{Done, LockShown}
use Rattle.ebs_model.specs.declared.answer.StateName.TheVariants as state
use Rattle.ebs_model.specs.declared.answer.Refusal.{Refusal}
use Rattle.ebs_model.specs.declared.answer.Refusal.TheVariants.{WrongState, Locked, BadParameter}
use Rattle.ebs_model.specs.Refuse.{◌>>=◌, or_left}
use Rattle.ebs_model.specs.Access.{done}
use Rattle.ebs_model.specs.Locks.{lock_change}
use Rattle.ebs_model.specs.Views.{lock_shown, lock_until}
use Rattle.ebs_model.specs.Rows.{Rows, the_row, with_row}
use Rattle.ebs_model.specs.Decisions.{alters}

abbrev pub lock_refusal : LockRefusal → Refusal
lock_refusal Unlocked = WrongState state.Unlocked
lock_refusal (lock.Locked until) = Locked until
lock_refusal BadDate = BadParameter (codes "ExpirationDate")

abbrev pub changed_lock : Result LockState LockRefusal → Result LockState Refusal
changed_lock (Ok new) = Ok new
changed_lock (Err r) = Err (lock_refusal r)

-- the lock as it is then, where there is one
abbrev pub lock_answer : Option LockName → Option Moment → Answer
lock_answer None until = Done
lock_answer (Some name) until = LockShown name until

abbrev pub decide_lock : Rows → Moment → ℕ → Request → SnapKey → LockCommand → Result Decision Refusal
decide_lock rows at account request key command = do
  row ← the_row rows key (done account key at.second)
  new ← changed_lock (lock_change row.lock command at.second)
  Ok (decision.Change (alters account at request) (lock_answer (lock_shown new at.second) (lock_until new)))

abbrev pub locked_row : Moment → LockCommand → SnapRow → SnapRow
locked_row at command row = record row { lock = or_left row.lock (lock_change row.lock command at.second) }

abbrev pub commit_lock : Rows → Moment → SnapKey → LockCommand → Rows
commit_lock rows at key command = with_row rows key (locked_row at command)
