-- What a start makes, and which ids are given out.
use Rattle.std.specs.Prelude.{◌≡◌, ◌≢◌, ℕ, ◌≤◌, ◌<◌, ◌==◌, ◌&&◌, ◌+◌, ◌*◌, false, not, nat_lt, List}
use Rattle.std.specs.List.{count_by}
use Rattle.std.specs.FinMap as fin
use Rattle.std.specs.declared.option.Option.{Option}
use Rattle.std.specs.declared.option.Option.TheVariants.{Some}
use Rattle.ebs_model.specs.declared.keys.SnapKey.{SnapKey}
use Rattle.ebs_model.specs.declared.keys.Moment.{Moment}
use Rattle.ebs_model.specs.declared.tags.Tag.{Tag}
use Rattle.ebs_model.specs.declared.request.Request.TheVariants.{StartSnapshot}
use Rattle.ebs_model.specs.declared.answer.Answer.TheVariants.{Started}
use Rattle.ebs_model.specs.Time.{Snapshot}
use Rattle.ebs_model.specs.Machine.{Machine, advance}
use Rattle.ebs_model.specs.Step.{step}
use Rattle.ebs_model.specs.Timed.{Timed, turn, after_all}
use Rattle.ebs_laws.specs.Words.{moment_at, IsNewRow, IsUnused, is_repeat, next_number, started_id}

-- no account's next number ever falls
abbrev pub NumbersNeverFall : Type 0
NumbersNeverFall = (m : Machine) (turns : List Timed) (account : ℕ) → next_number m account ≤ next_number (after_all m turns) account

-- two snapshots that were made by calls that repeat no start, as uploads or of volumes, differ in their ids, whatever was called between them
abbrev pub StartedIdsDiffer : Type 0
StartedIdsDiffer =
    (m : Machine) (first second : Timed) (between : List Timed) (a b : SnapKey)
    → let n = after_all (turn m first).0 between in is_repeat m first.call.account first.call.request ≡ false → is_repeat n second.call.account second.call.request ≡ false
    → started_id (turn m first).1 ≡ Some a → started_id (turn n second).1 ≡ Some b → a ≢ b

-- the row of an upload that this call started is what the request asked for, and the answer says it
pub record IsStarted (m : Machine) (account : ℕ) (reading : Moment) (size : ℕ) (parent : Option SnapKey) (text : Option (List ℕ)) (tags : List Tag) (timeout : ℕ) (told : Option (List ℕ)) (owner : ℕ) (from : Option SnapKey) (key : SnapKey) (begin : Moment) (shown : List Tag) (gib : ℕ) (new : Machine) : Type 0 where
  pub snapshot : Snapshot
  pub is_there : fin.get new.snaps key ≡ Some snapshot
  pub row : IsNewRow key (moment_at m reading) (record { size = size; parent = parent; description = text; tags = tags; timeout = timeout }) snapshot.row
  pub owned : key.account ≡ account
  pub told_is : told ≡ text
  pub owner_is : owner ≡ account
  pub from_is : from ≡ parent
  pub begin_is : begin ≡ moment_at m reading
  pub shown_are : shown ≡ tags
  pub size_is : gib ≡ size

abbrev pub StartedRowIsWanted : Type 0
StartedRowIsWanted =
    (m : Machine) (account : ℕ) (reading : Moment) (size : ℕ) (parent : Option SnapKey) (text : Option (List ℕ)) (tags : List Tag) (token : Option (List ℕ)) (timeout : ℕ) (told : Option (List ℕ)) (owner : ℕ) (from : Option SnapKey) (key : SnapKey) (begin : Moment) (shown : List Tag) (gib : ℕ)
    → let s = step m account reading (StartSnapshot size parent text tags token timeout) in IsUnused m account token → s.1 ≡ Started told owner from key begin shown gib
    → IsStarted m account reading size parent text tags timeout told owner from key begin shown gib s.0

-- an account starts an upload only where it has fewer than 10000 snapshots of its own, and fewer than 100 of its own
-- uploads are open at that second
abbrev pub StartHasRoom : Type 0
StartHasRoom =
    (m : Machine) (account : ℕ) (reading : Moment) (size : ℕ) (parent : Option SnapKey) (text : Option (List ℕ)) (tags : List Tag) (token : Option (List ℕ)) (timeout : ℕ) (told : Option (List ℕ)) (owner : ℕ) (from : Option SnapKey) (key : SnapKey) (begin : Moment) (shown : List Tag) (gib : ℕ)
    → let now = moment_at m reading in let kept = fin.entries (advance m now).snaps in IsUnused m account token
    → (step m account reading (StartSnapshot size parent text tags token timeout)).1 ≡ Started told owner from key begin shown gib
    → (count_by (λ e. e.0.account == account) kept < 10000)
    × (count_by (λ e. (e.0.account == account) && (not e.1.row.completed && nat_lt now.second (e.1.row.last.second + 60 * e.1.row.timeout))) kept < 100)
