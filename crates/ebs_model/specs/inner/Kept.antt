-- Beside what is promised: the kept form of the machine: each block has its digest in the place of its bytes, and a digest is found as it stands.
use Rattle.std.specs.Prelude.{Result, Ok, Err, ◌≡◌, ℕ}
use Rattle.sha2.specs.Sha256.{sha256}
use Rattle.ebs_model.specs.declared.request.Request.{Request}
use Rattle.ebs_model.specs.declared.answer.Answer.{Answer}
use Rattle.ebs_model.specs.declared.answer.Answer.TheVariants as answer
use Rattle.ebs_model.specs.declared.answer.Refusal.{Refusal}
use Rattle.ebs_model.specs.Arrays.{WholeBlock, WholeArray}
use Rattle.ebs_model.specs.Time.{Snapshot}
use Rattle.ebs_model.specs.declared.keys.Moment.{Moment}
use Rattle.ebs_model.specs.Machine.{Machine, advance}
use Rattle.ebs_model.specs.Step.{act}
use Rattle.ebs_model.specs.Kept.{kept_request, same}
use Rattle.ebs_model.specs.inner.MapValues.{map_values}

abbrev pub digested_block : WholeBlock → WholeBlock
digested_block b = record b { bytes = sha256 b.bytes }

abbrev pub digested_array : WholeArray → WholeArray
digested_array a = map_values digested_block a

abbrev pub digested_snapshot : Snapshot → Snapshot
digested_snapshot s = record { row = s.row; array = digested_array s.array }

-- the kept form
abbrev pub digested : Machine → Machine
digested m = record m { snaps = map_values digested_snapshot m.snaps; disks = map_values digested_array m.disks }

-- an answer that carries bytes carries their digest
abbrev pub kept_answer : Answer → Answer
kept_answer (answer.BlockRead digest bytes) = answer.BlockRead digest (sha256 bytes)
kept_answer other = other

abbrev pub kept_outcome : Result (Machine × Answer) Refusal → Result (Machine × Answer) Refusal
kept_outcome (Ok done) = Ok (digested done.0, kept_answer done.1)
kept_outcome (Err r) = Err r

-- what a machine does, its kept form does
abbrev pub ActsAlike : Type 0
ActsAlike = (m : Machine) (account : ℕ) (request : Request) → act same (digested m) account (kept_request request) ≡ kept_outcome (act sha256 m account request)

-- and so does time
abbrev pub AgesAlike : Type 0
AgesAlike = (m : Machine) (now : Moment) → advance (digested m) now ≡ digested (advance m now)
