-- The calls of a sample.
use Rattle.std.specs.Prelude.{◌-◌, ◌%◌, ◌==◌, ℕ, if◌then◌else◌, List, [], ◌∷◌, zero, suc, ◌+◌, ◌++◌, Option, None, Some, replicate, Bool, true, false, map, ◌≡◌, ◌⊎◌, length, Result}
use Rattle.sha2.specs.Sha256.{sha256}
use Rattle.ebs_world.specs.Ends.{Outlet}
use Rattle.ebs_world.specs.View.{View, Leaves}
use Rattle.ebs_model.specs.declared.keys.Moment.{Moment}
use Rattle.ebs_model.specs.declared.keys.SnapKey.{SnapKey}
use Rattle.ebs_model.specs.declared.keys.VolKey.{VolKey}
use Rattle.ebs_model.specs.declared.request.Request.{Request}
use Rattle.ebs_model.specs.declared.request.Request.TheVariants as asks
use Rattle.ebs_model.specs.declared.answer.Answer.{Answer}
use Rattle.ebs_model.specs.declared.answer.Answer.TheVariants as said
use Rattle.ebs_model.specs.declared.answer.Refusal.TheVariants.{Unavailable}
use Rattle.ebs_commands.specs.Lines.{sample_lines}
use Rattle.ebs_commands.specs.Collects.{CollectedAs}
use Rattle.ebs_commands.specs.Ends.{Writes}
use Rattle.ebs_commands.specs.Ticks.{Asked, goes_on}
use Rattle.ebs_commands.specs.declared.ending.CommandEnd.{CommandEnd}
use Rattle.ebs_commands.specs.declared.ending.CommandEnd.TheVariants.{Done, DiskFailed, AlreadyMade, OutputFailed, Memory, Damaged, Exhausted}
use Rattle.ebs_commands.specs.declared.rounds.SampleCall.{SampleCall}
use Rattle.ebs_commands.specs.declared.rounds.SampleCall.TheVariants.{Start, Put, Complete, Write, Delete, CreateVolume, CreateSnapshot}
use Rattle.ebs_disk_store.specs.Opened.{NoneNewOrOld}
use Rattle.ebs_disk_store.specs.declared.collecting.Usage.{Usage}
use Rattle.ebs_disk_store.specs.declared.pointing.StoreStop.{StoreStop}
use Rattle.ebs_model.specs.Quotas.{block_size}

-- the calls of a round: a snapshot of two blocks, whose parent is the one of the round before, and a write of the volume's
-- first block; in each third round the snapshot before is deleted
abbrev pub round_calls : ℕ → List SampleCall
round_calls r =
    Start r ∷ Put r (r % 16) (r % 256) ∷ Put r 100 (r % 7) ∷ Complete r ∷ Write r (255 - r % 256) ∷ (if r % 3 == 2 then Delete r ∷ [] else [])

-- the rounds below this number
abbrev pub rounds_below : ℕ → List SampleCall
rounds_below zero = []
rounds_below (suc n) = rounds_below n ++ round_calls n

abbrev pub sample_calls : ℕ → List SampleCall
sample_calls n = CreateVolume ∷ (rounds_below n ++ (CreateSnapshot n ∷ Write n 9 ∷ []))

abbrev pub snapshot : ℕ → SnapKey
snapshot r = record { account = 1; number = r }

-- the snapshot of the round before
abbrev pub before : ℕ → Option SnapKey
before r = if r == 0 then None else Some (snapshot (r - 1))

abbrev pub volume : VolKey
volume = record { account = 1; number = 0 }

-- one byte over and over
unfoldable pub filled : ℕ → ℕ → List ℕ
filled count byte = replicate count byte

abbrev pub block_of : ℕ → List ℕ
block_of byte = filled block_size byte

abbrev pub request_of : SampleCall → Request
request_of CreateVolume = asks.CreateVolume None (Some 1) [] None
request_of (Start r) = asks.StartSnapshot 1 (before r) None [] None 60
request_of (Put r index byte) = asks.PutSnapshotBlock (snapshot r) index (sha256 (block_of byte)) (block_of byte)
request_of (Complete r) = asks.CompleteSnapshot (snapshot r) 2 None
request_of (Write r byte) = asks.WriteVolumeBlock volume 0 (sha256 (block_of byte)) (block_of byte)
request_of (Delete r) = asks.DeleteSnapshot (snapshot (r - 1))
request_of (CreateSnapshot r) = asks.CreateSnapshot volume None []

abbrev pub round_of : SampleCall → ℕ
round_of CreateVolume = 0
round_of (Start r) = r
round_of (Put r index byte) = r
round_of (Complete r) = r
round_of (Write r byte) = r
round_of (Delete r) = r
round_of (CreateSnapshot r) = r

-- a round is at second 1000 and its number, and the last calls and the collection behind all rounds
abbrev pub moment_in : ℕ → Moment
moment_in r = record { second = 1000 + r }

abbrev pub asked_of : SampleCall → Asked
asked_of c = record { account = 1; reading = moment_in (round_of c); request = request_of c }

-- whether an answer is no refusal
abbrev pub is_accepted : Answer → Bool
is_accepted (said.Refused refusal) = false
is_accepted answer = true

abbrev pub Answers : Type 0
Answers = List (Asked × Answer)

abbrev pub asked_in : Answers → List Asked
asked_in answers = map (λ (x : Asked × Answer). x.0) answers

-- how many answers are no refusals
abbrev pub accepted_in : Answers → ℕ
accepted_in [] = 0
accepted_in (x ∷ xs) = (if is_accepted x.1 then 1 else 0) + accepted_in xs

-- after each of these answers the next call is given
abbrev pub GoOn : Answers → Type 0
GoOn [] = Unit {0}
GoOn (x ∷ xs) = (goes_on x.1 ≡ true) × GoOn xs

-- each call was given
abbrev pub AreAll : List SampleCall → Answers → Type 0
AreAll calls answers = (map asked_of calls ≡ asked_in answers) × GoOn answers

-- the calls that were given are a front of these
abbrev pub AreFrontOf : List SampleCall → Answers → Type 0
AreFrontOf calls answers = (rest : List Asked) × (map asked_of calls ≡ asked_in answers ++ rest)

-- this was the last answer, and the first that ended the calls
abbrev pub EndAt : Answer → Answers → Type 0
EndAt answer answers = (first : Answers) × (last : Asked) × (answers ≡ first ++ (last, answer) ∷ []) × GoOn first

-- why not all of the calls were given: the first answer that the disk failed, or memory
abbrev pub StopAt : CommandEnd → List SampleCall → Answers → Type 0
StopAt DiskFailed calls answers = AreFrontOf calls answers × EndAt (said.Refused Unavailable) answers
StopAt Memory calls answers = AreFrontOf calls answers × (GoOn answers ⊎ EndAt said.Memory answers)
StopAt Done calls answers = ⊥
StopAt OutputFailed calls answers = ⊥
StopAt AlreadyMade calls answers = ⊥
StopAt Damaged calls answers = ⊥
StopAt Exhausted calls answers = ⊥

-- how a sample ends, and what was written: its calls ended early, and nothing was done behind them; or all were given, and the end says how the collection
-- behind them ended
pub record SampleEnds (end : CommandEnd) (Faults Nothing Failed : Type 0) (Finished : Result (Unit {0}) StoreStop → Type 0) (usage : Usage) (calls : List SampleCall) (answers : Answers) (old new : Outlet) : Type 0 where
  pub went : (StopAt end calls answers × Nothing) ⊎ (AreAll calls answers × CollectedAs end Failed Finished)
  pub written : Writes end (sample_lines (length answers) (accepted_in answers) usage) old new
  pub rose : end ≡ DiskFailed → Faults

abbrev pub zeros : List ℕ
zeros = replicate 32 0

-- at each moment of a making on an honest disk there is no store, the new one, or an image is one of before
abbrev pub Begins : View → View → Type 0
Begins old new = old.tells ≡ true → old.honest ≡ true → Leaves old new (NoneNewOrOld old zeros)
