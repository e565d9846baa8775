-- What parts of a session have done.
use Rattle.std.specs.Prelude.{◌≡◌, ℕ, ◌+◌, ◌<◌, ◌≤◌, List, [], length, take, Option, Result, Ok, Err, ◌≢◌, ◌⊎◌}
use Rattle.std.specs.Io.KnownBytes.{Consumes, IsAtEnd, Appends}
use Rattle.ebs_model.specs.declared.answer.Answer.{Answer}
use Rattle.ebs_model.specs.declared.answer.Answer.TheVariants as said
use Rattle.ebs_world.specs.Ends.{AppendsFront, Ticks, Gives}
use Rattle.ebs_http.specs.Messages.{Reads, HasNoMessage, MayGoOn, Stands}
use Rattle.ebs_http.specs.declared.message.BadKind.{BadKind}
use Rattle.ebs_http.specs.declared.message.Message.{Message}
use Rattle.ebs_exchanges.specs.Exchanges.{Exchange, messages_in, readings_in}
use Rattle.ebs_session.specs.Session.{Replying, Chain, Wrote, LeavesLast}
use Rattle.ebs_session.specs.declared.end.End.{End}
use Rattle.ebs_session.specs.declared.end.End.TheVariants.{Done, InputFailed, OutputFailed, Cut, Bad, Memory, Limit}
use Rattle.ebs_session.specs.declared.pieces.Taken.{Taken}
use Rattle.ebs_session.specs.declared.pieces.Taken.TheVariants.{Piece, End as NoMore, Failed, Limit as Full}
use Rattle.ebs_print.specs.Printed.{text_of}

-- what was taken into a room, of at most so many bytes
abbrev pub Took : Taken → ℕ → Option (List ℕ) → Option (List ℕ) → List ℕ → Type 0
Took (Piece count) most old new room = (0 < count) × (count ≤ most) × (count ≤ length room) × Consumes old new (take count room)
Took NoMore most old new room = Consumes old new [] × IsAtEnd new
Took Failed most old new room = Consumes old new []
Took Full most old new room = (most ≡ 0) × Consumes old new []

-- what was written of a text
abbrev pub Put : Result (Unit {0}) End → Option (List ℕ) → Option (List ℕ) → List ℕ → Type 0
Put (Ok _) old new text = Appends old new text
Put (Err OutputFailed) old new text = AppendsFront old new text
Put (Err Memory) old new text = Appends old new []
Put (Err Done) old new text = ⊥
Put (Err InputFailed) old new text = ⊥
Put (Err (Cut waiting)) old new text = ⊥
Put (Err (Bad place)) old new text = ⊥
Put (Err Limit) old new text = ⊥

-- one message was answered, at the clock's next reading
pub record Answered {R W : Type 0} (replies : Replying R W) (result : Result (Unit {0}) End) (message : Message) (old : R) (before : W) (new : R) (after : W) (written_old written_new clock_old clock_new : Option (List ℕ)) : Type 0 where
  pub reading : ℕ
  pub ticks : Ticks clock_old clock_new reading
  pub answer : Answer
  pub replied : replies old before message (record { second = reading }) answer new after
  pub put : Put result written_old written_new (text_of answer)
  pub told : result ≡ Err Memory → answer ≢ said.Memory

-- the messages at the front of some bytes were answered, and rest follows them
pub record Served {R W : Type 0} (replies : Replying R W) (end : End) (bytes rest : List ℕ) (old : R) (before : W) (new : R) (after : W) (written_old written_new clock_old clock_new : Option (List ℕ)) : Type 0 where
  pub exchanges : List Exchange
  pub reads : Reads bytes (messages_in exchanges) rest
  pub went : Chain replies old before exchanges new after
  pub gives : Gives clock_old (readings_in exchanges) clock_new
  pub written : List ℕ
  pub writes : Appends written_old written_new written
  pub wrote : Wrote end exchanges written
  pub wanted : end ≡ Memory → (rest ≢ []) ⊎ LeavesLast exchanges written

-- how a part ended, by what it answers: a part that is done lets the session go on
abbrev pub end_of : Result (Unit {0}) End → End
end_of (Ok _) = Done
end_of (Err end) = end

-- nothing at the front of the rest is left to be answered
abbrev pub IsServed : List ℕ → Type 0
IsServed rest = HasNoMessage rest × (rest ≢ [] → MayGoOn rest)

-- what is known of the rest of so many bytes taken
abbrev pub Rests : ℕ → Result (Unit {0}) End → List ℕ → Type 0
Rests taken (Ok _) rest = IsServed rest
Rests taken (Err (Bad place)) rest = (kind : BadKind) × Stands kind rest × (rest ≢ []) × (place + length rest ≡ taken)
Rests taken (Err OutputFailed) rest = Unit {0}
Rests taken (Err Memory) rest = Unit {0}
Rests taken (Err Done) rest = ⊥
Rests taken (Err InputFailed) rest = ⊥
Rests taken (Err (Cut waiting)) rest = ⊥
Rests taken (Err Limit) rest = ⊥
