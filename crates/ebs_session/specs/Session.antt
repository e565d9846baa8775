-- What a session takes, answers and writes, and how it ends.
use Rattle.std.specs.Prelude.{◌≡◌, List, [], ◌∷◌, ℕ, ◌≢◌, ◌+◌, ◌++◌, ◌⊎◌, length, ◌≤◌, Option}
use Rattle.std.specs.Io.KnownBytes.{Consumes, Appends, IsAtEnd}
use Rattle.ebs_model.specs.declared.keys.Moment.{Moment}
use Rattle.ebs_model.specs.declared.answer.Answer.{Answer}
use Rattle.ebs_http.specs.declared.message.Message.{Message}
use Rattle.ebs_model.specs.declared.answer.Answer.TheVariants as said
use Rattle.ebs_exchanges.specs.Exchanges.{Exchange, texts_in, messages_in, readings_in, FallsInOneWay}
use Rattle.ebs_world.specs.Ends.{IsFront, Gives}
use Rattle.ebs_http.specs.Messages.{Reads, Splits, MayGoOn, Stands}
use Rattle.ebs_http.specs.declared.message.BadKind.{BadKind}
use Rattle.ebs_session.specs.declared.end.End.{End}
use Rattle.ebs_session.specs.declared.end.End.TheVariants.{Done, InputFailed, OutputFailed, Cut, Bad, Memory, Limit}
use Rattle.ebs_model.specs.Quotas.{Rose}
use Rattle.ebs_print.specs.Printed.{text_of}

-- what a reply may be: to a message, at a moment, from what answers and its world to both afterwards
abbrev pub Replying : Type 0 → Type 0 → Type 1
Replying R W = R → W → Message → Moment → Answer → R → W → Type 0

-- each exchange is such a reply at its reading, from one state of both to the next, and the last of them ends here
abbrev pub Chain : {R W : Type 0} → Replying R W → R → W → List Exchange → R → W → Type 0
Chain replies old before [] new after = (new ≡ old) × (after ≡ before)
Chain {R} {W} replies old before (x ∷ xs) new after =
    (next : R) × (world : W) × replies old before x.message (record { second = x.reading }) x.answer next world × Chain replies next world xs new after

abbrev pub status_of : End → ℕ
status_of Done = 0
status_of InputFailed = 4
status_of OutputFailed = 5
status_of (Cut waiting) = 6
status_of (Bad place) = 7
status_of Memory = 8
status_of Limit = 9

-- the messages are all that the bytes taken have, and rest follows them; the first of them where the output failed or
-- memory was wanting
abbrev pub Covers : End → List ℕ → List Message → List ℕ → Type 0
Covers OutputFailed taken messages rest = Reads taken messages rest
Covers Memory taken messages rest = Reads taken messages rest
Covers end taken messages rest = Splits taken messages rest

-- all answers but the last were written; that one isn't want of memory, whose text is always written
abbrev pub LeavesLast : List Exchange → List ℕ → Type 0
LeavesLast exchanges written =
    (first : List Exchange) × (last : Exchange) × (exchanges ≡ first ++ last ∷ []) × (written ≡ texts_in first) × (last.answer ≢ said.Memory)

-- the answers were written and nothing else; but of the last one a front where the output failed, and maybe none of it
-- where memory was wanting
abbrev pub Wrote : End → List Exchange → List ℕ → Type 0
Wrote OutputFailed exchanges written =
    (first : List Exchange) × (last : Exchange) × (front : List ℕ) × (exchanges ≡ first ++ last ∷ []) × (written ≡ texts_in first ++ front) × IsFront front (text_of last.answer)
Wrote Memory exchanges written = (written ≡ texts_in exchanges) ⊎ LeavesLast exchanges written
Wrote end exchanges written = written ≡ texts_in exchanges

-- where memory was wanting something was left to do: nothing was taken yet, bytes wait, or an answer wasn't written
abbrev pub LeavesWork : List ℕ → List ℕ → List Exchange → List ℕ → Type 0
LeavesWork taken rest exchanges written = (taken ≡ []) ⊎ ((rest ≢ []) ⊎ LeavesLast exchanges written)

-- why the session ended, by the bytes taken, of at most `limit`, and the rest of them behind the last message; `told` says
-- that the input was told to be at its end. `Cut` tells how many bytes the rest has, and `Bad` how many were taken before it. That
-- the output or memory failed is told of what was written
abbrev pub Ends : End → Type 0 → ℕ → List ℕ → List ℕ → Type 0
Ends Done told limit taken rest = told × (rest ≡ [])
Ends (Cut waiting) told limit taken rest = told × (rest ≢ []) × MayGoOn rest × (waiting ≡ length rest)
Ends (Bad place) told limit taken rest = (kind : BadKind) × Stands kind rest × (rest ≢ []) × (place + length rest ≡ length taken)
Ends Limit told limit taken rest = length taken ≡ limit
Ends InputFailed told limit taken rest = Unit {0}
Ends OutputFailed told limit taken rest = Unit {0}
Ends Memory told limit taken rest = Unit {0}

-- a session took bytes, at most `limit`, answered their messages, each at one reading of the clock, wrote the answers, and
-- ended so; of the exchanges `Went` holds
pub record Session (limit : ℕ) (end : End) (Went : List Exchange → Type 0) (left_old left_new written_old written_new clock_old clock_new : Option (List ℕ)) : Type 0 where
  pub taken : List ℕ
  pub takes : Consumes left_old left_new taken
  pub few : length taken ≤ limit
  pub exchanges : List Exchange
  pub rest : List ℕ
  pub covers : Covers end taken (messages_in exchanges) rest
  pub went : Went exchanges
  pub gives : Gives clock_old (readings_in exchanges) clock_new
  pub written : List ℕ
  pub writes : Appends written_old written_new written
  pub wrote : Wrote end exchanges written
  pub one_way : FallsInOneWay exchanges
  pub ends : Ends end (IsAtEnd left_new) limit taken rest
  pub wanted : end ≡ Memory → LeavesWork taken rest exchanges written

-- what an end says of the counts of faults, of the source and of the sink
pub record TellsOf (end : End) (source_old source_new sink_old sink_new : ℕ) : Type 0 where
  pub input : end ≡ InputFailed → Rose source_old source_new
  pub input_quiet : (end ≡ InputFailed → ⊥) → source_new ≡ source_old
  pub output : end ≡ OutputFailed → Rose sink_old sink_new
  pub output_quiet : (end ≡ OutputFailed → ⊥) → sink_new ≡ sink_old
