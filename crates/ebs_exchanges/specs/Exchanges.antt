-- The messages of a session and their answers, one after another.
use Rattle.std.specs.Prelude.{ℕ, List, map, ◌≡◌, ◌<◌, ◌^◌, length}
use Rattle.std.specs.List.{flat_map}
use Rattle.ebs_model.specs.declared.answer.Answer.{Answer}
use Rattle.ebs_http.specs.declared.message.Message.{Message}
use Rattle.ebs_print.specs.Printed.{text_of}

-- a message, the reading of the clock at which it was answered, in seconds, and its answer
pub record Exchange : Type 0 where
  pub message : Message
  pub reading : ℕ
  pub answer : Answer

abbrev pub messages_in : List Exchange → List Message
messages_in xs = map (λ x. x.message) xs

abbrev pub readings_in : List Exchange → List ℕ
readings_in xs = map (λ x. x.reading) xs

-- the texts of the answers, joined in their order
abbrev pub texts_in : List Exchange → List ℕ
texts_in xs = flat_map (λ x. text_of x.answer) xs

-- fewer than 2^64 bytes of answers fall into answers in one way
abbrev pub FallsInOneWay : List Exchange → Type 0
FallsInOneWay exchanges = (others : List Answer) → length (texts_in exchanges) < 2 ^ 64 → texts_in exchanges ≡ flat_map text_of others → map (λ x. text_of x.answer) exchanges ≡ map text_of others
