-- What contracts see of a framer, and what it gives.
use Rattle.std.specs.Prelude.{ℕ, List, Option, ◌≡◌, Some, None, ◌⊎◌, ⊤}
use Rattle.httparse.specs.Spans.{RequestExceeds}
use Rattle.ebs_http.specs.Messages.{ReadsMessage, HasNoMessage, Stands, MayGoOn, HasHead}
use Rattle.ebs_http.specs.declared.message.BadKind.{BadKind}
use Rattle.ebs_http.specs.declared.message.Step.{Step}
use Rattle.ebs_http.specs.declared.message.Step.TheVariants.{Message, More, Bad, Memory}

-- the bytes that wait, and the kind that was given of them, if one was
pub record Waiting : Type 0 where
  pub bytes : List ℕ
  pub bad : Option BadKind

-- what a step says of the bytes that wait before and after it
abbrev pub Gives : Waiting → Waiting → Step → Type 0
Gives old new (Message m) = (old.bad ≡ None) × (new.bad ≡ None) × ReadsMessage old.bytes m new.bytes
Gives old new More = (old.bad ≡ None) × (new ≡ old) × HasNoMessage new.bytes × MayGoOn new.bytes
Gives old new (Bad kind) = (new.bad ≡ Some kind) × (new.bytes ≡ old.bytes) × Stands kind new.bytes
Gives old new Memory = (old.bad ≡ None) × (new ≡ old)

-- a whole head stands in front, or more than 64 fields have begun: some front and an empty line are such a head
abbrev pub TakesMemory : List ℕ → Type 0
TakesMemory bytes = HasHead bytes (λ head. ⊤) ⊎ RequestExceeds 64 bytes

-- a head and a body are no longer
abbrev pub longest_message : ℕ
longest_message = 4259840

-- such a message, and a piece of 65536 bytes behind it
abbrev pub roomiest : ℕ
roomiest = 4325376
