-- Beside what is promised: the messages of a stream of bytes (RFC 9112, sections 2 to 6).
use Rattle.std.specs.Prelude.{ℕ, List, [], ◌++◌}
use Rattle.ebs_http.specs.declared.message.Message.{Message}
use Rattle.ebs_http.specs.Messages.{ReadsMessage, HasNoMessage}

-- the bytes are the message m and nothing else
abbrev pub IsMessage : List ℕ → Message → Type 0
IsMessage text m = ReadsMessage text m []

-- no more bytes make them begin with one
abbrev pub NeverHasMessage : List ℕ → Type 0
NeverHasMessage bytes = (more : List ℕ) → HasNoMessage (bytes ++ more)
