-- Beside what is promised: the call that a message asks for.
use Rattle.std.specs.Prelude.{ℕ, List}
use Rattle.ebs_http.specs.declared.message.Message.{Message}

-- the message, with this body
abbrev pub with_body : Message → List ℕ → Message
with_body message body = record message { body = body }
