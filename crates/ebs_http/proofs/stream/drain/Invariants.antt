use Rattle.std.proofs.Common.{ℕ, List, length}
use Rattle.ebs_http.specs.Messages.{Reads}
use Rattle.ebs_http.proofs.stream.drain.Given as goal

abbrev pub invariant-loop-message : goal.invariant-loop-message
invariant-loop-message l = (stream : List ℕ) → Reads stream l.initial.messages.items l.initial.framer.bytes → Reads stream l.messages.items l.framer.bytes

abbrev pub decreases-loop-message : goal.decreases-loop-message
decreases-loop-message l = length l.framer.bytes
