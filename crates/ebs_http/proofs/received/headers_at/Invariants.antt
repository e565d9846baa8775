use Rattle.std.proofs.Common.{◌≡◌, take, map}
use Rattle.ebs_http.specs.inner.Received.{header_at}
use Rattle.ebs_http.proofs.received.headers_at.Given as goal

abbrev pub invariant-loop-span : goal.invariant-loop-span
invariant-loop-span l = l.headers.items ≡ map (header_at l.front) (take l.span-index l.spans)
