-- A whole head, kept while the body comes in.
use Rattle.std.specs.Prelude.{ℕ, List, ◌≡◌, ◌≤◌, length, drop, Some}
use Rattle.httparse.specs.Grammar.{RequestHead, print_request, ReadsRequest}
use Rattle.httparse.specs.Spans.{span_bytes}
use Rattle.httparse.specs.declared.spans.HeaderSpan.{HeaderSpan}
use Rattle.ebs_http.specs.Messages.{body_length, headers_of, Stands}
use Rattle.ebs_http.specs.declared.headers.Header.{Header}
use Rattle.ebs_http.specs.declared.received.ReceivedHead.{ReceivedHead}
use Rattle.ebs_http.specs.declared.received.HeadOutcome.{HeadOutcome}
use Rattle.ebs_http.specs.declared.received.HeadOutcome.TheVariants.{Received, Partial, Bad}
use Rattle.ebs_http.specs.inner.Parsing.{IsPartial}

-- the field that two spans cover
abbrev pub header_at : List ℕ → HeaderSpan → Header
header_at bytes span = record { name = span_bytes bytes span.name; value = span_bytes bytes span.value }

-- the bytes begin with this head, and received is what it states
pub record IsReceivedUnder (bytes : List ℕ) (received : ReceivedHead) (head : RequestHead) : Type 0 where
  pub reads : ReadsRequest bytes head (drop received.head_len bytes)
  pub len : received.head_len ≡ length (print_request head)
  pub head_fits : length (print_request head) ≤ 65536
  pub fields_fit : length head.fields ≤ 64
  pub method : received.method ≡ head.method
  pub target : received.target ≡ head.target
  pub headers : received.headers ≡ headers_of head
  pub stated : body_length (headers_of head) ≡ Some received.body_len
  pub body_fits : received.body_len ≤ 4194304

-- the bytes begin with a head, and received is what it states
abbrev pub HasReceived : List ℕ → ReceivedHead → Type 0
HasReceived bytes received = (head : RequestHead) × IsReceivedUnder bytes received head

-- what a whole head at the front of the bytes gives
abbrev pub IsWholeOutcome : List ℕ → HeadOutcome → Type 0
IsWholeOutcome bytes (Received received) = HasReceived bytes received
IsWholeOutcome bytes Partial = ⊥
IsWholeOutcome bytes (Bad kind) = Stands kind bytes

-- what the front of the bytes gives
abbrev pub IsOutcome : List ℕ → HeadOutcome → Type 0
IsOutcome bytes (Received received) = HasReceived bytes received
IsOutcome bytes Partial = IsPartial bytes
IsOutcome bytes (Bad kind) = Stands kind bytes
