-- From the first 65536 bytes to all of them.
use Rattle.std.proofs.Common.{◌≡◌, ℕ, ◌<◌, ◌≤◌, List, [], ◌++◌, length, take, drop, map, Result, Ok, Err, OnErr, append_assoc, sym, ap, ◌∙◌, arith, subst, length-append, length-drop, length-take, inl, inr}
use Rattle.std.specs.Prelude.{IfOk}
use Rattle.std.proofs.lemmas.List.{take_all, drop-append-le, take-append-drop}
use Rattle.std.proofs.lemmas.Simd.{map-map}
use Rattle.std.proofs.lemmas.Result.{IfOk-weaker}
use Rattle.httparse.specs.Grammar.{Field, print_request, ReadsRequest, HasNoRequest, MayBecomeRequest}
use Rattle.httparse.specs.Spans.{header_bytes, name_and_value}
use Rattle.httparse.specs.declared.spans.HeaderSpan.{HeaderSpan}
use Rattle.httparse.proofs.GrammarLemmas.{ReadsRequest-append}
use Rattle.ebs_http.specs.declared.headers.Header.{Header}
use Rattle.ebs_http.specs.Messages.{header_of, HasNoMessage, Stands, MayGoOn}
use Rattle.ebs_http.specs.inner.Received.{header_at, HasReceived, IsWholeOutcome, IsOutcome}
use Rattle.ebs_http.specs.declared.message.BadKind.TheVariants.{BadHead, TooLongHead, BodyTooLong, BadLength}
use Rattle.ebs_http.specs.declared.received.ReceivedHead.{ReceivedHead}
use Rattle.ebs_http.specs.declared.received.HeadOutcome.{HeadOutcome}
use Rattle.ebs_http.specs.declared.received.HeadOutcome.TheVariants.{Received, Partial, Bad}
use Rattle.ebs_http.specs.inner.Parsing.{IsPartial, IsOpenAfter}
use Rattle.ebs_http.specs.inner.Waiting.{TakesMemory, longest_message}
use Rattle.ebs_http.specs.inner.Begun.{HasBegun}
use Rattle.ebs_http.proofs.BegunLemmas.{begun_none, begun_may}
use Rattle.ebs_http.proofs.MessageLemmas.{stands_append}

abbrev header_from : List ℕ × List ℕ → Header
header_from p = record { name = p.0; value = p.1 }

-- spans that cover fields give their names and values
pub same_headers : (bytes : List ℕ) (spans : List HeaderSpan) (fields : List Field)
    → map (header_bytes bytes) spans ≡ map name_and_value fields → map (header_at bytes) spans ≡ map header_of fields
same_headers bytes spans fields e =
    sym (map-map header_from (header_bytes bytes) spans) ∙ (ap (map header_from) e ∙ map-map header_from name_and_value fields)

pub front_short : (bytes : List ℕ) → length (take 65536 bytes) ≤ 65536
front_short bytes = omega (arith, length-take 65536 bytes)

-- the whole head stands in the bytes
pub received_within : (bytes : List ℕ) (received : ReceivedHead) → HasReceived bytes received → received.head_len ≤ length bytes
received_within bytes received (h, b) =
    let whole = ap (λ (x : List ℕ). length x) b.reads.1 in
    let parts = length-append (print_request h) (drop received.head_len bytes) in
    let len = b.len in
    omega arith

-- a received head stays when more bytes follow
pub received_append : (bytes more : List ℕ) (received : ReceivedHead) → HasReceived bytes received → HasReceived (bytes ++ more) received
received_append bytes more received (h, b) =
    let within = received_within bytes received (h, b) in (
      h,
      record {
        reads = subst (λ (x : List ℕ). ReadsRequest (bytes ++ more) h x) (sym (drop-append-le received.head_len bytes more within)) (ReadsRequest-append bytes h (drop received.head_len bytes) more b.reads);
        len = b.len;
        head_fits = b.head_fits;
        fields_fit = b.fields_fit;
        method = b.method;
        target = b.target;
        headers = b.headers;
        stated = b.stated;
        body_fits = b.body_fits;
      },
    )

outcome_append : (bytes more : List ℕ) (b : HeadOutcome) → IsWholeOutcome bytes b → IsOutcome (bytes ++ more) b
outcome_append bytes more (Received received) h = received_append bytes more received h
outcome_append bytes more Partial h = absurd h
outcome_append bytes more (Bad kind) h = stands_append kind bytes more h

-- what a whole head at the front gives is so of all the bytes
pub outcome_all : {E : Type 0} (bytes : List ℕ) (r : Result HeadOutcome E) → IfOk r (IsWholeOutcome (take 65536 bytes)) → IfOk r (IsOutcome bytes)
outcome_all bytes r h =
    IfOk-weaker r (IsWholeOutcome (take 65536 bytes)) (IsOutcome bytes)
    (λ b outcome. subst (λ (x : List ℕ). IsOutcome x b) (take-append-drop 65536 bytes) (outcome_append (take 65536 bytes) (drop 65536 bytes) b outcome)) h

-- a bad head at the front is one of all the bytes
pub bad_all : (bytes : List ℕ) → Stands BadHead (take 65536 bytes) → Stands BadHead bytes
bad_all bytes bad = subst (λ (x : List ℕ). Stands BadHead x) (take-append-drop 65536 bytes) (stands_append BadHead (take 65536 bytes) (drop 65536 bytes) bad)

front_all : (bytes : List ℕ) → length (take 65536 bytes) < 65536 → take 65536 bytes ≡ bytes
front_all bytes h = take_all 65536 bytes (omega (arith, length-take 65536 bytes))

no_head_no_message : (bytes : List ℕ) → HasNoRequest bytes → HasNoMessage bytes
no_head_no_message bytes none m rest (h, a) = none h _ a.reads

may_go_on : (bytes : List ℕ) → IsPartial bytes → MayBecomeRequest bytes → MayGoOn bytes
may_go_on bytes p (inl (more, h, reads)) BadHead (inl never) = absurd (never more h [] reads)
may_go_on bytes p (inr ends) BadHead (inl never) = record { ends = ends; never = never; short = p.short }
may_go_on bytes p may BadHead (inr (h, rest, reads, many)) = absurd (p.none h rest reads)
may_go_on bytes p may TooLongHead stands = absurd (let long = stands.0 in let short = p.short in omega arith)
may_go_on bytes p may BadLength (h, rest, reads, bad) = absurd (p.none h rest reads)
may_go_on bytes p may (BodyTooLong n) (h, rest, reads, bad) = absurd (p.none h rest reads)

-- while the head is partial the framer waits
pub partial_more : (bytes : List ℕ) → IsPartial bytes → HasNoMessage bytes × MayGoOn bytes
partial_more bytes p = (no_head_no_message bytes p.none, may_go_on bytes p p.may)

-- a partial head in a short front
pub partial_all : (bytes : List ℕ) → IsPartial (take 65536 bytes) → IsPartial bytes
partial_all bytes p = subst IsPartial (front_all bytes p.short) p

-- field lines that may go on are a head that may
pub open_partial : (bytes : List ℕ) (n : ℕ) → HasBegun bytes n → IsOpenAfter bytes n → IsPartial bytes
open_partial bytes n begun o = record { none = begun_none bytes n begun o.none; short = o.short; may = begun_may bytes n begun o.may }

-- a head that was received stands in front
pub received_takes : (bytes : List ℕ) (received : ReceivedHead) → HasReceived bytes received → TakesMemory bytes
received_takes bytes received (h, b) = inl (h, drop received.head_len bytes, b.reads, tt)

takes_append : (bytes more : List ℕ) → TakesMemory bytes → TakesMemory (bytes ++ more)
takes_append bytes more (inl (h, rest, reads, any)) = inl (h, rest ++ more, ReadsRequest-append bytes h rest more reads, tt)
takes_append bytes more (inr (front, rest, split, h, reads, many)) =
    inr (front, rest ++ more, ap (λ (x : List ℕ). x ++ more) split ∙ append_assoc front rest more, h, reads, many)

-- what takes memory at the front does so of all the bytes
pub takes_all : (bytes : List ℕ) → TakesMemory (take 65536 bytes) → TakesMemory bytes
takes_all bytes h = subst TakesMemory (take-append-drop 65536 bytes) (takes_append (take 65536 bytes) (drop 65536 bytes) h)

pub at_error : {T E P : Type 0} (r : Result T E) → P → OnErr r P
at_error (Ok x) p = tt
at_error (Err e) p = p

-- while the body is partial less than a message waits
pub received_short : (bytes : List ℕ) (received : ReceivedHead) → HasReceived bytes received → length (drop received.head_len bytes) < received.body_len
    → length bytes < longest_message
received_short bytes received (h, b) short =
    let left = length-drop received.head_len bytes in
    let len = b.len in
    let head = b.head_fits in
    let body = b.body_fits in
    omega (arith, left, len, head, body, short)
