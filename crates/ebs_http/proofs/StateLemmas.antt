-- States as bytes come and messages go.
use Rattle.std.proofs.Common.{◌≡◌, ℕ, ◌+◌, ◌-◌, ◌<◌, ◌≤◌, List, [], ◌∷◌, ◌++◌, length, take, drop, Some, None, refl, sym, ap, ◌∙◌, arith, subst, length-append, length-drop, inl, inr}
use Rattle.std.proofs.lemmas.List.{drop-drop, take-append-drop, take_rest, length-take-le}
use Rattle.httparse.specs.Grammar.{RequestHead, ReadsRequest}
use Rattle.httparse.proofs.GrammarLemmas.{request_unique, ReadsRequest-append}
use Rattle.ebs_http.specs.Messages.{body_length, headers_of, ReadsMessage, HasNoMessage, Stands, MayGoOn}
use Rattle.ebs_http.specs.inner.Received.{HasReceived}
use Rattle.ebs_http.specs.inner.Waiting.{Waiting, Gives, TakesMemory, longest_message, roomiest}
use Rattle.ebs_http.specs.inner.States.{bad_of, IsStateOf, waiting_in}
use Rattle.ebs_http.specs.declared.message.Step.{Step}
use Rattle.ebs_http.specs.declared.message.BadKind.{BadKind}
use Rattle.ebs_http.specs.declared.message.BadKind.TheVariants as kind
use Rattle.ebs_http.specs.declared.received.ReceivedHead.{ReceivedHead}
use Rattle.ebs_http.specs.declared.state.State.{State}
use Rattle.ebs_http.specs.declared.state.State.TheVariants.{Head, Fields, Body, Bad}
use Rattle.ebs_http.proofs.MessageLemmas.{head_in_front, stands_append, same_some}
use Rattle.ebs_http.proofs.BegunLemmas.{begun_append}
use Rattle.ebs_http.proofs.ReceivedLemmas.{received_append}

-- a state, with more bytes behind
pub state_append : (bytes more : List ℕ) (state : State) → IsStateOf bytes state → IsStateOf (bytes ++ more) state
state_append bytes more Head h = h
state_append bytes more (Fields begun) h = begun_append bytes more begun h
state_append bytes more (Body received) h = received_append bytes more received h
state_append bytes more (Bad k) h = stands_append k bytes more h

-- the same where the bytes that wait were moved to the front
pub state_fed : (waits kept held piece fed : List ℕ) (state : State) → kept ≡ waits → held ≡ kept → fed ≡ held ++ piece
    → IsStateOf waits state → IsStateOf fed state
state_fed waits kept held piece fed state k h e was =
    subst (λ (x : List ℕ). IsStateOf x state) (sym (e ∙ ap (λ (x : List ℕ). x ++ piece) (h ∙ k))) (state_append waits piece state was)

-- there is room for a message once something may wait
pub still_roomy : (items kept : List ℕ) (start first second third last : ℕ) → kept ≡ drop start items
    → (0 < length items → roomiest ≤ first) → first ≤ second → second ≤ third → third ≤ last → (kept ≡ [] → roomiest ≤ third) → roomiest ≤ last
still_roomy items [] start first second third last e roomy a b c taken = let enough = taken refl in omega (arith, enough, c)
still_roomy items (x ∷ kept) start first second third last e roomy a b c taken =
    let some : length (x ∷ kept) ≡ length items - start = ap (λ (l : List ℕ). length l) e ∙ length-drop start items in
    let enough = roomy (omega (arith, some)) in
    omega (arith, enough, a, b, c)

-- a state in which nothing bad was found
pub waiting_as : (bytes : List ℕ) (state : State) → bad_of state ≡ None → waiting_in bytes state ≡ record { bytes = bytes; bad = None }
waiting_as bytes state good = ap (λ b. record { bytes = bytes; bad = b }) good

-- two heads of the same bytes state one length
stated_same : (bytes r q : List ℕ) (h k : RequestHead) (n m : ℕ) → ReadsRequest bytes h r → ReadsRequest bytes k q
    → body_length (headers_of h) ≡ Some n → body_length (headers_of k) ≡ Some m → n ≡ m
stated_same bytes r q h k n m a b c d =
    let heads = request_unique bytes h k r q a b in
    same_some n m _ c (ap (λ x. body_length (headers_of x)) heads.0 ∙ d)

-- no message while the body is partial
received_no_message : (bytes : List ℕ) (received : ReceivedHead) → HasReceived bytes received → length (drop received.head_len bytes) < received.body_len → HasNoMessage bytes
received_no_message bytes received (h, b) short m rest (k, a) =
    let heads = request_unique bytes h k _ _ b.reads a.reads in
    let lengths = stated_same bytes _ _ h k _ _ b.reads a.reads b.stated a.stated in
    let parts = length-append m.body rest in
    let same = ap (λ (x : List ℕ). length x) heads.1 in
    omega arith

received_no_bad : (bytes : List ℕ) (received : ReceivedHead) → HasReceived bytes received → (k : BadKind) → ¬ (Stands k bytes)
received_no_bad bytes received (h, b) kind.BadHead (inl never) = never [] h _ (ReadsRequest-append bytes h _ [] b.reads)
received_no_bad bytes received (h, b) kind.BadHead (inr (k, rest, reads, many)) =
    let heads = request_unique bytes h k _ _ b.reads reads in
    let few : length k.fields ≤ 64 = subst (λ (x : RequestHead). length x.fields ≤ 64) heads.0 b.fields_fit in
    omega arith
received_no_bad bytes received (h, b) kind.TooLongHead (long, none) = none h _ (head_in_front bytes h _ b.reads b.head_fits)
received_no_bad bytes received (h, b) kind.BadLength (k, rest, reads, bad) =
    let heads = request_unique bytes h k _ _ b.reads reads in
    let none : body_length (headers_of h) ≡ None = ap (λ x. body_length (headers_of x)) heads.0 ∙ bad in
    let some = b.stated in
    cc
received_no_bad bytes received (h, b) (kind.BodyTooLong n) (k, rest, reads, (stated, long)) =
    let same = stated_same bytes _ _ h k _ _ b.reads reads b.stated stated in
    let fits = b.body_fits in
    omega arith

-- while the body is partial the framer waits
pub received_more : (bytes : List ℕ) (received : ReceivedHead) → HasReceived bytes received → length (drop received.head_len bytes) < received.body_len
    → HasNoMessage bytes × MayGoOn bytes
received_more bytes received h short = (received_no_message bytes received h short, λ k stands. absurd (received_no_bad bytes received h k stands))

-- once the body is whole the message is there
pub received_message : (bytes body : List ℕ) (received : ReceivedHead) → HasReceived bytes received → received.body_len ≤ length (drop received.head_len bytes)
    → body ≡ take received.body_len (drop received.head_len bytes)
    → ReadsMessage bytes (record { method = received.method; target = received.target; headers = received.headers; body = body }) (drop (received.head_len + received.body_len) bytes)
received_message bytes body received (h, b) long is =
    let rest = drop received.head_len bytes in
    let last : drop received.body_len rest ≡ drop (received.head_len + received.body_len) bytes = drop-drop received.body_len received.head_len bytes in
    let whole : rest ≡ body ++ drop (received.head_len + received.body_len) bytes =
    sym (take-append-drop received.body_len rest) ∙ (λ i. sym is i ++ last i) in
    let size : received.body_len ≡ length body = sym (ap (λ (x : List ℕ). length x) is ∙ length-take-le received.body_len rest long) in (
      h,
      record {
        reads = subst (λ (x : List ℕ). ReadsRequest bytes h x) whole b.reads;
        head_fits = b.head_fits;
        fields_fit = b.fields_fit;
        method = b.method;
        target = b.target;
        headers = b.headers;
        stated = b.stated ∙ ap (λ (n : ℕ). Some n) size;
        body_fits = let fits = b.body_fits in omega arith;
      },
    )

-- a transition over the waiting part of the buffer, as the framer's step
pub next_gives : (buffer slice : List ℕ) (start taken : ℕ) (old held new : State) (was : Waiting) (step : Step)
    → slice ≡ buffer → held ≡ old → waiting_in (drop start buffer) old ≡ was
    → Gives (waiting_in (take (length slice - start) (drop start slice)) held) (waiting_in (drop taken (take (length slice - start) (drop start slice))) new) step
    → Gives was (waiting_in (drop (start + taken) buffer) new) step
next_gives buffer slice start taken old held new was step same state view gives =
    let front : take (length slice - start) (drop start slice) ≡ drop start buffer = take_rest slice start ∙ ap (drop start) same in
    let before : waiting_in (take (length slice - start) (drop start slice)) held ≡ was = (λ i. waiting_in (front i) (state i)) ∙ view in
    let after : waiting_in (drop taken (take (length slice - start) (drop start slice))) new ≡ waiting_in (drop (start + taken) buffer) new =
    ap (λ (x : List ℕ). waiting_in x new) (ap (drop taken) front ∙ drop-drop taken start buffer) in
    let P : Waiting × Waiting → Type 0 = λ p. Gives p.0 p.1 step in
    subst P (λ i. (before i, after i)) gives

-- what takes memory in the waiting part of the buffer
pub next_wants : (buffer slice : List ℕ) (start : ℕ) (state : State) (was : Waiting) → slice ≡ buffer → waiting_in (drop start buffer) state ≡ was
    → TakesMemory (take (length slice - start) (drop start slice)) → TakesMemory was.bytes
next_wants buffer slice start state was same view takes =
    subst TakesMemory (take_rest slice start ∙ ap (drop start) same ∙ ap (λ (w : Waiting). w.bytes) view) takes

-- what is left of a short waiting part is short
pub next_short : (buffer slice : List ℕ) (start taken : ℕ) → slice ≡ buffer
    → length (take (length slice - start) (drop start slice)) < longest_message → length (drop (start + taken) buffer) < longest_message
next_short buffer slice start taken same short =
    let front = ap (λ (x : List ℕ). length x) (take_rest slice start ∙ ap (drop start) same) in
    let before = length-drop start buffer in
    let after = length-drop (start + taken) buffer in
    omega (arith, front, before, after, short)
