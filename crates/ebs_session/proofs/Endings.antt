-- How far a session is, and a session that has ended.
use Rattle.std.proofs.Common.{◌≡◌, ◌≢◌, inl, inr, ℕ, ◌+◌, ◌-◌, ◌<◌, ◌≤◌, List, [], ◌∷◌, ◌++◌, Option, Err, length, take, refl, ap, ◌∙◌, subst, arith, append-nil, length-append, length-take}
use Rattle.std.proofs.KnownBytes.{Appends-nil, Consumes-nil, Consumes-trans}
use Rattle.std.specs.Io.KnownBytes.{Consumes, IsAtEnd}
use Rattle.ebs_http.specs.Messages.{Reads, Splits, ReadsMessage, HasNoMessage, Stands}
use Rattle.ebs_http.specs.declared.message.Message.{Message}
use Rattle.ebs_http.specs.declared.message.BadKind.{BadKind}
use Rattle.ebs_exchanges.specs.Exchanges.{FallsInOneWay, Exchange, messages_in}
use Rattle.ebs_session.specs.Session.{Replying, Chain, Session, Covers, Ends}
use Rattle.ebs_session.specs.inner.Progress.{Served, IsServed, Rests, Took}
use Rattle.ebs_session.specs.declared.pieces.Taken.TheVariants.{Piece}
use Rattle.ebs_session.specs.declared.end.End.{End}
use Rattle.ebs_session.specs.declared.end.End.TheVariants.{Done, InputFailed, OutputFailed, Cut, Bad, Memory, Limit}
use Rattle.ebs_session.proofs.Rooms.{same_room}
use Rattle.ebs_session.proofs.Servings.{none_served, served_on, ended_by, ended_by_memory}

-- the bytes taken so far, whose first messages were answered, and how many more may be taken
pub record Progress {R W : Type 0} (replies : Replying R W) (limit : ℕ) (l0 l1 w0 w1 k0 k1 : Option (List ℕ)) (old : R) (before : W) (now : R) (world : W) (waiting : List ℕ) (left : ℕ) : Type 0 where
  pub taken : List ℕ
  pub takes : Consumes l0 l1 taken
  pub served : Served replies Done taken waiting old before now world w0 w1 k0 k1
  pub count : length taken + left ≡ limit

-- the exchanges are a chain
abbrev pub Chains : {R W : Type 0} → Replying R W → R → W → R → W → List Exchange → Type 0
Chains replies old before new after exchanges = Chain replies old before exchanges new after

-- as pieces come, the bytes taken stay the messages answered and those that wait
abbrev pub Feeds : Type 0
Feeds = (stream waiting piece : List ℕ) (ms : List Message) → Reads stream ms waiting → Reads (stream ++ piece) ms (waiting ++ piece)

abbrev pub HasNone : Type 0
HasNone = (kind : BadKind) (bytes : List ℕ) → Stands kind bytes → HasNoMessage bytes

-- a message has a byte at least
abbrev pub Shrinks : Type 0
Shrinks = (waiting after : List ℕ) (m : Message) → ReadsMessage waiting m after → length after < length waiting

-- what is written falls into answers in one way
abbrev pub Falls : Type 0
Falls = (exchanges : List Exchange) → FallsInOneWay exchanges

module _ {R W : Type 0} (replies : Replying R W) {limit : ℕ} where
  pub begun : (l w k : Option (List ℕ)) (old : R) (before : W) → Progress replies limit l l w w k k old before old before [] limit
  begun l w k old before = record { taken = []; takes = Consumes-nil l; served = none_served replies [] old before w k; count = omega arith }

  -- memory was wanting before the first byte
  pub not_begun : Falls → (l w k : Option (List ℕ)) (old : R) (before : W) → Session limit Memory (Chains replies old before old before) l l w w k k
  not_begun one_way l w k old before = record {
    taken = [];
    takes = Consumes-nil l;
    few = omega arith;
    exchanges = [];
    rest = [];
    covers = refl;
    went = (refl, refl);
    gives = refl;
    written = [];
    writes = Appends-nil w;
    wrote = inl refl;
    one_way = one_way [];
    ends = tt;
    wanted = λ e. inl refl;
  }

-- what follows messages has no more bytes than all of it
rest_within : Shrinks → (ms : List Message) (stream rest : List ℕ) → Reads stream ms rest → length rest ≤ length stream
rest_within shrinks [] stream rest is = omega (arith, ap length is)
rest_within shrinks (m ∷ ms) stream rest (after, reads, more) = omega (arith, shrinks stream after m reads, rest_within shrinks ms after rest more)

whole : {taken waiting : List ℕ} → HasNoMessage waiting → (ms : List Message) → Reads taken ms waiting → Splits taken ms waiting
whole none ms reads = record { reads = reads; whole = none }

module _ {R W : Type 0} {replies : Replying R W} {limit : ℕ} {l0 l1 l2 w0 w1 k0 k1 : Option (List ℕ)} {old now : R} {before world : W} {waiting : List ℕ} {left : ℕ} where
  pub fed : (piece : List ℕ) (n : ℕ) → Feeds → Progress replies limit l0 l1 w0 w1 k0 k1 old before now world waiting left → Consumes l1 l2 piece → length piece ≡ n → n ≤ left
      → Progress replies limit l0 l2 w0 w1 k0 k1 old before now world (waiting ++ piece) (left - n)
  fed piece n feeds p takes is fits =
      let s = p.served in
      record {
        taken = p.taken ++ piece;
        takes = Consumes-trans l0 l1 l2 p.taken piece p.takes takes;
        served = record {
          exchanges = s.exchanges;
          reads = feeds p.taken waiting piece (messages_in s.exchanges) s.reads;
          went = s.went;
          gives = s.gives;
          written = s.written;
          writes = s.writes;
          wrote = s.wrote;
          wanted = λ e. cc;
        };
        count = omega (arith, p.count, length-append p.taken piece);
      }

  -- a piece came into the front of a room, from which it was fed
  pub fed_from : (size n : ℕ) (bytes filled room behind : List ℕ) → Feeds → Progress replies limit l0 l1 w0 w1 k0 k1 old before now world waiting left → Took (Piece n) left l1 l2 room
      → filled ≡ take size (room ++ behind) → length room ≡ size → bytes ≡ waiting ++ take n filled → Progress replies limit l0 l2 w0 w1 k0 k1 old before now world bytes (left - n)
  fed_from size n bytes filled room behind feeds p took value full is =
      let fed_is : bytes ≡ waiting ++ take n room = is ∙ ap (λ (held : List ℕ). waiting ++ take n held) (same_room size filled room behind value full) in
      rw fed_is (fed (take n room) n feeds p took.3 (omega (arith, took.2, length-take n room)) took.1)

  -- the end comes where no message waits
  at_end : Falls → (end : End) → Consumes l1 l2 [] → (p : Progress replies limit l0 l1 w0 w1 k0 k1 old before now world waiting left)
      → Served replies end p.taken waiting old before now world w0 w1 k0 k1
      → ((ms : List Message) → Reads p.taken ms waiting → Covers end p.taken ms waiting) → Ends end (IsAtEnd l2) limit p.taken waiting
      → Session limit end (Chains replies old before now world) l0 l2 w0 w1 k0 k1
  at_end one_way end takes p s covers ends = record {
    taken = p.taken;
    takes = subst (Consumes l0 l2) (append-nil p.taken) (Consumes-trans l0 l1 l2 p.taken [] p.takes takes);
    few = omega (arith, p.count);
    exchanges = s.exchanges;
    rest = waiting;
    covers = covers (messages_in s.exchanges) s.reads;
    went = s.went;
    gives = s.gives;
    written = s.written;
    writes = s.writes;
    wrote = s.wrote;
    one_way = one_way s.exchanges;
    ends = ends;
    wanted = λ e. inr (s.wanted e);
  }

  pub at_done : Falls → Progress replies limit l0 l1 w0 w1 k0 k1 old before now world waiting left → IsServed waiting → Consumes l1 l2 [] → IsAtEnd l2 → waiting ≡ []
      → Session limit Done (Chains replies old before now world) l0 l2 w0 w1 k0 k1
  at_done one_way p rest takes told none = at_end one_way Done takes p p.served (whole rest.0) (told, none)

  pub at_cut : (n : ℕ) → Falls → Progress replies limit l0 l1 w0 w1 k0 k1 old before now world waiting left → IsServed waiting → Consumes l1 l2 [] → IsAtEnd l2 → waiting ≢ [] → n ≡ length waiting
      → Session limit (Cut n) (Chains replies old before now world) l0 l2 w0 w1 k0 k1
  at_cut n one_way p rest takes told some is = at_end one_way (Cut n) takes p (ended_by (Cut n) p.served p.served.wrote (λ e. cc)) (whole rest.0) (told, some, rest.1 some, is)

  pub at_failed : Falls → Progress replies limit l0 l1 w0 w1 k0 k1 old before now world waiting left → IsServed waiting → Consumes l1 l2 []
      → Session limit InputFailed (Chains replies old before now world) l0 l2 w0 w1 k0 k1
  at_failed one_way p rest takes = at_end one_way InputFailed takes p (ended_by InputFailed p.served p.served.wrote (λ e. cc)) (whole rest.0) tt

  pub at_limit : Falls → Progress replies limit l0 l1 w0 w1 k0 k1 old before now world waiting left → IsServed waiting → Consumes l1 l2 [] → left ≡ 0
      → Session limit Limit (Chains replies old before now world) l0 l2 w0 w1 k0 k1
  at_limit one_way p rest takes none = at_end one_way Limit takes p (ended_by Limit p.served p.served.wrote (λ e. cc)) (whole rest.0) (omega (arith, p.count))

-- no more bytes wait than were taken
pub waits_within : {R W : Type 0} {replies : Replying R W} {limit : ℕ} {l0 l1 w0 w1 k0 k1 : Option (List ℕ)} {old now : R} {before world : W} {waiting : List ℕ} {left : ℕ}
    → Shrinks → Progress replies limit l0 l1 w0 w1 k0 k1 old before now world waiting left → length waiting ≤ limit - left
waits_within {waiting = waiting} shrinks p = let within = rest_within shrinks (messages_in p.served.exchanges) p.taken waiting p.served.reads in omega (arith, within, p.count)

-- memory was wanting for the piece that was taken
pub at_full : {R W : Type 0} {replies : Replying R W} {limit : ℕ} {l0 l1 w0 w1 k0 k1 : Option (List ℕ)} {old now : R} {before world : W} {waiting : List ℕ} {left : ℕ}
    → Falls → Progress replies limit l0 l1 w0 w1 k0 k1 old before now world waiting left → waiting ≢ []
    → Session limit Memory (Chains replies old before now world) l0 l1 w0 w1 k0 k1
at_full {l1 = l1} one_way p some = at_end one_way Memory (Consumes-nil l1) p (ended_by_memory some p.served) (λ ms reads. reads) tt

-- something waits where a piece of at least one byte came
pub some_wait : (waiting piece : List ℕ) → 0 < length piece → waiting ++ piece ≢ []
some_wait waiting piece some = λ none. absurd (omega (arith, some, ap length none, length-append waiting piece))

module _ {R W : Type 0} {replies : Replying R W} {limit : ℕ} {l0 l1 w0 w1 w2 k0 k1 k2 : Option (List ℕ)} {old now new : R} {before world after : W} {waiting rest : List ℕ} {left : ℕ} where
  -- the messages of one more piece were answered
  pub gone_on : Progress replies limit l0 l1 w0 w1 k0 k1 old before now world waiting left → Served replies Done waiting rest now world new after w1 w2 k1 k2
      → Progress replies limit l0 l1 w0 w2 k0 k2 old before new after rest left
  gone_on p s = record { taken = p.taken; takes = p.takes; served = served_on Done p.served s; count = p.count }

  -- some were, and the session ends
  stopped : Falls → (end : End) → (p : Progress replies limit l0 l1 w0 w1 k0 k1 old before now world waiting left) → Served replies end waiting rest now world new after w1 w2 k1 k2
      → ((ms : List Message) → Reads p.taken ms rest → Covers end p.taken ms rest) → Ends end (IsAtEnd l1) limit p.taken rest
      → Session limit end (Chains replies old before new after) l0 l1 w0 w2 k0 k2
  stopped one_way end p s covers ends =
      let all : Served replies end p.taken rest old before new after w0 w2 k0 k2 = served_on end p.served s in
      record {
        taken = p.taken;
        takes = p.takes;
        few = omega (arith, p.count);
        exchanges = all.exchanges;
        rest = rest;
        covers = covers (messages_in all.exchanges) all.reads;
        went = all.went;
        gives = all.gives;
        written = all.written;
        writes = all.writes;
        wrote = all.wrote;
        one_way = one_way all.exchanges;
        ends = ends;
        wanted = λ e. inr (all.wanted e);
      }

  pub at_stop : Falls → (end : End) → HasNone → Progress replies limit l0 l1 w0 w1 k0 k1 old before now world waiting left → Served replies end waiting rest now world new after w1 w2 k1 k2 → Rests (limit - left) (Err end) rest
      → Session limit end (Chains replies old before new after) l0 l1 w0 w2 k0 k2
  at_stop one_way Done none p s rests = absurd rests
  at_stop one_way InputFailed none p s rests = absurd rests
  at_stop one_way (Cut n) none p s rests = absurd rests
  at_stop one_way Limit none p s rests = absurd rests
  at_stop one_way OutputFailed none p s rests = stopped one_way OutputFailed p s (λ ms reads. reads) tt
  at_stop one_way Memory none p s rests = stopped one_way Memory p s (λ ms reads. reads) tt
  at_stop one_way (Bad place) none p s rests =
      stopped one_way (Bad place) p s (λ ms reads. record { reads = reads; whole = none rests.0 rest rests.1 }) (rests.0, rests.1, rests.2, omega (arith, rests.3, p.count))

pub none_left : (bytes : List ℕ) → length bytes ≡ 0 → bytes ≡ []
none_left [] none = refl
none_left (b ∷ bytes) none = absurd (omega arith)

-- no message waits where no byte does
pub none_waits : Shrinks → (bytes : List ℕ) → length bytes ≡ 0 → IsServed bytes
none_waits shrinks bytes none = (λ m rest reads. let less = shrinks bytes rest m reads in absurd (omega arith), λ some. absurd (some (none_left bytes none)))
