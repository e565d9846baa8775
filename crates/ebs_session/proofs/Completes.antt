-- Whole messages are answered, where nothing fails.
use Rattle.std.proofs.Common.{◌≡◌, ◌⊎◌, inl, inr, ℕ, ◌<◌, List, [], ◌∷◌, ◌++◌, Option, None, Some, refl, sym, ap, ◌∙◌, subst, arith, append-nil, length, length-append}
use Rattle.std.specs.Io.KnownBytes.{Consumes, IsAtEnd}
use Rattle.ebs_http.specs.Messages.{Reads, Splits, Stands}
use Rattle.ebs_http.specs.declared.message.Message.{Message}
use Rattle.ebs_http.specs.declared.message.BadKind.{BadKind}
use Rattle.ebs_session.specs.Session.{Session}
use Rattle.ebs_exchanges.specs.Exchanges.{Exchange, messages_in}
use Rattle.ebs_session.specs.declared.end.End.{End}
use Rattle.ebs_session.specs.declared.end.End.TheVariants.{Done, InputFailed, OutputFailed, Cut, Bad, Memory, Limit}

abbrev pub SplitsOnce : Type 0
SplitsOnce = (stream rest last : List ℕ) (ms ns : List Message) → Splits stream ms rest → Splits stream ns last → (ms ≡ ns) × (rest ≡ last)

abbrev pub StaysBad : Type 0
StaysBad = (stream waiting more : List ℕ) (ms : List Message) (kind : BadKind) → Reads stream ms waiting → Stands kind waiting → Splits (stream ++ more) ms (waiting ++ more)

record Front (all taken : List ℕ) : Type 0 where
  rest : List ℕ
  split : all ≡ taken ++ rest

front_taken : (left : Option (List ℕ)) (all taken : List ℕ) → Consumes (Some all) left taken → Front all taken
front_taken None all taken takes = absurd takes
front_taken (Some rest) all taken takes = record { rest = rest; split = takes }

all_taken : (left : Option (List ℕ)) (all taken : List ℕ) → Consumes (Some all) left taken → IsAtEnd left → all ≡ taken
all_taken None all taken takes ended = absurd takes
all_taken (Some rest) all taken takes ended = takes ∙ ap (λ (l : List ℕ). taken ++ l) ended ∙ append-nil taken

front_empty : (front more : List ℕ) → front ++ more ≡ [] → front ≡ []
front_empty [] more is = refl
front_empty (b ∷ front) more is = cc

module _ (once : SplitsOnce) (stays : StaysBad) (limit : ℕ) (Went : List Exchange → Type 0) (l1 w0 w1 k0 k1 : Option (List ℕ)) (text : List ℕ) (ms : List Message) (whole : Splits text ms []) (few : length text < limit) where
  ended_by : (end : End) → Session limit end Went (Some text) l1 w0 w1 k0 k1 → (end ≡ InputFailed → ⊥) → (end ≡ OutputFailed → ⊥) → (end ≡ Done) ⊎ (end ≡ Memory)
  ended_by Done s no_input no_output = inl refl
  ended_by Memory s no_input no_output = inr refl
  ended_by InputFailed s no_input no_output = absurd (no_input refl)
  ended_by OutputFailed s no_input no_output = absurd (no_output refl)
  ended_by (Cut waiting) s no_input no_output =
      let same = all_taken l1 text s.taken s.takes s.ends.0 in
      let split : Splits text (messages_in s.exchanges) s.rest = subst (λ (t : List ℕ). Splits t (messages_in s.exchanges) s.rest) (sym same) s.covers in
      absurd (s.ends.1 (once text s.rest [] (messages_in s.exchanges) ms split whole).1)
  ended_by (Bad place) s no_input no_output =
      let front = front_taken l1 text s.taken s.takes in
      let more = stays s.taken s.rest front.rest (messages_in s.exchanges) s.ends.0 s.covers.reads s.ends.1 in
      let split : Splits text (messages_in s.exchanges) (s.rest ++ front.rest) =
      subst (λ (t : List ℕ). Splits t (messages_in s.exchanges) (s.rest ++ front.rest)) (sym front.split) more in
      absurd (s.ends.2 (front_empty s.rest front.rest (once text (s.rest ++ front.rest) [] (messages_in s.exchanges) ms split whole).1))
  ended_by Limit s no_input no_output =
      let front = front_taken l1 text s.taken s.takes in
      absurd (omega (arith, few, s.ends, ap length front.split, length-append s.taken front.rest))

pub completed : SplitsOnce → StaysBad → (limit : ℕ) (end : End) (Went : List Exchange → Type 0) (l0 l1 w0 w1 k0 k1 : Option (List ℕ)) → Session limit end Went l0 l1 w0 w1 k0 k1
    → (text : List ℕ) (ms : List Message) → l0 ≡ Some text → Splits text ms [] → length text < limit
    → (end ≡ InputFailed → ⊥) → (end ≡ OutputFailed → ⊥) → (end ≡ Done) ⊎ (end ≡ Memory)
completed once stays limit end Went l0 l1 w0 w1 k0 k1 session text ms told whole few no_input no_output =
    ended_by once stays limit Went l1 w0 w1 k0 k1 text ms whole few end (subst (λ (l : Option (List ℕ)). Session limit end Went l l1 w0 w1 k0 k1) told session) no_input no_output
