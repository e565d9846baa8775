-- Exchanges strung together.
use Rattle.std.proofs.Common.{◌≡◌, ◌≢◌, ◌⊎◌, inl, inr, ℕ, List, [], ◌∷◌, ◌++◌, Option, sym, ap, ◌∙◌, subst, append_assoc}
use Rattle.std.proofs.lemmas.List.{map-append}
use Rattle.std.proofs.lemmas.Grind.{flat_map-append}
use Rattle.ebs_world.specs.Ends.{Gives}
use Rattle.ebs_http.specs.Messages.{Reads}
use Rattle.ebs_http.specs.declared.message.Message.{Message}
use Rattle.ebs_print.specs.Printed.{text_of}
use Rattle.ebs_exchanges.specs.Exchanges.{Exchange, messages_in, readings_in, texts_in}
use Rattle.ebs_session.specs.Session.{Replying, Chain, Wrote, LeavesLast}
use Rattle.ebs_session.specs.declared.end.End.{End}
use Rattle.ebs_session.specs.declared.end.End.TheVariants.{Done, InputFailed, OutputFailed, Cut, Bad, Memory, Limit}

pub chain_on : {R W : Type 0} (replies : Replying R W) (xs ys : List Exchange) (r s t : R) (v w u : W)
    → Chain replies r v xs s w → Chain replies s w ys t u → Chain replies r v (xs ++ ys) t u
chain_on {R} {W} replies [] ys r s t v w u (is, same) more =
    subst (λ (a : R). Chain replies a v ys t u) is (subst (λ (b : W). Chain replies s b ys t u) same more)
chain_on replies (x ∷ xs) ys r s t v w u (next, world, replied, later) more = (next, world, replied, chain_on replies xs ys next s t world w u later more)

gives_on : (xs ys : List ℕ) (a b c : Option (List ℕ)) → Gives a xs b → Gives b ys c → Gives a (xs ++ ys) c
gives_on [] ys a b c is more = subst (λ (k : Option (List ℕ)). Gives k ys c) is more
gives_on (x ∷ xs) ys a b c (next, ticks, later) more = (next, ticks, gives_on xs ys next b c later more)

reads_on : (xs ys : List Message) (a b c : List ℕ) → Reads a xs b → Reads b ys c → Reads a (xs ++ ys) c
reads_on [] ys a b c is more = subst (λ (t : List ℕ). Reads t ys c) (sym is) more
reads_on (x ∷ xs) ys a b c (next, reads, later) more = (next, reads, reads_on xs ys next b c later more)

pub messages_on : (xs ys : List Exchange) (a b c : List ℕ) → Reads a (messages_in xs) b → Reads b (messages_in ys) c → Reads a (messages_in (xs ++ ys)) c
messages_on xs ys a b c reads more =
    subst (λ (ms : List Message). Reads a ms c) (sym (map-append (λ (x : Exchange). x.message) xs ys)) (reads_on (messages_in xs) (messages_in ys) a b c reads more)

pub readings_on : (xs ys : List Exchange) (a b c : Option (List ℕ)) → Gives a (readings_in xs) b → Gives b (readings_in ys) c → Gives a (readings_in (xs ++ ys)) c
readings_on xs ys a b c gives more =
    subst (λ (ns : List ℕ). Gives a ns c) (sym (map-append (λ (x : Exchange). x.reading) xs ys)) (gives_on (readings_in xs) (readings_in ys) a b c gives more)

texts_on : (xs ys : List Exchange) → texts_in (xs ++ ys) ≡ texts_in xs ++ texts_in ys
texts_on xs ys = flat_map-append (λ (x : Exchange). text_of x.answer) xs ys

all_on : (xs ys : List Exchange) (written : List ℕ) → written ≡ texts_in ys → texts_in xs ++ written ≡ texts_in (xs ++ ys)
all_on xs ys written is = ap (λ (l : List ℕ). texts_in xs ++ l) is ∙ sym (texts_on xs ys)

leaves_on : (xs ys : List Exchange) (written : List ℕ) → LeavesLast ys written → LeavesLast (xs ++ ys) (texts_in xs ++ written)
leaves_on xs ys written (first, last, split, is, other) = (
  xs ++ first,
  last,
  ap (λ (l : List Exchange). xs ++ l) split ∙ sym (append_assoc xs first (last ∷ [])),
  all_on xs first written is,
  other,
)

-- what was left to do behind the exchanges before is left
pub left_on : (xs ys : List Exchange) (rest before written : List ℕ) → before ≡ texts_in xs → (rest ≢ []) ⊎ LeavesLast ys written
    → (rest ≢ []) ⊎ LeavesLast (xs ++ ys) (before ++ written)
left_on xs ys rest before written is (inl some) = inl some
left_on xs ys rest before written is (inr leaves) = inr (subst (λ (l : List ℕ). LeavesLast (xs ++ ys) (l ++ written)) (sym is) (leaves_on xs ys written leaves))

-- more answers are written behind those of the exchanges before
pub wrote_on : (end : End) (xs ys : List Exchange) (written : List ℕ) → Wrote end ys written → Wrote end (xs ++ ys) (texts_in xs ++ written)
wrote_on Done xs ys written is = all_on xs ys written is
wrote_on InputFailed xs ys written is = all_on xs ys written is
wrote_on (Cut waiting) xs ys written is = all_on xs ys written is
wrote_on (Bad place) xs ys written is = all_on xs ys written is
wrote_on Limit xs ys written is = all_on xs ys written is
wrote_on OutputFailed xs ys written (first, last, front, split, is, begins) = (
  xs ++ first,
  last,
  front,
  ap (λ (l : List Exchange). xs ++ l) split ∙ sym (append_assoc xs first (last ∷ [])),
  ap (λ (l : List ℕ). texts_in xs ++ l) is ∙ sym (append_assoc (texts_in xs) (texts_in first) front) ∙ ap (λ (l : List ℕ). l ++ front) (sym (texts_on xs first)),
  begins,
)
wrote_on Memory xs ys written (inl all) = inl (all_on xs ys written all)
wrote_on Memory xs ys written (inr leaves) = inr (leaves_on xs ys written leaves)
