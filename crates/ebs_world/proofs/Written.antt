-- What writes do to known bytes, one after another.
use Rattle.std.proofs.Common.{◌≡◌, ℕ, ◌-◌, List, [], ◌++◌, None, Some, Option, length, take, drop, sym, ap, ◌∙◌, append_assoc, append-nil, take-append-drop}
use Rattle.std.proofs.lemmas.List.{take_rest}
use Rattle.std.specs.Io.KnownBytes.{Appends, Keeps}

pub appends_none : (a : Option (List ℕ)) → Appends a a []
appends_none None = tt
appends_none (Some xs) = sym (append-nil xs)

pub appends_both : (a b c : Option (List ℕ)) (first second : List ℕ) → Appends a b first → Appends b c second → Appends a c (first ++ second)
appends_both None b c first second p q = tt
appends_both (Some xs) None c first second p q = absurd p
appends_both (Some xs) (Some ys) None first second p q = absurd q
appends_both (Some xs) (Some ys) (Some zs) first second p q = q ∙ ap (λ (l : List ℕ). l ++ second) p ∙ append_assoc xs first second

pub appends_kept : (a b c : Option (List ℕ)) (piece : List ℕ) → Appends a b piece → Keeps b c → Appends a c piece
appends_kept None b c piece p q = tt
appends_kept (Some xs) None c piece p q = absurd p
appends_kept (Some xs) (Some ys) None piece p q = absurd q
appends_kept (Some xs) (Some ys) (Some zs) piece p q = q ∙ p

-- the next n bytes of the rest are taken
pub goes_on : (all done rest next : List ℕ) (n : ℕ) → all ≡ done ++ rest → next ≡ take (length rest - n) (drop n rest) → all ≡ (done ++ take n rest) ++ next
goes_on all done rest next n e is =
    e ∙ ap (λ (l : List ℕ). done ++ l) (sym (take-append-drop n rest)) ∙ sym (append_assoc done (take n rest) (drop n rest))
    ∙ ap (λ (l : List ℕ). (done ++ take n rest) ++ l) (sym (is ∙ take_rest rest n))
