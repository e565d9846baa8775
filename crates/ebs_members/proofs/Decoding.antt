-- Pairs decoded one after another.
use Rattle.std.proofs.Common.{◌≡◌, ℕ, List, [], ◌∷◌, ◌++◌, sym, ap, ◌∙◌, append_assoc}
use Rattle.std.specs.Prelude.{map}
use Rattle.std.proofs.lemmas.List.{append-nil}
use Rattle.ebs_members.specs.Sources.{decoded, decoded_pair}

abbrev Pairs : Type 0
Pairs = List (List ℕ × List ℕ)

pub one_more : (before : Pairs) (name value : List ℕ) (left others whole : Pairs) → left ≡ (name, value) ∷ others
    → before ++ map decoded_pair left ≡ whole → (before ++ (decoded name, decoded value) ∷ []) ++ map decoded_pair others ≡ whole
one_more before name value left others whole is h =
    append_assoc before ((decoded name, decoded value) ∷ []) (map decoded_pair others) ∙ (ap (λ pairs. before ++ map decoded_pair pairs) (sym is) ∙ h)

pub no_more : (before left whole : Pairs) → left ≡ [] → before ++ map decoded_pair left ≡ whole → before ≡ whole
no_more before left whole none h = sym (append-nil before) ∙ (ap (λ pairs. before ++ map decoded_pair pairs) (sym none) ∙ h)
