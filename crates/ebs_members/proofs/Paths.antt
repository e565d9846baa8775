-- What a router gives under a name, where all of it is text.
use Rattle.std.proofs.Common.{◌≡◌, ℕ, List, [], ◌∷◌, Option, Some, None, true, MatchOption, option_copied, sym, ◌∙◌, Bor}
use Rattle.std.proofs.lemmas.Bool.{and_parts}
use Rattle.std.proofs.lemmas.Str.{IsUtf8-from_is_utf8}
use Rattle.matchit.specs.Params.{AllText, named}
use Rattle.ebs_members.specs.inner.Paths.{are_texts}

abbrev Pairs : Type 0
Pairs = List (List ℕ × List ℕ)

all_text : (pairs : Pairs) → are_texts pairs ≡ true → AllText pairs
all_text [] h = tt
all_text (pair ∷ pairs) h =
    let both = and_parts _ _ h in
    let here = and_parts _ _ both.0 in
    (IsUtf8-from_is_utf8 pair.0 here.0, IsUtf8-from_is_utf8 pair.1 here.1, all_text pairs both.1)

pub found_text : (name : List ℕ) (pairs : Pairs) (found : Option (Bor (List ℕ))) (piece : Option (List ℕ))
    → (AllText pairs → MatchOption found (named name pairs ≡ None) (λ value. named name pairs ≡ Some value.now))
    → are_texts pairs ≡ true → named name pairs ≡ piece → option_copied found ≡ piece
found_text name pairs None piece gives texts is = sym (gives (all_text pairs texts)) ∙ is
found_text name pairs (Some value) piece gives texts is = sym (gives (all_text pairs texts)) ∙ is
