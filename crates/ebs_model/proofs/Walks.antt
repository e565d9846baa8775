-- What is left of a list at a loop's turn.
use Rattle.std.proofs.Common.{◌≡◌, ℕ, ◌+◌, ◌<◌, ◌≤◌, List, [], ◌∷◌, length, drop, get_or, sym, ap, ◌∙◌, drop-cons, add-one}
use Rattle.std.proofs.lemmas.List.{drop_all}

pub turn : {A B : Type 0} (f : List A → B) (xs : List A) (i : ℕ) (x : A) → i < length xs → x ≡ get_or xs i x → f (x ∷ drop (i + 1) xs) ≡ f (drop i xs)
turn f xs i x h e = ap f ((λ j. e j ∷ drop (add-one i j) xs) ∙ sym (drop-cons xs i x h))

pub ended : {A B : Type 0} (f : List A → B) (xs : List A) (i : ℕ) → length xs ≤ i → f [] ≡ f (drop i xs)
ended f xs i h = ap f (sym (drop_all i xs h))
