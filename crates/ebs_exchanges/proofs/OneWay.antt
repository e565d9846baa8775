-- What is written falls into answers in one way.
use Rattle.std.proofs.Common.{◌≡◌, ℕ, ◌<◌, ◌^◌, List, [], ◌∷◌, ◌++◌, length, map, refl, sym, ap, ◌∙◌, subst}
use Rattle.std.specs.List.{flat_map}
use Rattle.ebs_model.specs.declared.answer.Answer.{Answer}
use Rattle.ebs_print.specs.inner.Splits.{ListsSplit}
use Rattle.ebs_print.specs.Printed.{text_of}
use Rattle.ebs_exchanges.specs.Exchanges.{Exchange, texts_in, FallsInOneWay}

abbrev answers_in : List Exchange → List Answer
answers_in xs = map (λ (x : Exchange). x.answer) xs

texts_of : (xs : List Exchange) → flat_map text_of (answers_in xs) ≡ texts_in xs
texts_of [] = refl
texts_of (x ∷ xs) = ap (λ (l : List ℕ). text_of x.answer ++ l) (texts_of xs)

each_of : (xs : List Exchange) → map text_of (answers_in xs) ≡ map (λ (x : Exchange). text_of x.answer) xs
each_of [] = refl
each_of (x ∷ xs) = ap (λ (l : List (List ℕ)). text_of x.answer ∷ l) (each_of xs)

pub falls : ListsSplit → (exchanges : List Exchange) → FallsInOneWay exchanges
falls split exchanges others short same =
    sym (each_of exchanges) ∙ split (answers_in exchanges) others (subst (λ (l : List ℕ). length l < 2 ^ 64) (sym (texts_of exchanges)) short) (texts_of exchanges ∙ same)
