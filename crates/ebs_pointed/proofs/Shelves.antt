-- Rules behind rules.
use Rattle.std.proofs.Common.{◌≡◌, ℕ, List, [], ◌∷◌, ◌++◌, map, sym, ap, ◌∙◌, append_assoc, append-nil}
use Rattle.ebs_model.specs.declared.rules.Rule.{Rule}
use Rattle.ebs_bin.specs.Books.{Shelf, book}
use Rattle.ebs_pointed.specs.Rules.{all_in_order, in_order}

abbrev values : List (ℕ × Rule) → List Rule
values es = map (λ (e : ℕ × Rule). e.1) es

abbrev shelved : List (ℕ × Shelf) → List Rule
shelved es = all_in_order (map (λ (e : ℕ × Shelf). (e.0, book e.1)) es)

-- one rule more
pub one_rule : (old new : List Rule) (x : Rule) {k : ℕ} (v : Rule) (left rest : List (ℕ × Rule)) (all : List Rule) → new ≡ old ++ x ∷ [] → x ≡ v → left ≡ (k, v) ∷ rest → old ++ values left ≡ all → new ++ values rest ≡ all
one_rule old new x {k} v left rest all more is steps before =
    ap (λ l. l ++ values rest) more ∙ append_assoc old (x ∷ []) (values rest) ∙ ap (λ y. old ++ (y ∷ values rest)) is ∙ ap (λ es. old ++ values es) (sym steps) ∙ before

pub all_rules : (rows all : List Rule) (left : List (ℕ × Rule)) → left ≡ [] → rows ++ values left ≡ all → rows ≡ all
all_rules rows all left none before = sym (append-nil rows) ∙ ap (λ es. rows ++ values es) (sym none) ∙ before

-- one account's more
pub one_shelf : (old new : List Rule) {k : ℕ} (s : Shelf) (left rest : List (ℕ × Shelf)) (all : List Rule) → new ≡ old ++ in_order (book s).rules → left ≡ (k, s) ∷ rest → old ++ shelved left ≡ all → new ++ shelved rest ≡ all
one_shelf old new s left rest all more steps before =
    ap (λ l. l ++ shelved rest) more ∙ append_assoc old (in_order (book s).rules) (shelved rest) ∙ ap (λ es. old ++ shelved es) (sym steps) ∙ before

pub all_shelves : (rows all : List Rule) (left : List (ℕ × Shelf)) → left ≡ [] → rows ++ shelved left ≡ all → rows ≡ all
all_shelves rows all left none before = sym (append-nil rows) ∙ ap (λ es. rows ++ shelved es) (sym none) ∙ before
