-- Rows by their numbers, which ascend.
use Rattle.std.proofs.Common.{◌≡◌, ℕ, ◌+◌, ◌<◌, Bool, true, false, cond, eqb, ltb, List, [], ◌∷◌, length, get_or, drop, Some, None, refl, sym, ap, ◌∙◌, arith}
use Rattle.std.proofs.lemmas.Bool.{and_parts, ltb-true}
use Rattle.std.proofs.lemmas.Bool.Decides.{nat_tests}
use Rattle.std.specs.List.{list_all}
use Rattle.ebs_checkpoints.specs.declared.nodes.NodeRow.{NodeRow}
use Rattle.ebs_node_rules.specs.Nodes.{node_of}
use Rattle.ebs_node_rules.specs.inner.Nodes.{ascends}
use Rattle.ebs_node_rules.proofs.Found.{found_itself}
use Rattle.ebs_node_rules.proofs.Marks.{turn}

pub same_number : (m n : ℕ) → eqb m n ≡ true → m ≡ n
same_number m n t = grind (arith, nat_tests)

pub itself : (n : ℕ) → eqb n n ≡ true
itself n = grind (arith, nat_tests)

other : (m n : ℕ) → m < n → eqb n m ≡ false
other m n l = grind (arith, nat_tests)

abbrev pub are_above : ℕ → List NodeRow → Bool
are_above q rows = list_all (λ row. ltb q row.number) rows

-- none has a number that is below all
pub none_below : (rows : List NodeRow) (q : ℕ) → are_above q rows ≡ true → node_of rows (Some q) ≡ None
none_below [] q h = refl
none_below (x ∷ rows) q h =
    ap (λ b. cond b (Some x) (node_of rows (Some q))) (other q x.number (ltb-true q x.number (and_parts _ _ h).0)) ∙ none_below rows q (and_parts _ _ h).1

-- what all rows pass, the one that is found passes
pub passes : (p : NodeRow → Bool) (rows : List NodeRow) (q : ℕ) (row : NodeRow) → list_all p rows ≡ true → node_of rows (Some q) ≡ Some row → p row ≡ true
passes p [] q row all h = cc
passes p (x ∷ rows) q row all h = by (eqb x.number q) h (passes p rows q row (and_parts _ _ all).1)
  where
    by : (b : Bool) → cond b (Some x) (node_of rows (Some q)) ≡ Some row → (node_of rows (Some q) ≡ Some row → p row ≡ true) → p row ≡ true
    by true e more = let same : x ≡ row = cc in ap p (sym same) ∙ (and_parts _ _ all).0
    by false e more = more e

-- what is still to come begins with the next one
pub next_rest : {A : Type 0} (xs : List A) (i : ℕ) (x : A) → i < length xs → x ≡ get_or xs i x → drop i xs ≡ x ∷ drop (i + 1) xs
next_rest xs i x h e = sym (turn (λ l. l) xs i x h) ∙ ap (λ y. y ∷ drop (i + 1) xs) (sym e)

-- a row is found by its own number
pub row_found : (rows : List NodeRow) (i : ℕ) (x : NodeRow) → ascends (λ row. row.number) rows ≡ true → i < length rows → x ≡ get_or rows i x → node_of rows (Some x.number) ≡ Some x
row_found rows i x a h e =
    ap (λ (y : NodeRow). node_of rows (Some y.number)) e ∙ found_itself (λ (row : NodeRow). row.number) rows i x a h ∙ ap (λ y. Some y) (sym e)
