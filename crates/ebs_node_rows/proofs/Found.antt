-- Rows by their numbers.
use Rattle.std.proofs.Common.{◌≡◌, ℕ, ◌++◌, ◌⊎◌, inl, inr, Bool, true, false, cond, eqb, List, [], ◌∷◌, get_or, Option, Some, None, IsSome, refl, sym, ap, subst, ◌∙◌, arith}
use Rattle.std.proofs.lemmas.Bool.Decides.{nat_tests}
use Rattle.std.proofs.lemmas.List.Folds.{find-append}
use Rattle.std.proofs.lemmas.List.Sums.{list_all-from_AllPass}
use Rattle.std.specs.List.{list_all}
use Rattle.std.specs.Option.{option_or}
use Rattle.ebs_checkpoints.specs.declared.nodes.NodeRow.{NodeRow}
use Rattle.ebs_node_rules.specs.Nodes.{node_of}
use Rattle.ebs_node_rules.specs.inner.Nodes.{nodes_ascend}
use Rattle.ebs_node_rules.proofs.Found.{found_itself}
use Rattle.ebs_node_rows.proofs.Marking.{none_some, some_same}

same_number : (m n : ℕ) → eqb m n ≡ true → m ≡ n
same_number m n t = grind (arith, nat_tests)

pub itself : (n : ℕ) → eqb n n ≡ true
itself n = grind (arith, nat_tests)

pub some_is : {X : Type 0} (o : Option X) → IsSome o → (x : X) × (o ≡ Some x)
some_is None h = absurd (cc)
some_is (Some x) h = (x, refl)

pub is_there : {X : Type 0} (o : Option X) (x : X) → o ≡ Some x → IsSome o
is_there o x e = subst IsSome (sym e) refl

-- one row more, behind the others
module _ (rows : List NodeRow) (x : NodeRow) (n : ℕ) (numbered : x.number ≡ n) where
  more : (q : ℕ) → node_of (rows ++ x ∷ []) (Some q) ≡ option_or (node_of rows (Some q)) (cond (eqb x.number q) (Some x) None)
  more q = find-append (λ (row : NodeRow). eqb row.number q) rows (x ∷ [])

  pub still_found : (q : ℕ) (r : NodeRow) → node_of rows (Some q) ≡ Some r → node_of (rows ++ x ∷ []) (Some q) ≡ Some r
  still_found q r e = more q ∙ ap (λ o. option_or o (cond (eqb x.number q) (Some x) None)) e

  pub now_found : node_of rows (Some n) ≡ None → node_of (rows ++ x ∷ []) (Some n) ≡ Some x
  now_found none = more n ∙ ap (λ o. option_or o (cond (eqb x.number n) (Some x) None)) none ∙ ap (λ m. cond (eqb m n) (Some x) None) numbered ∙ ap (λ b. cond b (Some x) None) (itself n)

  pub was_found : (q : ℕ) (r : NodeRow) → node_of (rows ++ x ∷ []) (Some q) ≡ Some r → (node_of rows (Some q) ≡ Some r) ⊎ ((q ≡ n) × (x ≡ r))
  was_found q r e = by (node_of rows (Some q)) (eqb x.number q) refl (sym (more q) ∙ e)
    where
      by : (o : Option NodeRow) (b : Bool) → eqb x.number q ≡ b → option_or o (cond b (Some x) None) ≡ Some r → (o ≡ Some r) ⊎ ((q ≡ n) × (x ≡ r))
      by (Some y) b is h = inl h
      by None true is h = inr (sym (same_number x.number q is) ∙ numbered, some_same x r h)
      by None false is h = none_some r h

-- what each row that is found passes, all pass
pub each_passes : (p : NodeRow → Bool) (rows : List NodeRow) → nodes_ascend rows ≡ true → ((q : ℕ) (row : NodeRow) → node_of rows (Some q) ≡ Some row → p row ≡ true) → list_all p rows ≡ true
each_passes p rows up each = list_all-from_AllPass p rows (λ i d l. each (get_or rows i d).number (get_or rows i d) (found_itself (λ (row : NodeRow). row.number) rows i d up l))
