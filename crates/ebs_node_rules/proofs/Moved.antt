-- Rows whose blocks all have copies.
use Rattle.std.proofs.Common.{◌≡◌, ℕ, Bool, true, false, not, ◌&&◌, ◌||◌, eqb, is_some, List, [], ◌∷◌, refl, sym, ap, ◌∙◌, arith}
use Rattle.std.proofs.lemmas.Bool.{and_parts}
use Rattle.std.proofs.lemmas.Bool.Decides.{nat_tests}
use Rattle.std.specs.List.{list_all, list_any}
use Rattle.std.specs.Ordering.{nat_cmp, eq_by_cmp}
use Rattle.std.specs.FinMap.{contains_key, contains_key-keys, keys}
use Rattle.ebs_checkpoints.specs.declared.nodes.CopyRow.{CopyRow}
use Rattle.ebs_checkpoints.specs.declared.snapshots.SnapPoint.{SnapPoint}
use Rattle.ebs_node_rules.specs.States.{is_none_of, is_standard}
use Rattle.ebs_node_rules.specs.Arrays.{Array, Arrays, all_keys, array_in, row_array, with_copies, is_copied, gives_up}
use Rattle.ebs_node_rules.specs.inner.Lookups.{may_keep}
use Rattle.ebs_node_rules.proofs.Keyed.{all-copies, has-copies}

itself : (n : ℕ) → eqb n n ≡ true
itself n = grind (arith, nat_tests)

or_true : (b : Bool) → (b || true) ≡ true
or_true true = refl
or_true false = refl

or_right : (a b : Bool) → b ≡ true → (a || b) ≡ true
or_right true b h = refl
or_right false b h = h

among_more : (cs : List CopyRow) (more : CopyRow) (ds : List CopyRow) → list_all (λ c. is_copied cs c.index) ds ≡ true → list_all (λ c. is_copied (more ∷ cs) c.index) ds ≡ true
among_more cs more [] e = refl
among_more cs more (d ∷ ds) e =
    (λ i. or_right (eqb more.index d.index) (is_copied cs d.index) (and_parts _ _ e).0 i && among_more cs more ds (and_parts _ _ e).1 i)

-- each copy's index is one of a copy
self_copied : (cs : List CopyRow) → list_all (λ c. is_copied cs c.index) cs ≡ true
self_copied [] = refl
self_copied (c ∷ cs) = (λ i. (itself c.index i || is_copied cs c.index) && among_more cs c cs (self_copied cs) i)

-- an index that is found is one of the keys
not_none : (a : Array) (q : ℕ) → contains_key a q ≡ true → is_none_of (keys a) ≡ false
not_none a q h = by (keys a) (sym (contains_key-keys a q) ∙ h)
  where
    by : (ks : List ℕ) → list_any (eq_by_cmp nat_cmp q) ks ≡ true → is_none_of ks ≡ false
    by [] e = cc
    by (k ∷ ks) e = refl

first_there : (c : CopyRow) (cs : List CopyRow) (a : Array) → contains_key (with_copies a (c ∷ cs)) c.index ≡ true
first_there c cs a = has-copies (c ∷ cs) a c.index ∙ ap (λ b. (b || is_copied cs c.index) || contains_key a c.index) (itself c.index)

abbrev moves : List CopyRow → Array → Bool
moves cs row = not (is_none_of (keys row)) && all_keys (is_copied cs) row

moved : (c : CopyRow) (cs : List CopyRow) (a : Array) → moves (c ∷ cs) (with_copies a (c ∷ cs)) ≡ all_keys (is_copied (c ∷ cs)) a
moved c cs a =
    ap (λ b. not b && all_keys (is_copied (c ∷ cs)) (with_copies a (c ∷ cs))) (not_none (with_copies a (c ∷ cs)) c.index (first_there c cs a))
    ∙ all-copies (is_copied (c ∷ cs)) (c ∷ cs) a
    ∙ ap (λ b. b && all_keys (is_copied (c ∷ cs)) a) (self_copied (c ∷ cs))

no_copies : (ks : List ℕ) → (not (is_none_of ks) && list_all (is_copied []) ks) ≡ false
no_copies [] = refl
no_copies (k ∷ ks) = refl

keep_by : (standard named : Bool) (cs : List CopyRow) (a : Array) → (standard || (not named || is_none_of cs)) ≡ true → true ≡ (not (not standard && moves cs (with_copies a cs)) || not named)
keep_by true named cs a h = refl
keep_by false false cs a h = sym (or_true _)
keep_by false true [] a h = sym (ap (λ b. not b || false) (no_copies (keys a)))
keep_by false true (c ∷ cs) a h = cc

give_by : (standard named : Bool) (cs : List CopyRow) (a : Array) (copied : Bool) → (standard || (not named || is_none_of cs)) ≡ false → copied ≡ all_keys (is_copied cs) a → not copied ≡ (not (not standard && moves cs (with_copies a cs)) || not named)
give_by true named cs a copied h is = cc
give_by false false cs a copied h is = cc
give_by false true [] a copied h is = cc
give_by false true (c ∷ cs) a copied h is = ap not (is ∙ sym (moved c cs a)) ∙ left (not (moves (c ∷ cs) (with_copies a (c ∷ cs))))
  where
    left : (b : Bool) → b ≡ (b || false)
    left true = refl
    left false = refl

module _ (arrays : Arrays) (snapshot : SnapPoint) (kept : Bool) (kept_so : kept ≡ may_keep snapshot) where
  pub keeps : kept ≡ true → kept ≡ gives_up arrays snapshot
  keeps h = h ∙ keep_by (is_standard snapshot.tier) (is_some snapshot.node) snapshot.copies (array_in arrays snapshot.node) (sym kept_so ∙ h)

  pub gives : kept ≡ false → (copied : Bool) → copied ≡ all_keys (is_copied snapshot.copies) (array_in arrays snapshot.node) → not copied ≡ gives_up arrays snapshot
  gives h copied is = give_by (is_standard snapshot.tier) (is_some snapshot.node) snapshot.copies (array_in arrays snapshot.node) copied (sym kept_so ∙ h) is

pub in_row : (arrays : Arrays) (snapshot : SnapPoint) (q : ℕ) → contains_key (row_array arrays snapshot) q ≡ (is_copied snapshot.copies q || contains_key (array_in arrays snapshot.node) q)
in_row arrays snapshot q = has-copies snapshot.copies (array_in arrays snapshot.node) q
