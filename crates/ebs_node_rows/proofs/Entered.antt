-- A node's own blocks, entry after entry.
use Rattle.std.proofs.Common.{◌≡◌, ℕ, ◌+◌, ◌<◌, ◌≤◌, ◌^◌, ◌++◌, Bool, true, false, ◌&&◌, ltb, List, [], ◌∷◌, inl, inr, Option, Some, None, refl, sym, ap, subst, ◌∙◌, arith}
use Rattle.std.proofs.lemmas.Bool.{and_parts, ltb-true}
use Rattle.std.proofs.lemmas.Bool.Decides.{nat_tests}
use Rattle.std.proofs.lemmas.List.Folds.{list_all-append}
use Rattle.std.specs.List.{list_all}
use Rattle.std.specs.Ordering.{nat_cmp}
use Rattle.std.specs.FinMap as map
use Rattle.std.specs.FinMap.{get-empty}
use Rattle.ebs_model.specs.declared.array.Block.{Block}
use Rattle.ebs_checkpoints.specs.declared.nodes.EntryRow.{EntryRow}
use Rattle.ebs_lineage.specs.declared.node.Node.{Node}
use Rattle.ebs_lineage.specs.Owned.{Blocks, IsLeastFrom}
use Rattle.ebs_lineage.specs.Table.{NodeMap}
use Rattle.ebs_lineage.specs.Lines.{AreLines, AreSmall, own, own_of}
use Rattle.ebs_lineage.proofs.Arrays.{same_blocks}
use Rattle.ebs_lineage.proofs.Changes.{insert-here, insert-other, same_or}
use Rattle.ebs_node_rules.specs.inner.Nodes.{ascends}
use Rattle.ebs_node_rules.specs.Arrays.{Array, with_entries}
use Rattle.ebs_node_rows.specs.Rows.{AreEntriesOf}

-- one more behind all
module _ {X : Type 0} where
  pub all_more : (p : X → Bool) (xs : List X) (x : X) → list_all p xs ≡ true → p x ≡ true → list_all p (xs ++ x ∷ []) ≡ true
  all_more p xs x all one = list_all-append p xs (x ∷ []) ∙ (λ i. all i && (one i && true))

  pub ascends_more : (key : X → ℕ) (xs : List X) (x : X) → ascends key xs ≡ true → list_all (λ y. ltb (key y) (key x)) xs ≡ true → ascends key (xs ++ x ∷ []) ≡ true
  ascends_more key [] x a h = refl
  ascends_more key (y ∷ xs) x a h = (λ i. all_more (λ z. ltb (key y) (key z)) xs x (and_parts _ _ a).0 (and_parts _ _ h).0 i && ascends_more key xs x (and_parts _ _ a).1 (and_parts _ _ h).1 i)

  pub weaker : (p q : X → Bool) → ((x : X) → p x ≡ true → q x ≡ true) → (xs : List X) → list_all p xs ≡ true → list_all q xs ≡ true
  weaker p q more [] h = refl
  weaker p q more (x ∷ xs) h = (λ i. more x (and_parts _ _ h).0 i && weaker p q more xs (and_parts _ _ h).1 i)

pub is_lower : (m n : ℕ) → m < n → ltb m n ≡ true
is_lower m n l = grind (arith, nat_tests)

put_behind : (es : List EntryRow) (e : EntryRow) (a : Array) → with_entries a (es ++ e ∷ []) ≡ map.insert (with_entries a es) e.index e.block
put_behind [] e a = refl
put_behind (d ∷ es) e a = put_behind es e (map.insert a d.index d.block)

-- the blocks below an index are entered
pub record IsEntered (blocks : Blocks) (at : ℕ) (entries : List EntryRow) : Type 0 where
  pub below : (q : ℕ) → q < at → map.get (with_entries map.empty entries) q ≡ map.get blocks q
  pub above : (q : ℕ) → at ≤ q → map.get (with_entries map.empty entries) q ≡ None
  pub ascend : ascends (λ e. e.index) entries ≡ true
  pub under : list_all (λ e. ltb e.index at) entries ≡ true
  pub small : list_all (λ e. ltb e.index (2 ^ 32)) entries ≡ true

pub none_entered : (blocks : Blocks) (entries : List EntryRow) → entries ≡ [] → IsEntered blocks 0 entries
none_entered blocks entries is = subst (IsEntered blocks 0) (sym is) (record {
  below = λ q l. absurd (omega (arith, l));
  above = λ q l. get-empty nat_cmp q;
  ascend = refl;
  under = refl;
  small = refl;
})

pub one_entered : (blocks : Blocks) (from : ℕ) (old new : List EntryRow) (e : EntryRow) → new ≡ old ++ e ∷ [] → e.index < 2 ^ 32
    → IsLeastFrom (map.get blocks) from (Some (e.index, e.block)) → IsEntered blocks from old → IsEntered blocks (e.index + 1) new
one_entered blocks from old new e is near least h = subst (IsEntered blocks (e.index + 1)) (sym is) (record {
  below = below;
  above = λ q l. here q ∙ insert-other all e.index e.block q (λ same. absurd (omega (arith, l, same))) ∙ h.above q (let far = least.0 in omega (arith, l, far));
  ascend = ascends_more (λ x. x.index) old e h.ascend (weaker (λ x. ltb x.index from) (λ x. ltb x.index e.index) (λ x low. let l : x.index < from = ltb-true x.index from low in let far = least.0 in is_lower x.index e.index (omega (arith, l, far))) old h.under);
  under = all_more (λ x. ltb x.index (e.index + 1)) old e (weaker (λ x. ltb x.index from) (λ x. ltb x.index (e.index + 1)) (λ x low. let l : x.index < from = ltb-true x.index from low in let far = least.0 in is_lower x.index (e.index + 1) (omega (arith, l, far))) old h.under) (is_lower e.index (e.index + 1) (omega arith));
  small = all_more (λ x. ltb x.index (2 ^ 32)) old e h.small (is_lower e.index (2 ^ 32) near);
})
  where
    all : Array
    all = with_entries map.empty old

    here : (q : ℕ) → map.get (with_entries map.empty (old ++ e ∷ [])) q ≡ map.get (map.insert (with_entries map.empty old) e.index e.block) q
    here q = ap (λ a. map.get a q) (put_behind old e map.empty)

    before : (q : ℕ) → q < e.index → map.get (with_entries map.empty old) q ≡ map.get blocks q
    before q l = by (ltb q from) refl
      where
        by : (b : Bool) → ltb q from ≡ b → map.get (with_entries map.empty old) q ≡ map.get blocks q
        by true low = h.below q (ltb-true q from low)
        by false high = let far : from ≤ q = grind (arith, nat_tests) in h.above q far ∙ sym (least.2 q far l)

    below : (q : ℕ) → q < e.index + 1 → map.get (with_entries map.empty (old ++ e ∷ [])) q ≡ map.get blocks q
    below q l = elim (same_or q e.index) [
      | inl same ↦ here q ∙ ap (map.get (map.insert (with_entries map.empty old) e.index e.block)) same ∙ insert-here (with_entries map.empty old) e.index e.block ∙ sym least.1 ∙ ap (map.get blocks) (sym same)
      | inr other ↦ here q ∙ insert-other (with_entries map.empty old) e.index e.block q other ∙ before q (omega (arith, l, other))
    ]

-- no block stands behind
pub all_entered : (blocks : Blocks) (from : ℕ) (entries : List EntryRow) → ((q : ℕ) → from ≤ q → map.get blocks q ≡ None) → IsEntered blocks from entries → AreEntriesOf blocks entries
all_entered blocks from entries none h = record {
  own = same_blocks (with_entries map.empty entries) blocks same;
  ascend = h.ascend;
  small = h.small;
}
  where
    same : (q : ℕ) → map.get (with_entries map.empty entries) q ≡ map.get blocks q
    same q = by (ltb q from) refl
      where
        by : (b : Bool) → ltb q from ≡ b → map.get (with_entries map.empty entries) q ≡ map.get blocks q
        by true low = h.below q (ltb-true q from low)
        by false high = let far : from ≤ q = grind (arith, nat_tests) in h.above q far ∙ sym (none q far)

-- a node's own blocks have indexes of 32 bits
module _ (nodes : NodeMap) (made : ℕ) (are : AreLines nodes made) (n : ℕ) where
  pub own_small : AreSmall (own nodes n)
  own_small = by (map.get nodes n) refl
    where
      by : (o : Option Node) → map.get nodes n ≡ o → AreSmall (own_of o)
      by None is = λ i b e. let no : None ≡ Some b = sym (get-empty nat_cmp i) ∙ e in absurd (cc)
      by (Some x) is = are.small n x is

  pub none_far : (from q : ℕ) → 2 ^ 32 ≤ from → from ≤ q → map.get (own nodes n) q ≡ None
  none_far from q far l = by (map.get (own nodes n) q) refl
    where
      by : (o : Option Block) → map.get (own nodes n) q ≡ o → o ≡ None
      by None e = refl
      by (Some b) e = let near : q < 2 ^ 32 = own_small q b e in absurd (omega (arith, near, far, l))
