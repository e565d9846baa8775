-- Marking the nodes that are named, and their ancestors.
use Rattle.std.proofs.Common.{◌≡◌, ℕ, zero, suc, ◌+◌, ◌<◌, ◌≤◌, ◌⊎◌, inl, inr, true, false, is_some, Option, Some, None, IsSome, refl, sym, ap, subst, ◌∙◌, arith}
use Rattle.std.specs.Ordering.{nat_cmp}
use Rattle.std.specs.FinMap as map
use Rattle.std.specs.FinMap.{get-empty}
use Rattle.ebs_lineage.specs.Table.{NodeMap}
use Rattle.ebs_lineage.specs.Lines.{AreLines, parent_of}
use Rattle.ebs_lineage.specs.Live.{up_from}
use Rattle.ebs_lineage.proofs.Changes.{insert-here, insert-other, same_or}
use Rattle.ebs_lineage.proofs.Onward.{on-next, on-self, on-trans, parent-is, up-none}
use Rattle.ebs_node_rows.specs.Marks.{AreMarked, AreThere, IsIn, IsWanted, Marks, Set}

pub none_some : {A B : Type 0} (a : A) → None ≡ Some a → B
none_some a e = absurd (cc)

some_there : {A : Type 0} (o : Option A) → IsSome o → (x : A) × (o ≡ Some x)
some_there None h = absurd (cc)
some_there (Some x) h = (x, refl)

pub some_same : {A : Type 0} (a b : A) → Some a ≡ Some b → a ≡ b
some_same a b e = cc

inserted : (old : Set) (n : ℕ) → Marks (λ q. q ≡ n) old (map.insert old n tt)
inserted old n = record {
  marked = λ q e. ap is_some (ap (map.get (map.insert old n tt)) e ∙ insert-here old n tt);
  stays = stays;
  others = others;
}
  where
    stays : (q : ℕ) → IsIn old q → IsIn (map.insert old n tt) q
    stays q h = elim (same_or q n) [
      | inl e ↦ ap is_some (ap (map.get (map.insert old n tt)) e ∙ insert-here old n tt)
      | inr other ↦ ap is_some (insert-other old n tt q other) ∙ h
    ]

    others : (q : ℕ) → IsIn (map.insert old n tt) q → IsIn old q ⊎ (q ≡ n)
    others q h = elim (same_or q n) [
      | inl e ↦ inr e
      | inr other ↦ inl (ap is_some (sym (insert-other old n tt q other)) ∙ h)
    ]

-- the number that is marked is the only one of its kind
pub marks_one : (more : ℕ → Type 0) (old new : Set) (n : ℕ) → new ≡ map.insert old n tt → more n → ((q : ℕ) → more q → q ≡ n) → Marks more old new
marks_one more old new n is one only = subst (Marks more old) (sym is) (record {
  marked = λ q h. (inserted old n).marked q (only q h);
  stays = (inserted old n).stays;
  others = λ q h. elim ((inserted old n).others q h) [
    | inl before ↦ inl before
    | inr e ↦ inr (subst more (sym e) one)
  ];
})

-- what stands when the nodes from a number on have been seen
pub record IsMarking (nodes : NodeMap) (names : Set) (at : ℕ) (set : Set) : Type 0 where
  pub named : (q : ℕ) → at ≤ q → IsIn names q → IsIn set q
  pub up : (d p : ℕ) → at ≤ d → IsIn set d → parent_of nodes d ≡ Some p → IsIn set p
  pub wanted : (q : ℕ) → IsIn set q → IsWanted nodes names q

module _ (nodes : NodeMap) (made : ℕ) (are : AreLines nodes made) (names : Set) where
  pub has_kid : (d p : ℕ) → parent_of nodes d ≡ Some p → (p < d) × (d < made)
  has_kid d p e = let kid = parent-is nodes d p e in ((are.parents d p kid.0 kid.1 kid.2).0, are.numbers d kid.0 kid.1)

  pub none_marked : AreThere nodes names → (set : Set) (at : ℕ) → at ≡ made → set ≡ map.empty → IsMarking nodes names at set
  none_marked there set at e none =
      let nothing : (q : ℕ) → IsIn set q → ⊥ = λ q h. let no : false ≡ true = sym (ap (λ (s : Set). map.contains_key s q) none ∙ ap is_some (get-empty nat_cmp q)) ∙ h in cc in
      record {
        named = λ q l h. let (x, is) = some_there (map.get nodes q) (there q h) in let below = are.numbers q x is in absurd (omega (arith, l, below, e));
        up = λ d p l h _. absurd (nothing d h);
        wanted = λ q h. absurd (nothing q h);
      }

  named_wanted : (q : ℕ) → IsIn names q → IsWanted nodes names q
  named_wanted q h = (q, h, on-self nodes q)

  pub up_wanted : (d p : ℕ) → parent_of nodes d ≡ Some p → IsWanted nodes names d → IsWanted nodes names p
  up_wanted d p e (h, is, line) = (h, is, on-trans nodes h d p line (on-next nodes d p p e (on-self nodes p)))

  -- one number further down
  pub one_marked : (at n : ℕ) (old mid new : Set) → at ≡ n + 1 → Marks (λ q. (q ≡ n) × IsIn names q) old mid → Marks (λ q. (map.contains_key mid n ≡ true) × (parent_of nodes n ≡ Some q)) mid new
      → IsMarking nodes names at old → IsMarking nodes names n new
  one_marked at n old mid new e first next m = record { named = named; up = up; wanted = wanted }
    where
      named : (q : ℕ) → n ≤ q → IsIn names q → IsIn new q
      named q l h = elim (same_or q n) [
        | inl same ↦ next.stays q (first.marked q (same, h))
        | inr other ↦ next.stays q (first.stays q (m.named q (omega (arith, l, other, e)) h))
      ]

      -- a mark that is new by now is at the number or below it
      back : (d : ℕ) → at ≤ d → IsIn new d → IsIn old d
      back d l h = elim (next.others d h) [
        | inl before ↦ elim (first.others d before) [
          | inl there ↦ there
          | inr (same, _) ↦ absurd (omega (arith, l, same, e))
        ]
        | inr (_, above) ↦ let low = (has_kid n d above).0 in absurd (omega (arith, l, low, e))
      ]

      here : IsIn new n → IsIn mid n
      here h = elim (next.others n h) [
        | inl before ↦ before
        | inr (there, _) ↦ there
      ]

      up : (d p : ℕ) → n ≤ d → IsIn new d → parent_of nodes d ≡ Some p → IsIn new p
      up d p l h above = elim (same_or d n) [
        | inl same ↦ next.marked p (here (subst (IsIn new) same h), ap (parent_of nodes) (sym same) ∙ above)
        | inr other ↦ let far : at ≤ d = omega (arith, l, other, e) in next.stays p (first.stays p (m.up d p far (back d far h) above))
      ]

      between : (q : ℕ) → IsIn mid q → IsWanted nodes names q
      between q h = elim (first.others q h) [
        | inl before ↦ m.wanted q before
        | inr (_, is) ↦ named_wanted q is
      ]

      wanted : (q : ℕ) → IsIn new q → IsWanted nodes names q
      wanted q h = elim (next.others q h) [
        | inl before ↦ between q before
        | inr (there, above) ↦ up_wanted n q above (between n there)
      ]

  -- all are marked
  module _ (set : Set) (m : IsMarking nodes names 0 set) where
    along : (s a n : ℕ) → IsIn set a → up_from nodes s (Some a) ≡ Some n → IsIn set n
    along zero a n h e = subst (IsIn set) (some_same a n e) h
    along (suc s) a n h e = by (parent_of nodes a) refl e (λ p there more. along s p n there more)
      where
        by : (o : Option ℕ) → parent_of nodes a ≡ o → up_from nodes s o ≡ Some n → ((p : ℕ) → IsIn set p → up_from nodes s (Some p) ≡ Some n → IsIn set n) → IsIn set n
        by None above f more = none_some n (sym (up-none nodes s) ∙ f)
        by (Some p) above f more = more p (m.up a p (omega arith) h above) f

    pub all_marked : AreMarked nodes names set
    all_marked = record {
      wanted = m.wanted;
      each = λ n (h, is, (s, e)). along s h n (m.named h (omega arith) is) e;
    }
