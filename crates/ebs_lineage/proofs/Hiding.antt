-- Which nodes hide a block, through the calls of a lineage.
use Rattle.std.proofs.Common.{arith, ◌≡◌, ◌⊎◌, inl, inr, ℕ, ◌+◌, ◌<◌, ◌≤◌, ◌^◌, Bool, true, false, cond, Option, Some, None, IsSome, is_some, refl, sym, ap, subst, ◌∙◌}
use Rattle.std.proofs.lemmas.Bool.{false≢true}
use Rattle.std.specs.Ordering.{nat_cmp, eq_by_cmp}
use Rattle.std.specs.Cmp.{nat_cmp_total}
use Rattle.std.specs.Option.{option_map}
use Rattle.std.specs.FinMap as map
use Rattle.std.specs.FinMap.{get-remove, get-empty}
use Rattle.ebs_model.specs.declared.array.Block.{Block}
use Rattle.ebs_lineage.specs.declared.node.Node.{Node}
use Rattle.ebs_lineage.specs.Table.{NodeMap, changed, put_node, without_block}
use Rattle.ebs_lineage.specs.Lines.{AreLines, IsFrozen, IsHeld, IsOpen, new_node, own, own_of, parent_in, parent_of}
use Rattle.ebs_lineage.specs.Live.{IsLive, IsOnLine, IsWanted, owner, owner_above}
use Rattle.ebs_lineage.specs.Hiders.{HiderTable, Hides, IsForgotten, hiding_cmp, hiding_by, with_hiding, without_hiding}
use Rattle.ebs_lineage.specs.Hidden.{IsHider, AreHiders, hidden_by, noted_by}
use Rattle.ebs_lineage.proofs.Changes.{same_or, insert-here, insert-other, changed-here, changed-other, changed-is, put-keeps, without-keeps, lines-new, lines-changed, unborn, open_childless, fresh_childless}
use Rattle.ebs_lineage.proofs.Liveness.{owner-up, owner-own, owner-none}
use Rattle.ebs_lineage.proofs.Waiting.{owner-on-line, owner-apart, owner-stays}
use Rattle.ebs_lineage.proofs.Owners.{owner_kept, parents_find}
use Rattle.ebs_lineage.proofs.Hidings.{noted-here, noted-was, noted-stays, removed-was, removed-stays}
use Rattle.ebs_lineage.proofs.Onward.{on-self, on-lower, on-made-before, through-kid, on-goes, on-was, parents-changed, held-changed, on-old, on-new, on-made, from-made, held-old, wanted-held, wanted-up, wanted-goes, wanted-old}
use Rattle.ebs_tables.proofs.MapEdits.{tied}

none_some : {A B : Type 0} (a : A) → None ≡ Some a → B
none_some a e = absurd (cc)

some_same : {A : Type 0} (a b : A) → Some a ≡ Some b → a ≡ b
some_same a b e = cc

is_it : (o : Option ℕ) (n : ℕ) → (o ≡ Some n) ⊎ (o ≡ Some n → ⊥)
is_it None n = inr (λ e. none_some n e)
is_it (Some m) n = elim (same_or m n) [ inl e ↦ inl (ap (λ q. Some q) e) | inr off ↦ inr (λ e. off (some_same m n e)) ]

same_place : (n i m j : ℕ) → ((n ≡ m) × (i ≡ j)) ⊎ ((n ≡ m) × (i ≡ j) → ⊥)
same_place n i m j = elim (same_or n m) [
  | inr off ↦ inr (λ both. off both.0)
  | inl e ↦ elim (same_or i j) [ inl h ↦ inl (e, h) | inr off ↦ inr (λ both. off both.1) ]
]

-- a node of a line on which a held one is reached
abbrev HasHider : NodeMap → HiderTable → ℕ → ℕ → ℕ → Type 0
HasHider nodes h n i x = (c : ℕ) × Hides h n i c × IsOnLine nodes x c

-- ---- nodes that find the same

module _ (f g : NodeMap) (h : HiderTable) (parents : (q : ℕ) → parent_of g q ≡ parent_of f q) (was : (q : ℕ) → IsHeld g q → IsHeld f q)
    (finds : (i x : ℕ) → owner g i x ≡ owner f i x) (keeps : (n : ℕ) → own g n ≡ own f n) where
  pub hiders-same : AreHiders f h → AreHiders g h
  hiders-same are = record {
    hidden = λ n i c e.
        let x = are.hidden n i c e in
        record { below = on-goes f g parents c n x.below; later = x.later; hides = λ y held line found. x.hides y (was y held) (on-was f g parents y c line) (sym (finds i y) ∙ found) };
    shown = λ n i x some line wanted off.
        let found = are.shown n i x (subst (λ b. IsSome (map.get b i)) (keeps n) some) (on-was f g parents x n line) (wanted-goes g f (λ q. sym (parents q)) was x wanted) (λ e. off (finds i x ∙ e)) in
        (found.0, found.1, on-goes f g parents x found.0 found.2);
  }

-- ---- a new node

module _ (nodes : NodeMap) (made : ℕ) (are : AreLines nodes made) (up : Option ℕ) (good : (p : ℕ) → up ≡ Some p → IsFrozen nodes p × IsHeld nodes p) (h : HiderTable) (hiders : AreHiders nodes h) where
  abbrev grown : NodeMap
  grown = map.insert nodes made (new_node up)

  grown_are : AreLines grown (made + 1)
  grown_are = lines-new nodes made are up (λ p e. (good p e).0)

  grown_here : map.get grown made ≡ Some (new_node up)
  grown_here = insert-here nodes made (new_node up)

  old_finds : (i x : ℕ) → (x ≡ made → ⊥) → owner grown i x ≡ owner nodes i x
  old_finds i x off = owner_kept nodes grown made i (insert-other nodes made (new_node up)) (fresh_childless nodes made are) x off

  made_finds : (i p : ℕ) → up ≡ Some p → owner grown i made ≡ owner nodes i p
  made_finds i p u =
      owner-none grown (made + 1) grown_are i made (new_node up) grown_here (get-empty nat_cmp i)
      ∙ ap (λ o. owner_above o (owner grown i)) u
      ∙ old_finds i p (λ e. unborn nodes made are p (good p u).0.0 (good p u).0.1 e)

  own_made : (i : ℕ) → IsSome (map.get (own grown made) i) → ⊥
  own_made i some = false≢true (sym (ap is_some (ap (λ (o : Option Node). map.get (own_of o) i) grown_here ∙ get-empty nat_cmp i)) ∙ some)

  hidden_new : (n i c : ℕ) → Hides h n i c → IsHider grown n i c
  hidden_new n i c e =
      let x = hiders.hidden n i c e in
      let there = on-made-before nodes made are c n x.below x.later in
      let off : c ≡ made → ⊥ = λ s. (let same : c ≡ made = s in let below : c < made = there in absurd (omega arith)) in
      record {
        below = on-new nodes made are up c n off x.below;
        later = x.later;
        hides = λ y held line found. elim (same_or y made) [
          | inl s ↦ elim (on-made nodes made are up good c (subst (λ k. IsOnLine grown k c) s line)) [
            | inl same ↦ off (sym same)
            | inr (p, u, more) ↦ x.hides p (good p u).1 more (sym (made_finds i p u) ∙ ap (owner grown i) (sym s) ∙ found)
          ]
          | inr away ↦ x.hides y (held-old nodes made are up y away held) (on-old nodes made are up y c away line) (sym (old_finds i y away) ∙ found)
        ];
      }

  shown_new : (n i x : ℕ) → IsSome (map.get (own grown n) i) → IsOnLine grown x n → IsWanted grown x → (owner grown i x ≡ Some n → ⊥) → (n ≡ made) ⊎ (n ≡ made → ⊥) → (x ≡ made) ⊎ (x ≡ made → ⊥) → HasHider grown h n i x
  shown_new n i x some line wanted off (inl s) b = absurd (own_made i (subst (λ k. IsSome (map.get (own grown k) i)) s some))
  shown_new n i x some line wanted off (inr a) (inl s) = elim (on-made nodes made are up good n (subst (λ k. IsOnLine grown k n) s line)) [
    | inl same ↦ absurd (a (sym same))
    | inr (p, u, more) ↦
        let found = hiders.shown n i p (subst (λ (o : Option Node). IsSome (map.get (own_of o) i)) (insert-other nodes made (new_node up) n a) some) more (wanted-held nodes p (good p u).1)
        (λ e. off (ap (owner grown i) s ∙ made_finds i p u ∙ e)) in
        (found.0, found.1, subst (λ k. IsOnLine grown k found.0) (sym s) (from-made nodes made are up good p found.0 u found.2))
  ]
  shown_new n i x some line wanted off (inr a) (inr b) =
      let found = hiders.shown n i x (subst (λ (o : Option Node). IsSome (map.get (own_of o) i)) (insert-other nodes made (new_node up) n a) some) (on-old nodes made are up x n b line) (wanted-old nodes made are up good x b wanted) (λ e. off (old_finds i x b ∙ e)) in
      (found.0, found.1, on-new nodes made are up x found.0 b found.2)

  pub hiders-new : AreHiders grown h
  hiders-new = record { hidden = hidden_new; shown = λ n i x some line wanted off. shown_new n i x some line wanted off (same_or n made) (same_or x made) }

-- ---- a block is put

module _ (nodes : NodeMap) (made : ℕ) (are : AreLines nodes made) (k i0 : ℕ) (b : Block) (opened : IsOpen nodes k) (near : i0 < 2 ^ 32) (h : HiderTable) (hiders : AreHiders nodes h) where
  abbrev put : NodeMap
  put = changed nodes k (put_node i0 b)

  abbrev x0 : Node
  x0 = opened.0

  put_are : AreLines put made
  put_are = lines-changed nodes made are k (put_node i0 b) (put-keeps i0 b near)

  put_here : map.get put k ≡ Some (put_node i0 b x0)
  put_here = ap (λ (m : NodeMap). map.get m k) (changed-is nodes k (put_node i0 b) x0 opened.1) ∙ insert-here nodes k (put_node i0 b x0)

  parents : (q : ℕ) → parent_of put q ≡ parent_of nodes q
  parents = parents-changed nodes k (put_node i0 b) (put-keeps i0 b near)

  was_held : (q : ℕ) → IsHeld put q → IsHeld nodes q
  was_held = held-changed nodes k (put_node i0 b) (λ x is holds. holds)

  no_kids : (m : ℕ) (x : Node) → map.get nodes m ≡ Some x → x.parent ≡ Some k → ⊥
  no_kids = open_childless nodes made are k opened

  alone : (q : ℕ) → IsOnLine nodes q k → q ≡ k
  alone q line = elim (through-kid nodes q k line) [
    | inl same ↦ same
    | inr (d, (y, is, up), more) ↦ absurd (no_kids d y is up)
  ]

  others_find : (i x : ℕ) → (x ≡ k → ⊥) → owner put i x ≡ owner nodes i x
  others_find i x off = owner_kept nodes put k i (changed-other nodes k (put_node i0 b)) no_kids x off

  here_finds : owner put i0 k ≡ Some k
  here_finds = owner-own put made put_are i0 k (put_node i0 b x0) b put_here (insert-here x0.own.blocks i0 b)

  else_finds : (i : ℕ) → (i ≡ i0 → ⊥) → owner put i k ≡ owner nodes i k
  else_finds i off =
      owner-up put made put_are i k (put_node i0 b x0) put_here
      ∙ (λ j. cond (is_some (insert-other x0.own.blocks i0 b i off j)) (Some k) (parents_find nodes put k i (changed-other nodes k (put_node i0 b)) no_kids k x0 opened.1 j))
      ∙ sym (owner-up nodes made are i k x0 opened.1)

  -- what a node keeps at another place is as before
  kept_there : (n i : ℕ) → ((n ≡ k) × (i ≡ i0) → ⊥) → IsSome (map.get (own put n) i) → IsSome (map.get (own nodes n) i)
  kept_there n i off some = elim (same_or n k) [
    | inr away ↦ subst (λ (o : Option Node). IsSome (map.get (own_of o) i)) (changed-other nodes k (put_node i0 b) n away) some
    | inl s ↦
        let at : i ≡ i0 → ⊥ = λ e. off (s, e) in
        ap is_some (ap (λ q. map.get (own nodes q) i) s ∙ ap (λ (o : Option Node). map.get (own_of o) i) opened.1 ∙ sym (insert-other x0.own.blocks i0 b i at)
        ∙ sym (ap (λ (o : Option Node). map.get (own_of o) i) put_here) ∙ ap (λ q. map.get (own put q) i) (sym s)) ∙ some
  ]

  -- hiders are noted as before, or this node is, where it hides what it found
  module _ (g : HiderTable) (was : (n i c : ℕ) → Hides g n i c → Hides h n i c ⊎ ((i ≡ i0) × (c ≡ k) × (owner nodes i0 k ≡ Some n) × (n ≡ k → ⊥)))
      (stays : (n i c : ℕ) → Hides h n i c → Hides g n i c)
      (comes : (n : ℕ) → owner nodes i0 k ≡ Some n → (n ≡ k → ⊥) → Hides g n i0 k) where
    hides_still : (n i c : ℕ) → IsHider nodes n i c → (y : ℕ) → IsHeld put y → IsOnLine put y c → owner put i y ≡ Some n → ⊥
    hides_still n i c x y held line found = elim (same_or y k) [
      | inr away ↦ x.hides y (was_held y held) (on-was nodes put parents y c line) (sym (others_find i y away) ∙ found)
      | inl s ↦ elim (same_or i i0) [
        | inr off ↦ x.hides y (was_held y held) (on-was nodes put parents y c line) (ap (owner nodes i) s ∙ sym (else_finds i off) ∙ ap (owner put i) (sym s) ∙ found)
        | inl e ↦
            let same : k ≡ n = some_same k n (sym here_finds ∙ (λ j. owner put (sym e j) (sym s j)) ∙ found) in
            let one : c ≡ k = alone c (subst (λ q. IsOnLine nodes c q) (sym same) x.below) in
            let later : n < c = x.later in
            absurd (omega arith)
      ]
    ]

    hidden_put : (n i c : ℕ) → Hides h n i c ⊎ ((i ≡ i0) × (c ≡ k) × (owner nodes i0 k ≡ Some n) × (n ≡ k → ⊥)) → IsHider put n i c
    hidden_put n i c (inl e) = let x = hiders.hidden n i c e in record { below = on-goes nodes put parents c n x.below; later = x.later; hides = hides_still n i c x }
    hidden_put n i c (inr (at, here, finds, off)) =
        let line : IsOnLine nodes k n = owner-on-line nodes i0 k n finds in
        let low : n ≤ k = on-lower nodes made are k n line in
        let same : c ≡ k = here in
        let later : (n < k) ⊎ (n ≡ k) = grind arith in
        record {
          below = on-goes nodes put parents c n (subst (λ q. IsOnLine nodes q n) (sym here) line);
          later = elim later [ inl less ↦ (let below : n < k = less in omega arith) | inr one ↦ absurd (off one) ];
          hides = λ y held under found.
              let mine : y ≡ k = alone y (subst (λ q. IsOnLine nodes y q) here (on-was nodes put parents y c under)) in
              off (sym (some_same k n (sym here_finds ∙ (λ j. owner put (sym at j) (sym mine j)) ∙ found)));
        }

    shown_put : (n i x : ℕ) → IsSome (map.get (own put n) i) → IsOnLine put x n → IsWanted put x → (owner put i x ≡ Some n → ⊥) → HasHider put g n i x
    shown_put n i x some line wanted off = by (same_or x k) (same_or i i0)
      where
        lasts : HasHider nodes h n i x → HasHider put g n i x
        lasts (c, e, above) = (c, stays n i c e, on-goes nodes put parents x c above)

        line_was : IsOnLine nodes x n
        line_was = on-was nodes put parents x n line

        wanted_was : IsWanted nodes x
        wanted_was = wanted-goes put nodes (λ q. sym (parents q)) was_held x wanted

        at_index : x ≡ k → i ≡ i0 → (n ≡ k → ⊥) → (owner nodes i0 k ≡ Some n) ⊎ (owner nodes i0 k ≡ Some n → ⊥) → HasHider put g n i x
        at_index s e away (inl finds) = (k, subst (λ q. Hides g n q k) (sym e) (comes n finds away), subst (λ q. IsOnLine put q k) (sym s) (on-self put k))
        at_index s e away (inr never) = lasts (hiders.shown n i x (kept_there n i (λ both. away both.0) some) line_was wanted_was (λ q. never ((λ j. owner nodes (sym e j) (sym s j)) ∙ q)))

        by : (x ≡ k) ⊎ (x ≡ k → ⊥) → (i ≡ i0) ⊎ (i ≡ i0 → ⊥) → HasHider put g n i x
        by (inr away) d = lasts (hiders.shown n i x (kept_there n i (λ both. away (alone x (subst (λ q. IsOnLine nodes x q) both.0 line_was))) some) line_was wanted_was (λ e. off (others_find i x away ∙ e)))
        by (inl s) (inr else) = lasts (hiders.shown n i x (kept_there n i (λ both. else both.1) some) line_was wanted_was (λ e. off (ap (owner put i) s ∙ else_finds i else ∙ ap (owner nodes i) (sym s) ∙ e)))
        by (inl s) (inl e) =
            let away : n ≡ k → ⊥ = λ same. off ((λ j. owner put (e j) (s j)) ∙ here_finds ∙ ap (λ q. Some q) (sym same)) in
            at_index s e away (is_it (owner nodes i0 k) n)

    hiders_put : AreHiders put g
    hiders_put = record { hidden = λ n i c e. hidden_put n i c (was n i c e); shown = shown_put }

  unhidden : ((n : ℕ) → owner nodes i0 k ≡ Some n → n ≡ k) → AreHiders put h
  unhidden none = hiders_put h (λ n i c e. inl e) (λ n i c e. e) (λ n finds off. absurd (off (none n finds)))

  module _ (m : ℕ) (finds : owner nodes i0 k ≡ Some m) (apart : m ≡ k → ⊥) where
    abbrev more : HiderTable
    more = with_hiding h m i0 k

    was_noted : (n i c : ℕ) → Hides more n i c → Hides h n i c ⊎ ((i ≡ i0) × (c ≡ k) × (owner nodes i0 k ≡ Some n) × (n ≡ k → ⊥))
    was_noted n i c e = elim (noted-was h m i0 k n i c e) [
      | inl old ↦ inl old
      | inr (s, at, here) ↦ inr (at, here, finds ∙ ap (λ q. Some q) (sym s), λ same. apart (sym s ∙ same))
    ]

    comes_noted : (n : ℕ) → owner nodes i0 k ≡ Some n → (n ≡ k → ⊥) → Hides more n i0 k
    comes_noted n found off = subst (λ q. Hides more q i0 k) (some_same m n (sym finds ∙ found)) (noted-here h m i0 k)

    hiding : AreHiders put more
    hiding = hiders_put more was_noted (noted-stays h m i0 k) comes_noted

  by_owner : (o : Option ℕ) → map.get x0.own.blocks i0 ≡ None → owner nodes i0 k ≡ o → AreHiders put (noted_by h o i0 k)
  by_owner None none e = unhidden (λ n finds. none_some n (sym e ∙ finds))
  by_owner (Some m) none e = hiding m e (λ s. owner_apart m s e none)
    where
      -- a node that keeps nothing there finds what an earlier one keeps
      above_low : (up : Option ℕ) → x0.parent ≡ up → owner_above up (owner nodes i0) ≡ Some k → ⊥
      above_low None u h = none_some k h
      above_low (Some p) u h =
          let low : p < k = (are.parents k p x0 opened.1 u).0 in
          let under : k ≤ p = on-lower nodes made are p k (owner-on-line nodes i0 p k h) in
          absurd (omega arith)

      owner_apart : (q : ℕ) → q ≡ k → owner nodes i0 k ≡ Some q → map.get x0.own.blocks i0 ≡ None → ⊥
      owner_apart q s finds bare = above_low x0.parent refl (sym (owner-none nodes made are i0 k x0 opened.1 bare) ∙ finds ∙ ap (λ n. Some n) s)

  by_own : (o : Option Block) → map.get (own nodes k) i0 ≡ o → AreHiders put (noted_by h (cond (is_some o) None (owner_above (parent_of nodes k) (owner nodes i0))) i0 k)
  by_own (Some old) e =
      let has : map.get x0.own.blocks i0 ≡ Some old = sym (ap (λ (o : Option Node). map.get (own_of o) i0) opened.1) ∙ e in
      unhidden (λ n finds. sym (some_same k n (sym (owner-own nodes made are i0 k x0 old opened.1 has) ∙ finds)))
  by_own None e =
      let none : map.get x0.own.blocks i0 ≡ None = sym (ap (λ (o : Option Node). map.get (own_of o) i0) opened.1) ∙ e in
      by_owner (owner_above (parent_of nodes k) (owner nodes i0)) none
      (owner-none nodes made are i0 k x0 opened.1 none ∙ ap (λ (o : Option Node). owner_above (parent_in o) (owner nodes i0)) (sym opened.1))

  pub hiders-put : AreHiders put (noted_by h (hidden_by nodes k i0) i0 k)
  hiders-put = by_own (map.get (own nodes k) i0) refl

-- ---- a block is taken away that no held node finds

module _ (nodes : NodeMap) (n0 i0 : ℕ) (dead : IsLive nodes n0 i0 → ⊥) (h g : HiderTable) (hiders : AreHiders nodes h) (forgotten : IsForgotten h g n0 i0) where
  abbrev rest : NodeMap
  rest = changed nodes n0 (without_block i0)

  parents_stay : (q : ℕ) → parent_of rest q ≡ parent_of nodes q
  parents_stay = parents-changed nodes n0 (without_block i0) (without-keeps i0)

  held_was : (q : ℕ) → IsHeld rest q → IsHeld nodes q
  held_was = held-changed nodes n0 (without_block i0) (λ x is holds. holds)

  removed : (m : map.FinMap nat_cmp Block) (i : ℕ) → map.get (map.remove m i) i ≡ None
  removed m i = get-remove nat_cmp_total m i i ∙ ap (λ t. cond t None (map.get m i)) (tied nat_cmp_total i)

  some_of_removed : (m : map.FinMap nat_cmp Block) (i j : ℕ) → IsSome (map.get (map.remove m i) j) → (j ≡ i → ⊥) × IsSome (map.get m j)
  some_of_removed m i j some = (
    λ e. false≢true (sym (ap is_some (ap (map.get (map.remove m i)) e ∙ removed m i)) ∙ some),
    by (eq_by_cmp nat_cmp j i) (ap is_some (sym (get-remove nat_cmp_total m i j)) ∙ some),
  )
    where
      by : (t : Bool) → is_some (cond t None (map.get m j)) ≡ true → IsSome (map.get m j)
      by true e = absurd (false≢true e)
      by false e = e

  own_was : (o : Option Node) (n i : ℕ) → map.get nodes n ≡ o → n ≡ n0 → IsSome (map.get (own rest n) i) → (i ≡ i0 → ⊥) × IsSome (map.get (own nodes n) i)
  own_was None n i is s some =
      let gone : map.get rest n ≡ None = ap (map.get rest) s ∙ changed-here nodes n0 (without_block i0) ∙ ap (λ q. option_map (without_block i0) (map.get nodes q)) (sym s) ∙ ap (option_map (without_block i0)) is in
      absurd (false≢true (sym (ap is_some (ap (λ (o : Option Node). map.get (own_of o) i) gone ∙ get-empty nat_cmp i)) ∙ some))
  own_was (Some x) n i is s some =
      let there : map.get rest n ≡ Some (without_block i0 x) = ap (map.get rest) s ∙ ap (λ (m : NodeMap). map.get m n0) (changed-is nodes n0 (without_block i0) x (ap (map.get nodes) (sym s) ∙ is)) ∙ insert-here nodes n0 (without_block i0 x) in
      let both = some_of_removed x.own.blocks i0 i (subst (λ (o : Option Node). IsSome (map.get (own_of o) i)) there some) in
      (both.0, subst (λ (o : Option Node). IsSome (map.get (own_of o) i)) (sym is) both.1)

  kept_was : (n i : ℕ) → IsSome (map.get (own rest n) i) → ((n ≡ n0) × (i ≡ i0) → ⊥) × IsSome (map.get (own nodes n) i)
  kept_was n i some = elim (same_or n n0) [
    | inl s ↦ (let both = own_was (map.get nodes n) n i refl s some in (λ same. both.0 same.1, both.1))
    | inr off ↦ (λ same. off same.0, subst (λ (o : Option Node). IsSome (map.get (own_of o) i)) (changed-other nodes n0 (without_block i0) n off) some)
  ]

  hidden_rest : (n i c : ℕ) → Hides g n i c → IsHider rest n i c
  hidden_rest n i c e =
      let x = hiders.hidden n i c (forgotten.was n i c e).0 in
      record {
        below = on-goes nodes rest parents_stay c n x.below;
        later = x.later;
        hides = λ y held line found. x.hides y (held_was y held) (on-was nodes rest parents_stay y c line) (sym (owner-stays nodes n0 i0 i dead y (held_was y held)) ∙ found);
      }

  shown_rest : (n i x : ℕ) → IsSome (map.get (own rest n) i) → IsOnLine rest x n → IsWanted rest x → (owner rest i x ≡ Some n → ⊥) → HasHider rest g n i x
  shown_rest n i x some line wanted off =
      let was = kept_was n i some in
      let found = hiders.shown n i x was.1 (on-was nodes rest parents_stay x n line) (wanted-goes rest nodes (λ q. sym (parents_stay q)) held_was x wanted) (λ e.
      off (owner-apart nodes n0 i0 i x (λ s f. was.0 (some_same n n0 (sym e ∙ ap (λ q. owner nodes q x) s ∙ f), s)) ∙ e)) in
      (found.0, forgotten.stays n i found.0 found.1 was.0, on-goes nodes rest parents_stay x found.0 found.2)

  pub hiders-rest : AreHiders rest g
  hiders-rest = record { hidden = hidden_rest; shown = shown_rest }

-- ---- a node from which no held one is reached isn't noted any more

pub hiders-less : (nodes : NodeMap) (h : HiderTable) (n i c : ℕ) → (IsWanted nodes c → ⊥) → AreHiders nodes h → AreHiders nodes (without_hiding h n i c)
hiders-less nodes h n i c unwanted hiders = record {
  hidden = λ m j d e. hiders.hidden m j d (removed-was h n i c m j d e).0;
  shown = λ m j x some line wanted off.
      let found = hiders.shown m j x some line wanted off in
      (found.0, removed-stays h n i c m j found.0 found.1 (λ all. unwanted (subst (IsWanted nodes) all.2 (wanted-up nodes x found.0 found.2 wanted))), found.2);
}

-- ---- nothing is there yet

pub no-hiders : AreHiders map.empty (record { hidings = map.empty; is_whole = true })
no-hiders = record {
  hidden = λ n i c e. absurd (false≢true (sym (ap is_some (get-empty hiding_cmp (hiding_by n i c))) ∙ e));
  shown = λ n i x some line wanted off. absurd (false≢true (sym (ap is_some (ap (λ (o : Option Node). map.get (own_of o) i) (get-empty nat_cmp n) ∙ get-empty nat_cmp i)) ∙ some));
}
