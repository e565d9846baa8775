-- The first blocks of an array, through the walk that lays them ready.
use Rattle.std.proofs.Common.{◌≡◌, ◌⊎◌, inl, inr, ℕ, ◌+◌, ◌<◌, ◌≤◌, ◌^◌, Bool, true, false, cond, List, [], ◌∷◌, Option, Some, None, is_some, Less, arith, refl, sym, ap, subst, ◌∙◌}
use Rattle.std.specs.Prelude.{nat_le}
use Rattle.std.specs.List.{AllByRecursion, filter}
use Rattle.std.specs.List.Sorted.{IsStrictlySortedBy}
use Rattle.std.specs.Map.{keys_of}
use Rattle.std.proofs.lemmas.Bool.Decides.{nat_tests}
use Rattle.std.specs.Ordering.{nat_cmp, eq_by_cmp}
use Rattle.std.specs.Cmp.{nat_cmp_total}
use Rattle.std.specs.FinMap.{find, get, entries, insert, empty, get-entries, get-empty, get-insert, nat_cmp-IsAntisymmetric}
use Rattle.ebs_tables.proofs.MapEdits.{is_same, tied}
use Rattle.ebs_tables.proofs.TreeMaps.{entries-sorted}
use Rattle.ebs_model.specs.declared.array.Block.{Block}
use Rattle.ebs_model.specs.Lists.{from_index}
use Rattle.ebs_lineage.specs.declared.node.Node.{Node}
use Rattle.ebs_lineage.specs.Owned.{Blocks, IsLeastFrom, or_else}
use Rattle.ebs_lineage.specs.Table.{NodeMap}
use Rattle.ebs_lineage.specs.Lines.{AreLines, AreSmall, array, of_parent, own, own_of, parent_in, parent_of}
use Rattle.ebs_lineage.proofs.Arrays.{get-up, array-none}
use Rattle.ebs_lineage.proofs.Listed.{found-first, found-later}
use Rattle.ebs_listing.specs.declared.window.Window.{Window}
use Rattle.ebs_listing.specs.Windows.{IsBounded, IsWindow, IsPart, AddsOne, LaysUnder, above}

none_some : {A B : Type 0} (x : A) → None ≡ Some x → B
none_some x e = absurd (cc)

some_is : {A : Type 0} (x y : A) → Some x ≡ Some y → x ≡ y
some_is x y e = cc

at_or_above : (i x : ℕ) → (nat_le i x ≡ true) ⊎ (nat_le i x ≡ false)
at_or_above i x = elim (nat_le i x) as (λ b. (b ≡ true) ⊎ (b ≡ false)) [ true ↦ inl refl | false ↦ inr refl ]

is_le : (i x : ℕ) → nat_le i x ≡ true → i ≤ x
is_le i x e = grind (arith, nat_tests)

is_gt : (i x : ℕ) → nat_le i x ≡ false → x < i
is_gt i x e = grind (arith, nat_tests)

less-is : (a b : ℕ) → nat_cmp a b ≡ Less → a < b
less-is a b e = grind (arith, nat_tests)

place : (q from : ℕ) → (q < from) ⊎ (from ≤ q)
place q from = grind arith

place-three : (q from next : ℕ) → (q < from) ⊎ ((from ≤ q) × (q < next)) ⊎ (q ≡ next) ⊎ (next < q)
place-three q from next = grind arith

-- ---- the first of a list from a place on is the least

none_below : (k q : ℕ) (xs : List (ℕ × Block)) → AllByRecursion (λ y. nat_cmp k y ≡ Less) (keys_of xs) → q ≤ k → find nat_cmp q xs ≡ None
none_below k q [] h b = refl
none_below k q (x ∷ xs) h b = let more : k < x.0 = less-is k x.0 h.0 in found-later x xs q (λ e. omega (arith, b, more, e)) ∙ none_below k q xs h.1 b

module _ (i : ℕ) where
  abbrev kept : List (ℕ × Block) → List (ℕ × Block)
  kept es = filter (λ e. nat_le i e.0) es

  abbrev Least : List (ℕ × Block) → ℕ × Block → Type 0
  Least es e = (i ≤ e.0) × (find nat_cmp e.0 es ≡ Some e.1) × ((q : ℕ) → i ≤ q → q < e.0 → find nat_cmp q es ≡ None)

  head_is : (x e : ℕ × Block) (xs rest : List (ℕ × Block)) → x ∷ xs ≡ e ∷ rest → x ≡ e
  head_is x e xs rest is = cc

  first_least : (es : List (ℕ × Block)) → IsStrictlySortedBy nat_cmp (keys_of es) → (e : ℕ × Block) (rest : List (ℕ × Block)) → kept es ≡ e ∷ rest → Least es e
  unfolding IsStrictlySortedBy
  first_least [] up e rest is = absurd (cc)
  first_least (x ∷ xs) up e rest is = by (at_or_above i x.0) (first_least xs up.1 e rest)
    where
      by : (nat_le i x.0 ≡ true) ⊎ (nat_le i x.0 ≡ false) → (kept xs ≡ e ∷ rest → Least xs e) → Least (x ∷ xs) e
      by (inl t) more =
          subst (Least (x ∷ xs)) (head_is x e (kept xs) rest (sym (ap (λ b. cond b (x ∷ kept xs) (kept xs)) t) ∙ is))
          (is_le i x.0 t, found-first x xs, λ q far before. found-later x xs q (λ s. omega (arith, before, s)) ∙ none_below x.0 q xs up.0 (omega (arith, before)))
      by (inr f) more =
          let low = is_gt i x.0 f in
          let rest_is = more (sym (ap (λ b. cond b (x ∷ kept xs) (kept xs)) f) ∙ is) in
          let at = rest_is.0 in
          (at, found-later x xs e.0 (λ s. omega (arith, low, at, s)) ∙ rest_is.1, λ q far before. found-later x xs q (λ s. omega (arith, low, far, s)) ∙ rest_is.2 q far before)

  none_left : (es : List (ℕ × Block)) → kept es ≡ [] → (q : ℕ) → i ≤ q → find nat_cmp q es ≡ None
  none_left [] is q far = refl
  none_left (x ∷ xs) is q far = by (at_or_above i x.0) (none_left xs)
    where
      by : (nat_le i x.0 ≡ true) ⊎ (nat_le i x.0 ≡ false) → (kept xs ≡ [] → (q : ℕ) → i ≤ q → find nat_cmp q xs ≡ None) → find nat_cmp q (x ∷ xs) ≡ None
      by (inl t) more = let clash : x ∷ kept xs ≡ [] = sym (ap (λ b. cond b (x ∷ kept xs) (kept xs)) t) ∙ is in absurd (cc)
      by (inr f) more =
          let low = is_gt i x.0 f in
          found-later x xs q (λ s. omega (arith, low, far, s)) ∙ more (sym (ap (λ b. cond b (x ∷ kept xs) (kept xs)) f) ∙ is) q far

pub least-some : (m : Blocks) (i : ℕ) (e : ℕ × Block) (rest : List (ℕ × Block)) → from_index m i ≡ e ∷ rest → IsLeastFrom (get m) i (Some e)
least-some m i e rest is =
    let l = first_least i (entries m) (entries-sorted nat_cmp m) e rest is in
    (l.0, get-entries m e.0 ∙ l.1, λ q far before. get-entries m q ∙ l.2 q far before)

pub least-none : (m : Blocks) (i : ℕ) → from_index m i ≡ [] → IsLeastFrom (get m) i None
least-none m i is = λ q far. get-entries m q ∙ none_left i (entries m) is q far

-- ---- a part of a window

other-index : (m : Blocks) (i : ℕ) (b : Block) (q : ℕ) → (q ≡ i → ⊥) → get (insert m i b) q ≡ get m q
other-index m i b q off = get-insert nat_cmp_total m i b q ∙ by (eq_by_cmp nat_cmp q i) refl
  where
    by : (t : Bool) → eq_by_cmp nat_cmp q i ≡ t → cond t (Some b) (get m q) ≡ get m q
    by true t = absurd (off (is_same nat_cmp-IsAntisymmetric q i t))
    by false t = refl

same-index : (m : Blocks) (i : ℕ) (b : Block) → get (insert m i b) i ≡ Some b
same-index m i b = get-insert nat_cmp_total m i b i ∙ ap (λ t. cond t (Some b) (get m i)) (tied nat_cmp_total i)

-- the blocks below an index, and no other
pub record IsBelow (blocks : Blocks) (from : ℕ) (kept : Blocks) : Type 0 where
  pub same : (q : ℕ) → q < from → get kept q ≡ get blocks q
  pub inside : (q : ℕ) (b : Block) → get kept q ≡ Some b → q < from

module _ (blocks : Blocks) where
  pub below-none : IsBelow blocks 0 empty
  below-none = record { same = λ q less. absurd (omega (arith, less)); inside = λ q b e. none_some b (sym (get-empty nat_cmp q) ∙ e) }

  -- none from there on
  outside : (from : ℕ) (kept : Blocks) → IsBelow blocks from kept → (q : ℕ) → from ≤ q → get kept q ≡ None
  outside from kept is q far = by (get kept q) refl
    where
      by : (o : Option Block) → get kept q ≡ o → get kept q ≡ None
      by None e = e
      by (Some b) e = let less = is.inside q b e in absurd (omega (arith, less, far))

  pub below-one : (from : ℕ) (kept : Blocks) (i : ℕ) (b : Block) → IsBelow blocks from kept → IsLeastFrom (get blocks) from (Some (i, b)) → IsBelow blocks (i + 1) (insert kept i b)
  below-one from kept i b is least = record { same = λ q less. at q less (place-three q from i); inside = λ q x e. within q x e (place-three q i i) }
    where
      after : from ≤ i
      after = least.0

      at : (q : ℕ) → q < i + 1 → (q < from) ⊎ ((from ≤ q) × (q < i)) ⊎ (q ≡ i) ⊎ (i < q) → get (insert kept i b) q ≡ get blocks q
      at q less (inl low) = other-index kept i b q (λ s. omega (arith, low, s, after)) ∙ is.same q low
      at q less (inr (inl mid)) = let m = mid.1 in other-index kept i b q (λ s. omega (arith, m, s)) ∙ outside from kept is q mid.0 ∙ sym (least.2 q mid.0 mid.1)
      at q less (inr (inr (inl same))) = ap (get (insert kept i b)) same ∙ same-index kept i b ∙ sym least.1 ∙ ap (get blocks) (sym same)
      at q less (inr (inr (inr high))) = absurd (omega (arith, less, high))

      within : (q : ℕ) (x : Block) → get (insert kept i b) q ≡ Some x → (q < i) ⊎ ((i ≤ q) × (q < i)) ⊎ (q ≡ i) ⊎ (i < q) → q < i + 1
      within q x e (inl low) = omega (arith, low)
      within q x e (inr (inl mid)) = let m = mid.1 in omega (arith, m)
      within q x e (inr (inr (inl same))) = omega (arith, same)
      within q x e (inr (inr (inr high))) = let less = is.inside q x (sym (other-index kept i b q (λ s. omega (arith, high, s))) ∙ e) in omega (arith, less, after)

  module _ (end : ℕ) (bounded : IsBounded (record { blocks = blocks; end = end })) (from : ℕ) (kept : Blocks) (is : IsBelow blocks from kept) where
    pub part-cut : (i : ℕ) (b : Block) → IsLeastFrom (get blocks) from (Some (i, b)) → IsPart (record { blocks = blocks; end = end }) (record { blocks = kept; end = i })
    part-cut i b least =
        let after = least.0 in
        let less = bounded.within i b least.1 in
        let top = bounded.top in
        record {
          bounded = record { within = λ q x e. let low = is.inside q x e in omega (arith, low, after); top = omega (arith, less, top) };
          lower = omega (arith, less);
          same = λ q low. at q low (place q from);
        }
      where
        at : (q : ℕ) → q < i → (q < from) ⊎ (from ≤ q) → get kept q ≡ get blocks q
        at q low (inl before) = is.same q before
        at q low (inr far) = outside from kept is q far ∙ sym (least.2 q far low)

    pub part-rest : from < end → IsLeastFrom (get blocks) from None → IsPart (record { blocks = blocks; end = end }) (record { blocks = kept; end = end })
    part-rest less none = record {
      bounded = record { within = λ q x e. let low = is.inside q x e in omega (arith, low, less); top = bounded.top };
      lower = omega arith;
      same = λ q low. at q (place q from);
    }
      where
        at : (q : ℕ) → (q < from) ⊎ (from ≤ q) → get kept q ≡ get blocks q
        at q (inl before) = is.same q before
        at q (inr far) = outside from kept is q far ∙ sym (none q far)

    pub part-all : end ≤ from → IsPart (record { blocks = blocks; end = end }) (record { blocks = kept; end = end })
    part-all far = record {
      bounded = record { within = λ q x e. bounded.within q x (sym (is.same q (is.inside q x e)) ∙ e); top = bounded.top };
      lower = omega arith;
      same = λ q low. is.same q (omega (arith, low, far));
    }

pub part-whole : (w : Window) → IsBounded w → IsPart w w
part-whole w bounded = record { bounded = bounded; lower = omega arith; same = λ q low. refl }

-- ---- a block that was missing

pub absent : {A : Type 0} (o : Option A) → is_some o ≡ false → o ≡ None
absent None e = refl
absent (Some x) e = absurd (cc)

pub present : {A : Type 0} (o : Option A) → is_some o ≡ true → (x : A) × (o ≡ Some x)
present None e = absurd (cc)
present (Some x) e = (x, refl)

pub adds-there : (index : ℕ) (block b : Block) (m : Blocks) → get m index ≡ Some b → AddsOne index block m m
adds-there index block b m there = record { here = there ∙ ap (λ o. or_else o (Some block)) (sym there); others = λ q off. refl }

pub adds-new : (index : ℕ) (block : Block) (m : Blocks) → get m index ≡ None → AddsOne index block m (insert m index block)
adds-new index block m none = record { here = same-index m index block ∙ ap (λ o. or_else o (Some block)) (sym none); others = λ q off. other-index m index block q off }

pub adds-bounded : (index : ℕ) (block : Block) (w : Window) (new : Blocks) → IsBounded w → index < w.end → AddsOne index block w.blocks new → IsBounded (record { blocks = new; end = w.end })
adds-bounded index block w new bounded less adds = record { within = λ q x e. at q x e (place-three q index index); top = bounded.top }
  where
    at : (q : ℕ) (x : Block) → get new q ≡ Some x → (q < index) ⊎ ((index ≤ q) × (q < index)) ⊎ (q ≡ index) ⊎ (index < q) → q < w.end
    at q x e (inl low) = bounded.within q x (sym (adds.others q (λ s. omega (arith, low, s))) ∙ e)
    at q x e (inr (inl mid)) = let m = mid.1 in let n = mid.0 in absurd (omega (arith, m, n))
    at q x e (inr (inr (inl same))) = subst (λ n. n < w.end) (sym same) less
    at q x e (inr (inr (inr high))) = bounded.within q x (sym (adds.others q (λ s. omega (arith, high, s))) ∙ e)

-- ---- a node's own blocks over its parent's

split : (nodes : NodeMap) (made : ℕ) → AreLines nodes made → (n q : ℕ) → get (array nodes n) q ≡ or_else (get (own nodes n) q) (get (above nodes n) q)
split nodes made are n q = by (get nodes n) refl
  where
    by : (o : Option Node) → get nodes n ≡ o → get (array nodes n) q ≡ or_else (get (own nodes n) q) (get (above nodes n) q)
    by (Some x) is = get-up nodes made are n x q is ∙ ap (λ (o : Option Node). or_else (get (own_of o) q) (get (of_parent (parent_in o) (array nodes)) q)) (sym is)
    by None is =
        ap (λ (a : Blocks). get a q) (array-none nodes n is)
        ∙ (λ i. or_else (sym (get-empty {X = Block} nat_cmp q) i) (get {X = Block} {R = nat_cmp} empty q))
        ∙ ap (λ (o : Option Node). or_else (get (own_of o) q) (get (of_parent (parent_in o) (array nodes)) q)) (sym is)

twice : (x y : Option Block) (b : Block) → or_else (or_else x (Some b)) y ≡ or_else x (Some b)
twice None y b = refl
twice (Some a) y b = refl

-- the node's own blocks below an index are laid
pub record IsLaidTo (nodes : NodeMap) (n start : ℕ) (old now : Window) (from : ℕ) : Type 0 where
  pub bounded : IsBounded now
  pub lower : now.end ≤ old.end
  pub below : (q : ℕ) → start ≤ q → q < from → q < now.end → or_else (get now.blocks q) (get (above nodes n) q) ≡ or_else (get old.blocks q) (get (array nodes n) q)
  pub rest : (q : ℕ) → from ≤ q → q < now.end → get now.blocks q ≡ get old.blocks q

module _ (nodes : NodeMap) (made : ℕ) (are : AreLines nodes made) (n start : ℕ) (old : Window) where
  abbrev LaidTo : Window → ℕ → Type 0
  LaidTo now from = IsLaidTo nodes n start old now from

  pub laid-none : IsBounded old → LaidTo old start
  laid-none bounded = record { bounded = bounded; lower = omega arith; below = λ q far low less. absurd (omega (arith, far, low)); rest = λ q far less. refl }

  -- where the node has no block of its own the parent's is the node's
  inherits : (now : Window) (from : ℕ) → LaidTo now from → (q : ℕ) → from ≤ q → q < now.end → get (own nodes n) q ≡ None → or_else (get now.blocks q) (get (above nodes n) q) ≡ or_else (get old.blocks q) (get (array nodes n) q)
  inherits now from so q far less none =
      (λ i. or_else (so.rest q far less i) (get (above nodes n) q))
      ∙ ap (or_else (get old.blocks q)) (sym (split nodes made are n q ∙ ap (λ o. or_else o (get (above nodes n) q)) none))

  pub laid-one : (now new : Window) (mid : Blocks) (from i : ℕ) (b : Block) → LaidTo now from → IsLeastFrom (get (own nodes n)) from (Some (i, b)) → i < now.end → AddsOne i b now.blocks mid
      → IsPart (record { blocks = mid; end = now.end }) new → LaidTo new (i + 1)
  laid-one now new mid from i b so least inside adds part =
      let lower = part.lower in
      let before = so.lower in
      record {
        bounded = part.bounded;
        lower = omega (arith, lower, before);
        below = λ q far low less. at q far low less (place-three q from i);
        rest = λ q far less. part.same q less ∙ adds.others q (λ s. omega (arith, far, s)) ∙ so.rest q (let after = least.0 in omega (arith, far, after)) (omega (arith, less, lower));
      }
    where
      ends : new.end ≤ now.end
      ends = part.lower

      after : from ≤ i
      after = least.0

      at : (q : ℕ) → start ≤ q → q < i + 1 → q < new.end → (q < from) ⊎ ((from ≤ q) × (q < i)) ⊎ (q ≡ i) ⊎ (i < q) → or_else (get new.blocks q) (get (above nodes n) q) ≡ or_else (get old.blocks q) (get (array nodes n) q)
      at q far low less (inl before) =
          ap (λ o. or_else o (get (above nodes n) q)) (part.same q less ∙ adds.others q (λ s. omega (arith, before, s, after))) ∙ so.below q far before (omega (arith, less, ends))
      at q far low less (inr (inl mid)) =
          let m = mid.1 in
          ap (λ o. or_else o (get (above nodes n) q)) (part.same q less ∙ adds.others q (λ s. omega (arith, m, s))) ∙ inherits now from so q mid.0 (omega (arith, less, ends)) (least.2 q mid.0 mid.1)
      at q far low less (inr (inr (inl same))) =
          subst (λ (p : ℕ). or_else (get new.blocks p) (get (above nodes n) p) ≡ or_else (get old.blocks p) (get (array nodes n) p)) (sym same)
          (ap (λ o. or_else o (get (above nodes n) i)) (part.same i (subst (λ (p : ℕ). p < new.end) same less) ∙ adds.here ∙ ap (λ o. or_else o (Some b)) (so.rest i after inside))
          ∙ twice (get old.blocks i) (get (above nodes n) i) b
          ∙ ap (or_else (get old.blocks i)) (sym (split nodes made are n i ∙ ap (λ o. or_else o (get (above nodes n) i)) least.1)))
      at q far low less (inr (inr (inr high))) = absurd (omega (arith, low, high))

  pub laid-all : (now : Window) (from : ℕ) → LaidTo now from → ((q : ℕ) → from ≤ q → q < now.end → get (own nodes n) q ≡ None) → LaysUnder nodes n start old now
  laid-all now from so none = record { bounded = so.bounded; lower = so.lower; laid = λ q far less. at q far less (place q from) }
    where
      at : (q : ℕ) → start ≤ q → q < now.end → (q < from) ⊎ (from ≤ q) → or_else (get now.blocks q) (get (above nodes n) q) ≡ or_else (get old.blocks q) (get (array nodes n) q)
      at q far less (inl before) = so.below q far before less
      at q far less (inr later) = inherits now from so q later less (none q later less)

-- ---- a line of nodes

-- the window over what is still above has what the node's array has
pub record IsLaid (nodes : NodeMap) (n start : ℕ) (w : Window) (at : Option ℕ) : Type 0 where
  pub bounded : IsBounded w
  pub same : (q : ℕ) → start ≤ q → q < w.end → get (array nodes n) q ≡ or_else (get w.blocks q) (get (of_parent at (array nodes)) q)

module _ (nodes : NodeMap) (n start : ℕ) where
  pub line-none : (w : Window) → w.blocks ≡ empty → w.end ≡ 2 ^ 32 → IsLaid nodes n start w (Some n)
  line-none w none top = record {
    bounded = record { within = λ q b e. none_some b (sym (ap (λ (m : Blocks). get m q) none ∙ get-empty nat_cmp q) ∙ e); top = omega (arith, top) };
    same = λ q far less. ap (λ o. or_else o (get (array nodes n) q)) (sym (ap (λ (m : Blocks). get m q) none ∙ get-empty nat_cmp q));
  }

  pub line-up : (w new : Window) (h : ℕ) → IsLaid nodes n start w (Some h) → LaysUnder nodes h start w new → IsLaid nodes n start new (parent_of nodes h)
  line-up w new h so lays = let lower = lays.lower in record {
    bounded = lays.bounded;
    same = λ q far less. so.same q far (omega (arith, less, lower)) ∙ sym (lays.laid q far less);
  }

  pub line-end : (w : Window) (at : Option ℕ) → at ≡ None → IsLaid nodes n start w at → IsWindow (array nodes n) start w
  line-end w at none so = record { bounded = so.bounded; same = λ q far less. sym (so.same q far less ∙ ap (λ (o : Option ℕ). or_else (get w.blocks q) (get (of_parent o (array nodes)) q)) none ∙ by (get w.blocks q) q) }
    where
      by : (o : Option Block) (q : ℕ) → or_else o (get {R = nat_cmp} empty q) ≡ o
      by None q = get-empty nat_cmp q
      by (Some b) q = refl

-- a window without blocks
pub window-none : (blocks : Blocks) (start : ℕ) (w : Window) → w.blocks ≡ empty → w.end ≡ 0 → IsWindow blocks start w
window-none blocks start w none zero_end = record {
  bounded = record { within = λ q b e. none_some b (sym (ap (λ (m : Blocks). get m q) none ∙ get-empty nat_cmp q) ∙ e); top = omega (arith, zero_end) };
  same = λ q far less. absurd (omega (arith, less, zero_end));
}

-- and one from a later start on
pub window-later : (blocks : Blocks) (start from : ℕ) (w : Window) → start ≤ from → IsWindow blocks start w → IsWindow blocks from w
window-later blocks start from w later so = record { bounded = so.bounded; same = λ q far less. so.same q (omega (arith, far, later)) less }

-- ---- what is next

module _ (blocks : Blocks) (index : ℕ) (w : Window) (so : IsWindow blocks index w) where
  pub next-some : (e : ℕ × Block) → IsLeastFrom (get w.blocks) index (Some e) → IsLeastFrom (get blocks) index (Some e)
  next-some e least =
      let inside = so.bounded.within e.0 e.1 least.1 in
      (least.0, sym (so.same e.0 least.0 inside) ∙ least.1, λ q far before. sym (so.same q far (omega (arith, before, inside))) ∙ least.2 q far before)

  pub next-none : AreSmall blocks → 2 ^ 32 ≤ w.end → IsLeastFrom (get w.blocks) index None → IsLeastFrom (get blocks) index None
  next-none small whole none = λ q far. by q far (place q w.end)
    where
      by : (q : ℕ) → index ≤ q → (q < w.end) ⊎ (w.end ≤ q) → get blocks q ≡ None
      by q far (inl less) = sym (so.same q far less) ∙ none q far
      by q far (inr beyond) = of (get blocks q) refl
        where
          of : (o : Option Block) → get blocks q ≡ o → get blocks q ≡ None
          of None e = e
          of (Some b) e = let near = small q b e in absurd (omega (arith, near, beyond, whole))
