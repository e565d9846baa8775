-- Lines, and the ways down along them.
use Rattle.std.proofs.Common.{arith, ◌≡◌, ◌⊎◌, inl, inr, ℕ, zero, suc, ◌<◌, ◌≤◌, true, false, Option, Some, None, is_some, refl, sym, ap, subst, ◌∙◌}
use Rattle.std.proofs.lemmas.Bool.{false≢true}
use Rattle.std.specs.Option.{option_map}
use Rattle.std.specs.Ordering.{nat_cmp}
use Rattle.std.specs.FinMap as map
use Rattle.ebs_lineage.specs.declared.node.Node.{Node}
use Rattle.ebs_lineage.specs.declared.place.Place.{Place}
use Rattle.ebs_lineage.specs.declared.link.Link.{Link}
use Rattle.ebs_lineage.specs.Table.{NodeMap, changed}
use Rattle.ebs_lineage.specs.Lines.{AreLines, IsFrozen, IsHeld, new_node, parent_in, parent_of}
use Rattle.ebs_lineage.specs.Kin.{Links, first_in, next_in, newer_in, below_in, place_in, first_of, next_of, below_of, relinked, with_first, with_back, with_below, with_place, with_kid, new_link, IsKid, IsWantedKid, AreKin}
use Rattle.ebs_lineage.specs.Linked.{IsRelisted}
use Rattle.ebs_lineage.specs.Live.{up_from, IsOnLine, IsWanted}
use Rattle.ebs_lineage.specs.Ways.{IsWay, IsWayDown, AreWays, IsNoted}
use Rattle.ebs_lineage.proofs.Changes.{same_or, insert-here, insert-other, changed-here, changed-other, Keeps, unborn}
use Rattle.ebs_lineage.proofs.Relinking.{kept_by, other_kept, back_kept, relinked-here, relinked-other}

none_some : {A B : Type 0} (a : A) → None ≡ Some a → B
none_some a e = absurd (cc)

some_same : {A : Type 0} (a b : A) → Some a ≡ Some b → a ≡ b
some_same a b e = cc

three : (a b : ℕ) → (a < b) ⊎ (a ≡ b) ⊎ (b < a)
three a b = grind arith

-- ---- lines

module _ (nodes : NodeMap) where
  pub up-none : (s : ℕ) → up_from nodes s None ≡ None
  up-none zero = refl
  up-none (suc s) = refl

  pub on-self : (n : ℕ) → IsOnLine nodes n n
  on-self n = (zero, refl)

  pub on-next : (a p n : ℕ) → parent_of nodes a ≡ Some p → IsOnLine nodes p n → IsOnLine nodes a n
  on-next a p n up line = (suc line.0, ap (up_from nodes line.0) up ∙ line.1)

  line_on : (s a b c : ℕ) → up_from nodes s (Some a) ≡ Some b → IsOnLine nodes b c → IsOnLine nodes a c
  line_on zero a b c e line = subst (λ q. IsOnLine nodes q c) (sym (some_same a b e)) line
  line_on (suc s) a b c e line = by (parent_of nodes a) refl e (λ p h. line_on s p b c h line)
    where
      by : (o : Option ℕ) → parent_of nodes a ≡ o → up_from nodes s o ≡ Some b → ((p : ℕ) → up_from nodes s (Some p) ≡ Some b → IsOnLine nodes p c) → IsOnLine nodes a c
      by None up h more = none_some b (sym (up-none s) ∙ h)
      by (Some p) up h more = on-next a p c up (more p h)

  pub on-trans : (a b c : ℕ) → IsOnLine nodes a b → IsOnLine nodes b c → IsOnLine nodes a c
  on-trans a b c line more = line_on line.0 a b c line.1 more

  parent_at : (o : Option Node) (p : ℕ) → parent_in o ≡ Some p → (x : Node) × (o ≡ Some x) × (x.parent ≡ Some p)
  parent_at None p e = none_some p e
  parent_at (Some x) p e = (x, refl, e)

  pub parent-is : (a p : ℕ) → parent_of nodes a ≡ Some p → IsKid nodes p a
  parent-is a p e = parent_at (map.get nodes a) p e

  -- a node of the line is the first one, or the first one has a parent from which it is reached
  pub line-starts : (a b : ℕ) → IsOnLine nodes a b → (a ≡ b) ⊎ ((p : ℕ) × IsKid nodes p a × IsOnLine nodes p b)
  line-starts a b (zero, e) = inl (some_same a b e)
  line-starts a b (suc s, e) = by (parent_of nodes a) refl e
    where
      by : (o : Option ℕ) → parent_of nodes a ≡ o → up_from nodes s o ≡ Some b → (a ≡ b) ⊎ ((p : ℕ) × IsKid nodes p a × IsOnLine nodes p b)
      by None up h = none_some b (sym (up-none s) ∙ h)
      by (Some p) up h = inr (p, parent-is a p up, (s, h))

  kid_by : (s a n : ℕ) → up_from nodes s (Some a) ≡ Some n → (a ≡ n) ⊎ ((d : ℕ) × IsKid nodes n d × IsOnLine nodes a d)
  kid_by zero a n e = inl (some_same a n e)
  kid_by (suc s) a n e = by (parent_of nodes a) refl e (λ p h. kid_by s p n h)
    where
      by : (o : Option ℕ) → parent_of nodes a ≡ o → up_from nodes s o ≡ Some n → ((p : ℕ) → up_from nodes s (Some p) ≡ Some n → (p ≡ n) ⊎ ((d : ℕ) × IsKid nodes n d × IsOnLine nodes p d))
          → (a ≡ n) ⊎ ((d : ℕ) × IsKid nodes n d × IsOnLine nodes a d)
      by None up h more = none_some n (sym (up-none s) ∙ h)
      by (Some p) up h more = elim (more p h) [
        | inl e ↦ inr (a, subst (λ q. IsKid nodes q a) e (parent-is a p up), on-self a)
        | inr (d, kid, line) ↦ inr (d, kid, on-next a p d up line)
      ]

  -- what is below a node is below one of its children
  pub through-kid : (a n : ℕ) → IsOnLine nodes a n → (a ≡ n) ⊎ ((d : ℕ) × IsKid nodes n d × IsOnLine nodes a d)
  through-kid a n line = kid_by line.0 a n line.1

  -- of two nodes above one, one is above the other
  fork_by : (s a b c : ℕ) → up_from nodes s (Some a) ≡ Some b → IsOnLine nodes a c → IsOnLine nodes b c ⊎ IsOnLine nodes c b
  fork_by zero a b c e line = inl (subst (λ q. IsOnLine nodes q c) (some_same a b e) line)
  fork_by (suc s) a b c e line = by (parent_of nodes a) refl e (λ p h more. fork_by s p b c h more)
    where
      by : (o : Option ℕ) → parent_of nodes a ≡ o → up_from nodes s o ≡ Some b → ((p : ℕ) → up_from nodes s (Some p) ≡ Some b → IsOnLine nodes p c → IsOnLine nodes b c ⊎ IsOnLine nodes c b) → IsOnLine nodes b c ⊎ IsOnLine nodes c b
      by None up h more = none_some b (sym (up-none s) ∙ h)
      by (Some p) up h more = elim (line-starts a c line) [
        | inl same ↦ inr (subst (λ q. IsOnLine nodes q b) same (on-next a p b up (s, h)))
        | inr (q, (y, is, above), rest) ↦ more p h (subst (λ k. IsOnLine nodes k c) (some_same q p (sym (ap parent_in is ∙ above) ∙ up)) rest)
      ]

  pub on-both : (a b c : ℕ) → IsOnLine nodes a b → IsOnLine nodes a c → IsOnLine nodes b c ⊎ IsOnLine nodes c b
  on-both a b c line more = fork_by line.0 a b c line.1 more

  -- ---- nodes from which held ones are reached

  pub wanted-held : (n : ℕ) → IsHeld nodes n → IsWanted nodes n
  wanted-held n held = (n, held, on-self n)

  pub wanted-up : (a n : ℕ) → IsOnLine nodes a n → IsWanted nodes a → IsWanted nodes n
  wanted-up a n line (h, held, more) = (h, held, on-trans h a n more line)

  pub kid-on : (n d : ℕ) → IsKid nodes n d → IsOnLine nodes d n
  kid-on n d (y, is, up) = on-next d n n (ap parent_in is ∙ up) (on-self n)

  pub kid-one : (n m d : ℕ) → IsKid nodes n d → IsKid nodes m d → n ≡ m
  kid-one n m d (y, is, up) (z, at, more) = some_same n m (sym (ap parent_in is ∙ up) ∙ (ap parent_in at ∙ more))

  -- somebody holds it, or a child of it is wanted
  pub wanted-by : (n : ℕ) → IsWanted nodes n → IsHeld nodes n ⊎ ((d : ℕ) × IsWantedKid nodes n d)
  wanted-by n (h, held, line) = elim (through-kid h n line) [
    | inl same ↦ inl (subst (IsHeld nodes) same held)
    | inr (d, kid, more) ↦ inr (d, (kid, (h, held, more)))
  ]

module _ (nodes : NodeMap) (made : ℕ) (are : AreLines nodes made) where
  lower_by : (s a b : ℕ) → up_from nodes s (Some a) ≡ Some b → b ≤ a
  lower_by zero a b e = let same : a ≡ b = some_same a b e in omega arith
  lower_by (suc s) a b e = by (parent_of nodes a) refl e (λ p h. lower_by s p b h)
    where
      by : (o : Option ℕ) → parent_of nodes a ≡ o → up_from nodes s o ≡ Some b → ((p : ℕ) → up_from nodes s (Some p) ≡ Some b → b ≤ p) → b ≤ a
      by None up h more = none_some b (sym (up-none nodes s) ∙ h)
      by (Some p) up h more =
          let kid = parent-is nodes a p up in
          let low : p < a = (are.parents a p kid.0 kid.1 kid.2).0 in
          let rest : b ≤ p = more p h in
          omega arith

  pub on-lower : (a b : ℕ) → IsOnLine nodes a b → b ≤ a
  on-lower a b line = lower_by line.0 a b line.1

  pub kid-later : (n d : ℕ) → IsKid nodes n d → (n < d) × (d < made)
  kid-later n d (y, is, up) = ((are.parents d n y is up).0, are.numbers d y is)

  -- a node below another one is there
  pub on-made-before : (a b : ℕ) → IsOnLine nodes a b → b < a → a < made
  on-made-before a b line later = elim (line-starts nodes a b line) [
    | inl e ↦ let same : a ≡ b = e in absurd (omega arith)
    | inr (p, kid, more) ↦ (kid-later p a kid).1
  ]

-- ---- ways

module _ (nodes : NodeMap) where
  pub way-self : (n : ℕ) → IsWay nodes n n
  way-self n = record { above = on-self nodes n; held = λ h held line. line }

  pub way-on : (a b c : ℕ) → IsWay nodes a b → IsWay nodes b c → IsWay nodes a c
  way-on a b c first more = record {
    above = on-trans nodes c b a more.above first.above;
    held = λ h held line. more.held h held (first.held h held line);
  }

  pub down-on : (a b c : ℕ) → IsWayDown nodes a b → IsWayDown nodes b c → IsWayDown nodes a c
  down-on a b c first more =
      let low : a < b = first.later in
      let high : b < c = more.later in
      record { way = way-on a b c first.way more.way; later = omega arith; there = more.there }

  -- the only child from which held ones are reached is on the way
  module _ (made : ℕ) (are : AreLines nodes made) (links : Links) (kin : AreKin nodes links) (n e : ℕ) (x : Node) (is : map.get nodes n ≡ Some x) (free : x.is_held ≡ false)
      (first : first_of links n ≡ Some e) (last : next_of links e ≡ None) where
    kid : IsWantedKid nodes n e
    kid = kin.first n e first

    only : (d : ℕ) → IsWantedKid nodes n d → d ≡ e
    only d other = elim (three d e) [
      | inl low ↦ absurd (kin.oldest n e d kid last other low)
      | inr h ↦ elim h [
        | inl same ↦ same
        | inr high ↦ absurd (kin.newest n e d first other high)
      ]
    ]

    held_apart : (h : ℕ) → IsHeld nodes h → h ≡ n → ⊥
    held_apart h (y, at, holds) e = false≢true (sym free ∙ ap (λ (z : Node). z.is_held) (some_same x y (sym is ∙ ap (map.get nodes) (sym e) ∙ at)) ∙ holds)

    pub kid-way : IsWayDown nodes n e
    kid-way = record {
      way = record {
        above = kid-on nodes n e kid.0;
        held = λ h held line. elim (through-kid nodes h n line) [
          | inl same ↦ absurd (held_apart h held same)
          | inr (d, other, more) ↦ subst (λ k. IsOnLine nodes h k) (only d (other, (h, held, more))) more
        ];
      };
      later = (kid-later nodes made are n e kid.0).0;
      there = ap is_some kid.0.1;
    }

-- ---- the same parents

module _ (f g : NodeMap) (parents : (q : ℕ) → parent_of g q ≡ parent_of f q) where
  up_same : (s : ℕ) (at : Option ℕ) → up_from g s at ≡ up_from f s at
  up_same zero at = refl
  up_same (suc s) None = refl
  up_same (suc s) (Some n) = ap (up_from g s) (parents n) ∙ up_same s (parent_of f n)

  pub on-goes : (a b : ℕ) → IsOnLine f a b → IsOnLine g a b
  on-goes a b line = (line.0, up_same line.0 (Some a) ∙ line.1)

  pub on-was : (a b : ℕ) → IsOnLine g a b → IsOnLine f a b
  on-was a b line = (line.0, sym (up_same line.0 (Some a)) ∙ line.1)

  pub way-same : ((h : ℕ) → IsHeld g h → IsHeld f h) → (n d : ℕ) → IsWay f n d → IsWay g n d
  way-same was n d way = record {
    above = on-goes d n way.above;
    held = λ h held line. on-goes h d (way.held h (was h held) (on-was h n line));
  }

  pub wanted-goes : ((h : ℕ) → IsHeld f h → IsHeld g h) → (n : ℕ) → IsWanted f n → IsWanted g n
  wanted-goes goes n (h, held, line) = (h, goes h held, on-goes h n line)

module _ (nodes : NodeMap) (n : ℕ) (f : Node → Node) where
  parent_kept : Keeps f → (o : Option Node) → parent_in (option_map f o) ≡ parent_in o
  parent_kept keeps None = refl
  parent_kept keeps (Some x) = keeps.parent x

  there_kept : (o : Option Node) → is_some (option_map f o) ≡ is_some o
  there_kept None = refl
  there_kept (Some x) = refl

  changed_by : {A : Type 0} (g : Option Node → A) → ((o : Option Node) → g (option_map f o) ≡ g o) → (q : ℕ) → g (map.get (changed nodes n f) q) ≡ g (map.get nodes q)
  changed_by g h q = elim (same_or q n) [
    | inl e ↦ ap (λ k. g (map.get (changed nodes n f) k)) e ∙ ap g (changed-here nodes n f) ∙ h (map.get nodes n) ∙ ap (λ k. g (map.get nodes k)) (sym e)
    | inr off ↦ ap g (changed-other nodes n f q off)
  ]

  pub parents-changed : Keeps f → (q : ℕ) → parent_of (changed nodes n f) q ≡ parent_of nodes q
  parents-changed keeps = changed_by parent_in (parent_kept keeps)

  pub there-changed : (q : ℕ) → is_some (map.get (changed nodes n f) q) ≡ is_some (map.get nodes q)
  there-changed = changed_by is_some there_kept

  held_at : ((x : Node) → map.get nodes n ≡ Some x → (f x).is_held ≡ true → x.is_held ≡ true) → (o : Option Node) → map.get nodes n ≡ o → (y : Node) → option_map f o ≡ Some y → y.is_held ≡ true → IsHeld nodes n
  held_at calm None is y e holds = none_some y e
  held_at calm (Some x) is y e holds = (x, is, calm x is (ap (λ (z : Node). z.is_held) (some_same (f x) y e) ∙ holds))

  -- the change makes nobody hold the node
  pub held-changed : ((x : Node) → map.get nodes n ≡ Some x → (f x).is_held ≡ true → x.is_held ≡ true) → (h : ℕ) → IsHeld (changed nodes n f) h → IsHeld nodes h
  held-changed calm h (y, is, holds) = elim (same_or h n) [
    | inl e ↦ subst (IsHeld nodes) (sym e) (held_at calm (map.get nodes n) refl y (sym (changed-here nodes n f) ∙ ap (map.get (changed nodes n f)) (sym e) ∙ is) holds)
    | inr off ↦ (y, sym (changed-other nodes n f h off) ∙ is, holds)
  ]

  -- the change keeps the hold
  pub held-stays : ((x : Node) → map.get nodes n ≡ Some x → x.is_held ≡ true → (f x).is_held ≡ true) → (h : ℕ) → IsHeld nodes h → IsHeld (changed nodes n f) h
  held-stays stays h (x, is, holds) = elim (same_or h n) [
    | inl e ↦ (let at = ap (map.get nodes) (sym e) ∙ is in (f x, ap (map.get (changed nodes n f)) e ∙ changed-here nodes n f ∙ ap (option_map f) at, stays x at holds))
    | inr off ↦ (x, changed-other nodes n f h off ∙ is, holds)
  ]

  pub ways-changed : Keeps f → ((x : Node) → map.get nodes n ≡ Some x → (f x).is_held ≡ true → x.is_held ≡ true) → (links : Links) → AreWays nodes links → AreWays (changed nodes n f) links
  ways-changed keeps calm links ways a d e =
      let was = ways a d e in
      record {
        way = way-same nodes (changed nodes n f) (parents-changed keeps) (held-changed calm) a d was.way;
        later = was.later;
        there = there-changed d ∙ was.there;
      }

-- ---- links

module _ (nodes : NodeMap) (links : Links) (ways : AreWays nodes links) where
  pub ways-by : (more : Links) → ((q : ℕ) → below_of more q ≡ below_of links q) → AreWays nodes more
  ways-by more same n d e = ways n d (sym (same n) ∙ e)

  pub ways-placed : (n : ℕ) (p : Option Place) → AreWays nodes (relinked links n (with_place p))
  ways-placed n p = ways-by (relinked links n (with_place p)) (kept_by links n (with_place p) below_in (other_kept below_in (with_place p) (λ l. refl)))

  module _ (n d : ℕ) (down : IsWayDown nodes n d) where
    below_at : (o : Option Link) (e : ℕ) → below_in (option_map (with_below d) o) ≡ Some e → d ≡ e
    below_at None e h = none_some e h
    below_at (Some l) e h = some_same d e h

    pub ways-more : AreWays nodes (relinked links n (with_below d))
    ways-more a e h = elim (same_or a n) [
      | inl s ↦ subst (λ (p : ℕ × ℕ). IsWayDown nodes p.0 p.1)
          (λ i. (sym s i, below_at (map.get links n) e (sym (ap below_in (relinked-here links n (with_below d))) ∙ ap (λ k. below_of (relinked links n (with_below d)) k) (sym s) ∙ h) i)) down
      | inr off ↦ ways a e (sym (ap below_in (relinked-other links n (with_below d) a off)) ∙ h)
    ]

pub noted-self : (links : Links) → IsNoted links links
noted-self links = record { firsts = λ n. refl; nexts = λ n. refl; newers = λ n. refl; places = λ n. refl; there = λ n. refl }

pub noted-on : (a b c : Links) → IsNoted a b → IsNoted b c → IsNoted a c
noted-on a b c first more = record {
  firsts = λ n. more.firsts n ∙ first.firsts n;
  nexts = λ n. more.nexts n ∙ first.nexts n;
  newers = λ n. more.newers n ∙ first.newers n;
  places = λ n. more.places n ∙ first.places n;
  there = λ n. more.there n ∙ first.there n;
}

pub noted-one : (links : Links) (n d : ℕ) → IsNoted links (relinked links n (with_below d))
noted-one links n d = record {
  firsts = kept_by links n (with_below d) first_in (other_kept first_in (with_below d) (λ l. refl));
  nexts = kept_by links n (with_below d) next_in (other_kept next_in (with_below d) (λ l. refl));
  newers = kept_by links n (with_below d) newer_in (other_kept newer_in (with_below d) (λ l. refl));
  places = kept_by links n (with_below d) place_in (other_kept place_in (with_below d) (λ l. refl));
  there = kept_by links n (with_below d) is_some (other_kept is_some (with_below d) (λ l. refl));
}

-- ---- a new node

module _ (nodes : NodeMap) (made : ℕ) (are : AreLines nodes made) (up : Option ℕ) where
  abbrev grown : NodeMap
  grown = map.insert nodes made (new_node up)

  pub parent-old : (q : ℕ) → (q ≡ made → ⊥) → parent_of grown q ≡ parent_of nodes q
  parent-old q off = ap parent_in (insert-other nodes made (new_node up) q off)

  pub parent-made : parent_of grown made ≡ up
  parent-made = ap parent_in (insert-here nodes made (new_node up))

  abbrev IsOld : Option ℕ → Type 0
  IsOld at = (p : ℕ) → at ≡ Some p → p ≡ made → ⊥

  old_above : (q : ℕ) → IsOld (parent_of nodes q)
  old_above q p e same =
      let kid = parent-is nodes q p e in
      let frozen = (are.parents q p kid.0 kid.1 kid.2).1 in
      unborn nodes made are p frozen.0 frozen.1 same

  up_new : (s : ℕ) (at : Option ℕ) → IsOld at → up_from grown s at ≡ up_from nodes s at
  up_new zero at old = refl
  up_new (suc s) None old = refl
  up_new (suc s) (Some q) old = ap (up_from grown s) (parent-old q (old q refl)) ∙ up_new s (parent_of nodes q) (old_above q)

  is_old : (q : ℕ) → (q ≡ made → ⊥) → IsOld (Some q)
  is_old q off p e same = off (some_same q p e ∙ same)

  pub on-old : (x n : ℕ) → (x ≡ made → ⊥) → IsOnLine grown x n → IsOnLine nodes x n
  on-old x n off line = (line.0, sym (up_new line.0 (Some x) (is_old x off)) ∙ line.1)

  pub on-new : (x n : ℕ) → (x ≡ made → ⊥) → IsOnLine nodes x n → IsOnLine grown x n
  on-new x n off line = (line.0, up_new line.0 (Some x) (is_old x off) ∙ line.1)

  pub held-old : (h : ℕ) → (h ≡ made → ⊥) → IsHeld grown h → IsHeld nodes h
  held-old h off (y, is, holds) = (y, sym (insert-other nodes made (new_node up) h off) ∙ is, holds)

  module _ (good : (p : ℕ) → up ≡ Some p → IsFrozen nodes p × IsHeld nodes p) where
    off_parent : (p : ℕ) → up ≡ Some p → p ≡ made → ⊥
    off_parent p e same = unborn nodes made are p (good p e).1.0 (good p e).1.1 same

    -- what is above the new node is above its parent
    pub on-made : (n : ℕ) → IsOnLine grown made n → (made ≡ n) ⊎ ((p : ℕ) × (up ≡ Some p) × IsOnLine nodes p n)
    on-made n (zero, e) = inl (some_same made n e)
    on-made n (suc s, e) = by up refl (ap (up_from grown s) (sym parent-made) ∙ e)
      where
        by : (o : Option ℕ) → up ≡ o → up_from grown s o ≡ Some n → (made ≡ n) ⊎ ((p : ℕ) × (up ≡ Some p) × IsOnLine nodes p n)
        by None u h = none_some n (sym (up-none grown s) ∙ h)
        by (Some p) u h = inr (p, u, on-old p n (off_parent p u) (s, h))

    pub from-made : (p n : ℕ) → up ≡ Some p → IsOnLine nodes p n → IsOnLine grown made n
    from-made p n u line = on-next grown made p n (parent-made ∙ u) (on-new p n (off_parent p u) line)

    -- from which nodes held ones are reached is as before, and the new one is held
    pub wanted-new : (x : ℕ) → (x ≡ made → ⊥) → IsWanted nodes x → IsWanted grown x
    wanted-new x off (h, (y, is, holds), line) =
        let apart = unborn nodes made are h y is in
        (h, (y, insert-other nodes made (new_node up) h apart ∙ is, holds), on-new h x apart line)

    pub wanted-old : (x : ℕ) → (x ≡ made → ⊥) → IsWanted grown x → IsWanted nodes x
    wanted-old x off (h, held, line) = elim (same_or h made) [
      | inl s ↦ elim (on-made x (subst (λ k. IsOnLine grown k x) s line)) [
        | inl same ↦ absurd (off (sym same))
        | inr (p, u, more) ↦ (p, (good p u).1, more)
      ]
      | inr away ↦ (h, held-old h away held, on-old h x away line)
    ]

    pub wanted-made : IsWanted grown made
    wanted-made = wanted-held grown made (new_node up, insert-here nodes made (new_node up), refl)

    module _ (n d : ℕ) (down : IsWayDown nodes n d) where
      d_off : d ≡ made → ⊥
      d_off e = false≢true (sym (ap is_some (by (map.get nodes made) refl)) ∙ ap (λ q. is_some (map.get nodes q)) (sym e) ∙ down.there)
        where
          by : (o : Option Node) → map.get nodes made ≡ o → map.get nodes made ≡ None
          by None is = is
          by (Some x) is = absurd (unborn nodes made are made x is refl)

      n_off : made ≡ n → ⊥
      n_off e = d_off (by (map.get nodes d) refl)
        where
          by : (o : Option Node) → map.get nodes d ≡ o → d ≡ made
          by None is = absurd (false≢true (sym (ap is_some is) ∙ down.there))
          by (Some x) is =
              let below : d < made = are.numbers d x is in
              let later : n < d = down.later in
              let same : made ≡ n = e in
              absurd (omega arith)

      made_below : IsOnLine grown made n → IsOnLine grown made d
      made_below line = elim (on-made n line) [
        | inl e ↦ absurd (n_off e)
        | inr (p, u, more) ↦ from-made p d u (down.way.held p (good p u).1 more)
      ]

      pub way-new : IsWayDown grown n d
      way-new = record {
        way = record {
          above = on-new d n d_off down.way.above;
          held = λ h held line. elim (same_or h made) [
            | inl s ↦ subst (λ k. IsOnLine grown k d) (sym s) (made_below (subst (λ k. IsOnLine grown k n) s line))
            | inr off ↦ on-new h d off (down.way.held h (held-old h off held) (on-old h n off line))
          ];
        };
        later = down.later;
        there = ap is_some (insert-other nodes made (new_node up) d d_off) ∙ down.there;
      }

    pub ways-new : (links more : Links) → ((q : ℕ) → (q ≡ made → ⊥) → below_of more q ≡ below_of links q) → below_of more made ≡ None → AreWays nodes links → AreWays grown more
    ways-new links more same none ways n d e = elim (same_or n made) [
      | inl s ↦ none_some d (sym none ∙ ap (below_of more) (sym s) ∙ e)
      | inr off ↦ way-new n d (ways n d (sym (same n off) ∙ e))
    ]

module _ (nodes : NodeMap) (made : ℕ) (are : AreLines nodes made) (links : Links) (ways : AreWays nodes links) where
  pub root-ways : AreWays (map.insert nodes made (new_node None)) (map.insert links made (new_link None))
  root-ways = ways-new nodes made are None (λ p e. none_some p e) links (map.insert links made (new_link None))
      (λ q off. ap below_in (insert-other links made (new_link None) q off)) (ap below_in (insert-here links made (new_link None))) ways

  module _ (p : ℕ) (frozen : IsFrozen nodes p) (held : IsHeld nodes p) where
    abbrev base : Links
    base = map.insert links made (new_link (first_of links p))

    abbrev backed : Links
    backed = with_back base (first_of links p) (Some made)

    below_base : (q : ℕ) → below_of (with_kid links made p) q ≡ below_of base q
    below_base q =
        kept_by backed p (with_first (Some made)) below_in (other_kept below_in (with_first (Some made)) (λ l. refl)) q
        ∙ back_kept base below_in (λ c l. refl) (first_of links p) (Some made) q

    pub kid-ways : AreWays (map.insert nodes made (new_node (Some p))) (with_kid links made p)
    kid-ways = ways-new nodes made are (Some p) (λ q e. let same = some_same p q e in (subst (IsFrozen nodes) same frozen, subst (IsHeld nodes) same held)) links (with_kid links made p)
        (λ q off. below_base q ∙ ap below_in (insert-other links made (new_link (first_of links p)) q off))
        (below_base made ∙ ap below_in (insert-here links made (new_link (first_of links p)))) ways

-- what is noted of ways stays where children are left out
pub ways-relisted : (nodes : NodeMap) (links more : Links) → IsRelisted links more → AreWays nodes links → AreWays nodes more
ways-relisted nodes links more kept ways = ways-by nodes links ways more kept.belows

-- ---- nothing is there yet

pub no-ways : AreWays map.empty map.empty
no-ways n d e = none_some d (sym (ap below_in (map.get-empty nat_cmp n)) ∙ e)
