-- Nodes from which no held one is reached any more are left out of their parents' children.
use Rattle.std.proofs.Common.{arith, ◌≡◌, ◌⊎◌, inl, inr, ℕ, ◌<◌, ◌≤◌, true, Option, Some, None, IsSome, is_some, refl, sym, ap, subst, ◌∙◌}
use Rattle.std.proofs.lemmas.Bool.{false≢true}
use Rattle.std.specs.FinMap as map
use Rattle.ebs_lineage.specs.declared.node.Node.{Node}
use Rattle.ebs_lineage.specs.Table.{NodeMap, changed}
use Rattle.ebs_lineage.specs.Lines.{AreLines, IsHeld, parent_in, parent_of}
use Rattle.ebs_lineage.specs.Live.{IsOnLine, IsWanted}
use Rattle.ebs_lineage.specs.Kin.{Links, first_in, next_in, newer_in, first_of, next_of, newer_of, unlinked, passed_over, IsKid, IsWantedKid, AreKin, AreListed}
use Rattle.ebs_lineage.specs.Linked.{IsWantedOr}
use Rattle.ebs_lineage.proofs.Changes.{same_or, changed-other, Keeps, kid-was, kid-goes}
use Rattle.ebs_lineage.proofs.Relinking.{back_kept, back_here, back_other, over_kept, over_first, over_first_other, over_next, over_next_other}
use Rattle.ebs_lineage.proofs.Listing.{none_some, listed-same}
use Rattle.ebs_lineage.proofs.OneLess.{IsLeftOut, listed-less}
use Rattle.ebs_lineage.proofs.Onward.{parent-is, on-self, on-next, on-lower, line-starts, kid-later, kid-on, kid-one, wanted-by, wanted-up, wanted-held, wanted-goes, parents-changed, held-changed, on-goes, on-was}

some_of : {A : Type 0} (o : Option A) → IsSome o → (x : A) × (o ≡ Some x)
some_of None h = absurd (false≢true h)
some_of (Some x) h = (x, refl)

module _ (nodes : NodeMap) (made : ℕ) (links : Links) (are : AreLines nodes made) (n : ℕ) (f : Node → Node) (keeps : Keeps f) where
  -- nobody holds it any more, and then it is left to be seen whether it and those above it still lead to somebody
  module _ (held : IsHeld nodes n) (gone : (x : Node) → (f x).is_held ≡ true → ⊥) where
    abbrev left : NodeMap
    left = changed nodes n f

    still : (h : ℕ) → IsHeld nodes h → (h ≡ n → ⊥) → IsHeld left h
    still h (x, is, holds) off = (x, changed-other nodes n f h off ∙ is, holds)

    wanted_or : (d : ℕ) → IsWanted nodes d → IsWanted left d ⊎ IsOnLine left n d
    wanted_or d (h, holds, line) = elim (same_or h n) [
      | inl s ↦ inr (on-goes nodes left (parents-changed nodes n f keeps) n d (subst (λ k. IsOnLine nodes k d) s line))
      | inr off ↦ inl (h, still h holds off, on-goes nodes left (parents-changed nodes n f keeps) h d line)
    ]

    or_wanted : (d : ℕ) → IsWanted left d ⊎ IsOnLine left n d → IsWanted nodes d
    or_wanted d (inl wanted) = wanted-goes left nodes (λ q. sym (parents-changed nodes n f keeps q)) (held-changed nodes n f (λ x is holds. absurd (gone x holds))) d wanted
    or_wanted d (inr line) = (n, held, on-was nodes left (parents-changed nodes n f keeps) n d line)

    pub dropped-listed : AreKin nodes links → AreListed (IsWantedOr left n) links
    dropped-listed = listed-same (IsWantedKid nodes) (IsWantedOr left n) links links
        (λ m d kid. (kid-goes nodes made are n f keeps m d kid.0, wanted_or d kid.1)) (λ m d kid. (kid-was nodes made are n f keeps m d kid.0, or_wanted d kid.1))
        (λ m d kid. refl) (λ m c e. e) (λ m d kid. refl) (λ m d kid. refl)

-- ---- children that are left out, one after another above

module _ (nodes : NodeMap) (made : ℕ) (are : AreLines nodes made) (links : Links) where
  -- under links of wanted children somebody is reached just where somebody holds the node or a child of it is listed
  pub leading-wanted : AreKin nodes links → (n : ℕ) → IsHeld nodes n ⊎ IsSome (first_of links n) → IsWanted nodes n
  leading-wanted kin n (inl held) = wanted-held nodes n held
  leading-wanted kin n (inr some) =
      let f = some_of (first_of links n) some in
      let kid = kin.first n f.0 f.1 in
      wanted-up nodes f.0 n (kid-on nodes n f.0 kid.0) kid.1

  pub wanted-leading : AreKin nodes links → (n : ℕ) → IsWanted nodes n → (IsHeld nodes n → ⊥) → first_of links n ≡ None → ⊥
  wanted-leading kin n wanted free none = elim (wanted-by nodes n wanted) [
    | inl held ↦ free held
    | inr (d, kid) ↦ kin.none n d none kid
  ]

  module _ (at : ℕ) (listed : AreListed (IsWantedOr nodes at) links) where
    -- a child of the node isn't above it
    below_listed : (d : ℕ) → IsWantedOr nodes at at d → IsWanted nodes d
    below_listed d (kid, inl wanted) = wanted
    below_listed d (kid, inr line) =
        let later : at < d = (kid-later nodes made are at d kid).0 in
        let low = on-lower nodes made are at d line in
        absurd (omega (arith, later, low))

    all_wanted : (IsWanted nodes at) → (n d : ℕ) → IsWantedOr nodes at n d → IsWantedKid nodes n d
    all_wanted wanted n d (kid, inl is) = (kid, is)
    all_wanted wanted n d (kid, inr line) = (kid, wanted-up nodes at d line wanted)

    same_kin : ((n d : ℕ) → IsWantedOr nodes at n d → IsWantedKid nodes n d) → AreKin nodes links
    same_kin all = listed-same (IsWantedOr nodes at) (IsWantedKid nodes) links links all (λ n d kid. (kid.0, inl kid.1)) (λ n d kid. refl) (λ n f e. e) (λ n d kid. refl) (λ n d kid. refl) listed

    -- it leads on to a held node
    pub leads-kin : IsHeld nodes at ⊎ IsSome (first_of links at) → AreKin nodes links
    leads-kin (inl held) = same_kin (all_wanted (wanted-held nodes at held))
    leads-kin (inr some) =
        let f = some_of (first_of links at) some in
        let kid = listed.first at f.0 f.1 in
        same_kin (all_wanted (wanted-up nodes f.0 at (kid-on nodes at f.0 kid.0) (below_listed f.0 kid)))

    -- it has no parent
    pub top-kin : parent_of nodes at ≡ None → AreKin nodes links
    top-kin none = same_kin by
      where
        by : (n d : ℕ) → IsWantedOr nodes at n d → IsWantedKid nodes n d
        by n d (kid, inl is) = (kid, is)
        by n d (kid, inr line) = elim (line-starts nodes at d line) [
          | inl same ↦ none_some n (sym none ∙ ap (parent_of nodes) same ∙ ap parent_in kid.1 ∙ kid.2)
          | inr (p, (y, is, up), rest) ↦ none_some p (sym none ∙ ap parent_in is ∙ up)
        ]

    -- it doesn't lead on, and is left out of its parent's children
    module _ (p : ℕ) (up : parent_of nodes at ≡ Some p) (free : IsHeld nodes at → ⊥) (none : first_of links at ≡ None) (there : (n : ℕ) (x : Node) → map.get nodes n ≡ Some x → IsSome (map.get links n)) where
      unwanted : IsWanted nodes at → ⊥
      unwanted wanted = elim (wanted-by nodes at wanted) [
        | inl held ↦ free held
        | inr (d, (kid, is)) ↦ listed.none at d none (kid, inl is)
      ]

      kid : IsKid nodes p at
      kid = parent-is nodes at p up

      there_link : (n d : ℕ) → IsKid nodes n d → IsSome (map.get links d) × IsSome (map.get links n)
      there_link n d (y, is, above) = let parent = (are.parents d n y is above).1 in (there d y is, there n parent.0 parent.1)

      was : (n c : ℕ) → IsWantedOr nodes p n c → IsWantedOr nodes at n c × (c ≡ at → ⊥)
      was n c (child, inl wanted) = ((child, inl wanted), λ s. unwanted (subst (IsWanted nodes) s wanted))
      was n c (child, inr line) = (
        (child, inr (on-next nodes at p c up line)),
        λ s.
            (let low : c ≤ p = on-lower nodes made are p c line in
            let high : p < at = (kid-later nodes made are p at kid).0 in
            let same : c ≡ at = s in
            omega arith),
      )

      goes : (n c : ℕ) → IsWantedOr nodes at n c → (c ≡ at → ⊥) → IsWantedOr nodes p n c
      goes n c (child, inl wanted) off = (child, inl wanted)
      goes n c (child, inr line) off = elim (line-starts nodes at c line) [
        | inl same ↦ absurd (off (sym same))
        | inr (q, other, rest) ↦ (child, inr (subst (λ k. IsOnLine nodes k c) (kid-one nodes q p at other kid) rest))
      ]

      abbrev newer : Option ℕ
      newer = newer_of links at

      abbrev older : Option ℕ
      older = next_of links at

      abbrev over : Links
      over = passed_over links p newer older

      over_there : (q : ℕ) → is_some (map.get over q) ≡ is_some (map.get links q)
      over_there = over_kept links is_some (λ c l. refl) (λ c l. refl) p newer older

      first_after : (n : ℕ) → first_of (unlinked links p at) n ≡ first_of over n
      first_after n = back_kept over first_in (λ c l. refl) older newer n

      next_after : (n : ℕ) → next_of (unlinked links p at) n ≡ next_of over n
      next_after n = back_kept over next_in (λ c l. refl) older newer n

      newer_over : (n : ℕ) → newer_of over n ≡ newer_of links n
      newer_over n = over_kept links newer_in (λ c l. refl) (λ c l. refl) p newer older n

      listed_at : IsWantedOr nodes at p at
      listed_at = (kid, inr (on-self nodes at))

      out : IsLeftOut (IsWantedOr nodes at) (IsWantedOr nodes p) links (unlinked links p at) p at
      out = record {
        kid = listed_at;
        alone = λ n m c one other. kid-one nodes n m c one.0 other.0;
        was = was;
        goes = goes;
        first = λ e. first_after p ∙ over_first links p newer older e (there_link p at kid).1;
        other_first = λ n off. first_after n ∙ over_first_other links p newer older n off;
        next = λ c e. next_after c ∙ over_next links p newer older c e (there_link p c (listed.newer p at c listed_at e).0.0).0;
        other_next = λ c off. next_after c ∙ over_next_other links p newer older c off;
        newer = λ c e. back_here over older newer c e (over_there c ∙ (there_link p c (listed.next p at c listed_at e).0.0).0);
        other_newer = λ c off. back_other over older newer c off ∙ newer_over c;
      }

      pub left-listed : AreListed (IsWantedOr nodes p) (unlinked links p at)
      left-listed = listed-less (IsWantedOr nodes at) (IsWantedOr nodes p) links (unlinked links p at) p at listed out
