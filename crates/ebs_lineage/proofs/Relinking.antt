-- One node's links are rewritten.
use Rattle.std.proofs.Common.{◌≡◌, inl, inr, ℕ, true, Option, Some, None, is_some, refl, sym, ap, ◌∙◌}
use Rattle.std.proofs.lemmas.Bool.{false≢true}
use Rattle.std.specs.Option.{option_map}
use Rattle.std.specs.FinMap as map
use Rattle.ebs_lineage.specs.declared.link.Link.{Link}
use Rattle.ebs_lineage.specs.Kin.{Links, first_in, next_in, newer_in, below_in, place_in, first_of, next_of, newer_of, relinked_at, relinked, with_first, with_next, with_newer, with_back, passed_over, unlinked}
use Rattle.ebs_lineage.specs.Linked.{IsRelisted}
use Rattle.ebs_lineage.proofs.Changes.{same_or, insert-here, insert-other}

module _ (links : Links) (n : ℕ) (f : Link → Link) where
  pub relinked-is : (l : Link) → map.get links n ≡ Some l → relinked links n f ≡ map.insert links n (f l)
  relinked-is l is = ap (relinked_at links n f) is

  pub relinked-none : map.get links n ≡ None → relinked links n f ≡ links
  relinked-none is = ap (relinked_at links n f) is

  link_here : (o : Option Link) → map.get links n ≡ o → map.get (relinked_at links n f o) n ≡ option_map f o
  link_here None is = is
  link_here (Some l) is = insert-here links n (f l)

  pub relinked-here : map.get (relinked links n f) n ≡ option_map f (map.get links n)
  relinked-here = link_here (map.get links n) refl

  link_other : (q : ℕ) → (q ≡ n → ⊥) → (o : Option Link) → map.get (relinked_at links n f o) q ≡ map.get links q
  link_other q h None = refl
  link_other q h (Some l) = insert-other links n (f l) q h

  pub relinked-other : (q : ℕ) → (q ≡ n → ⊥) → map.get (relinked links n f) q ≡ map.get links q
  relinked-other q h = link_other q h (map.get links n)

  -- what the change leaves of each node's links
  pub kept_by : {A : Type 0} (g : Option Link → A) → ((o : Option Link) → g (option_map f o) ≡ g o) → (q : ℕ) → g (map.get (relinked links n f) q) ≡ g (map.get links q)
  kept_by g h q = elim (same_or q n) [
    | inl e ↦ ap (λ k. g (map.get (relinked links n f) k)) e ∙ ap g relinked-here ∙ h (map.get links n) ∙ ap (λ k. g (map.get links k)) (sym e)
    | inr off ↦ ap g (relinked-other q off)
  ]

pub there_kept : (f : Link → Link) (o : Option Link) → is_some (option_map f o) ≡ is_some o
there_kept f None = refl
there_kept f (Some l) = refl

-- what a change of one member leaves
module _ {A : Type 0} (g : Option Link → A) (f : Link → Link) (same : (l : Link) → g (Some (f l)) ≡ g (Some l)) where
  pub other_kept : (o : Option Link) → g (option_map f o) ≡ g o
  other_kept None = refl
  other_kept (Some l) = same l

-- ---- the newer one of a child

module _ (links : Links) where
  pub back_kept : {A : Type 0} (g : Option Link → A) → ((c : Option ℕ) (l : Link) → g (Some (with_newer c l)) ≡ g (Some l)) → (e c : Option ℕ) (q : ℕ) → g (map.get (with_back links e c) q) ≡ g (map.get links q)
  back_kept g same None c q = refl
  back_kept g same (Some e) c q = kept_by links e (with_newer c) g (other_kept g (with_newer c) (same c)) q

  pub back_other : (e c : Option ℕ) (q : ℕ) → (e ≡ Some q → ⊥) → newer_of (with_back links e c) q ≡ newer_of links q
  back_other None c q off = refl
  back_other (Some e) c q off = ap newer_in (relinked-other links e (with_newer c) q (λ s. off (ap (λ k. Some k) (sym s))))

  newer_set : (c : Option ℕ) (o : Option Link) → is_some o ≡ true → newer_in (option_map (with_newer c) o) ≡ c
  newer_set c None h = absurd (false≢true h)
  newer_set c (Some l) h = refl

  pub back_here : (e c : Option ℕ) (q : ℕ) → e ≡ Some q → is_some (map.get links q) ≡ true → newer_of (with_back links e c) q ≡ c
  back_here None c q is there = absurd (cc)
  back_here (Some e) c q is there =
      let same : e ≡ q = cc in
      ap (newer_of (relinked links e (with_newer c))) (sym same) ∙ ap newer_in (relinked-here links e (with_newer c)) ∙ newer_set c (map.get links e) (ap (λ k. is_some (map.get links k)) same ∙ there)

  -- ---- a child is passed over

  pub over_kept : {A : Type 0} (g : Option Link → A) → ((c : Option ℕ) (l : Link) → g (Some (with_first c l)) ≡ g (Some l)) → ((c : Option ℕ) (l : Link) → g (Some (with_next c l)) ≡ g (Some l)) → (p : ℕ) (c o : Option ℕ) (q : ℕ)
      → g (map.get (passed_over links p c o) q) ≡ g (map.get links q)
  over_kept g first next p None o q = kept_by links p (with_first o) g (other_kept g (with_first o) (first o)) q
  over_kept g first next p (Some c) o q = kept_by links c (with_next o) g (other_kept g (with_next o) (next o)) q

  first_set : (c : Option ℕ) (o : Option Link) → is_some o ≡ true → first_in (option_map (with_first c) o) ≡ c
  first_set c None h = absurd (false≢true h)
  first_set c (Some l) h = refl

  next_set : (c : Option ℕ) (o : Option Link) → is_some o ≡ true → next_in (option_map (with_next c) o) ≡ c
  next_set c None h = absurd (false≢true h)
  next_set c (Some l) h = refl

  pub over_first : (p : ℕ) (c o : Option ℕ) → c ≡ None → is_some (map.get links p) ≡ true → first_of (passed_over links p c o) p ≡ o
  over_first p None o is there = ap first_in (relinked-here links p (with_first o)) ∙ first_set o (map.get links p) there
  over_first p (Some c) o is there = absurd (cc)

  pub over_first_other : (p : ℕ) (c o : Option ℕ) (n : ℕ) → ((n ≡ p) × (c ≡ None) → ⊥) → first_of (passed_over links p c o) n ≡ first_of links n
  over_first_other p None o n off = ap first_in (relinked-other links p (with_first o) n (λ s. off (s, refl)))
  over_first_other p (Some c) o n off = kept_by links c (with_next o) first_in (other_kept first_in (with_next o) (λ l. refl)) n

  pub over_next : (p : ℕ) (c o : Option ℕ) (q : ℕ) → c ≡ Some q → is_some (map.get links q) ≡ true → next_of (passed_over links p c o) q ≡ o
  over_next p None o q is there = absurd (cc)
  over_next p (Some c) o q is there =
      let same : c ≡ q = cc in
      ap (next_of (relinked links c (with_next o))) (sym same) ∙ ap next_in (relinked-here links c (with_next o)) ∙ next_set o (map.get links c) (ap (λ k. is_some (map.get links k)) same ∙ there)

  pub over_next_other : (p : ℕ) (c o : Option ℕ) (q : ℕ) → (c ≡ Some q → ⊥) → next_of (passed_over links p c o) q ≡ next_of links q
  over_next_other p None o q off = kept_by links p (with_first o) next_in (other_kept next_in (with_first o) (λ l. refl)) q
  over_next_other p (Some c) o q off = ap next_in (relinked-other links c (with_next o) q (λ s. off (ap (λ k. Some k) (sym s))))

-- what leaving a child out keeps
pub unlinked-relisted : (links : Links) (p d : ℕ) → IsRelisted links (unlinked links p d)
unlinked-relisted links p d =
    let over = passed_over links p (newer_of links d) (next_of links d) in
    record {
      belows = λ n. back_kept over below_in (λ c l. refl) (next_of links d) (newer_of links d) n ∙ over_kept links below_in (λ c l. refl) (λ c l. refl) p (newer_of links d) (next_of links d) n;
      places = λ n. back_kept over place_in (λ c l. refl) (next_of links d) (newer_of links d) n ∙ over_kept links place_in (λ c l. refl) (λ c l. refl) p (newer_of links d) (next_of links d) n;
      there = λ n. back_kept over is_some (λ c l. refl) (next_of links d) (newer_of links d) n ∙ over_kept links is_some (λ c l. refl) (λ c l. refl) p (newer_of links d) (next_of links d) n;
    }

pub relisted-self : (links : Links) → IsRelisted links links
relisted-self links = record { belows = λ n. refl; places = λ n. refl; there = λ n. refl }

pub relisted-on : (a b c : Links) → IsRelisted a b → IsRelisted b c → IsRelisted a c
relisted-on a b c first more = record { belows = λ n. more.belows n ∙ first.belows n; places = λ n. more.places n ∙ first.places n; there = λ n. more.there n ∙ first.there n }
