-- A list of changes makes the second of the first.
use Rattle.std.proofs.Common.{◌≡◌, inl, ℕ, ◌≤◌, ◌==◌, ◌||◌, arith, Bool, true, false, cond, not, nat_le, List, [], ◌∷◌, map, Option, Some, None, is_some, sym, ap, subst, ◌∙◌, refl}
use Rattle.std.proofs.lemmas.Bool.{false≢true}
use Rattle.std.proofs.lemmas.Bool.Decides.{nat_tests}
use Rattle.std.specs.List.{filter}
use Rattle.std.specs.FinMap as fin
use Rattle.std.specs.FinMap.{nat_cmp-IsAntisymmetric}
use Rattle.ebs_model.specs.declared.keys.SnapKey.{SnapKey}
use Rattle.ebs_model.specs.Arrays.{WholeBlock, WholeArray}
use Rattle.ebs_model.specs.Lists.{Pair, differ, either_keys}
use Rattle.ebs_model.specs.Time.{Snapshot}
use Rattle.ebs_model.specs.Machine.{Machine}
use Rattle.ebs_tables.proofs.MapEdits.{is_same}
use Rattle.ebs_listing.proofs.Ascending.{same, has, has-either}
use Rattle.ebs_laws.specs.Puts.{block_in, StampsTell}
use Rattle.ebs_laws.specs.Pages.{patched}
use Rattle.ebs_laws.proofs.Whole.{changes_of}

equal_is : (a b : ℕ) → (a == b) ≡ true → a ≡ b
equal_is a b e = grind (arith, nat_tests)

not_equal : (a b : ℕ) → (a ≡ b → ⊥) → (a == b) ≡ false
not_equal a b h = by (a == b) refl
  where
    by : (t : Bool) → (a == b) ≡ t → (a == b) ≡ false
    by true e = absurd (h (equal_is a b e))
    by false e = e

itself : (a : ℕ) → (a == a) ≡ true
itself a = grind (arith, nat_tests)

le_is : (a b : ℕ) → a ≤ b → nat_le a b ≡ true
le_is a b h = grind (arith, nat_tests)

module _ (f g : WholeArray) where
  abbrev at : ℕ → Pair WholeBlock
  at k = record { index = k; first = fin.get f k; second = fin.get g k }

  abbrev differs : Pair WholeBlock → Bool
  differs p = differ (λ b. b.stamp) p.first p.second

  abbrev changes : ℕ → List ℕ → List (Pair WholeBlock)
  changes start ks = filter differs (map at (filter (nat_le start) ks))

  module _ (start index : ℕ) (was : Option WholeBlock) where
    -- one more index in front
    more : (P : List (Pair WholeBlock) → Type 0) (k : ℕ) (ks : List ℕ) → (nat_le start k ≡ true → differs (at k) ≡ true → P (at k ∷ changes start ks)) → ((nat_le start k ≡ false) → P (changes start ks)) → (differs (at k) ≡ false → P (changes start ks)) → P (changes start (k ∷ ks))
    more P k ks both early alike = by (nat_le start k) (differs (at k)) refl refl
      where
        by : (b c : Bool) → nat_le start k ≡ b → differs (at k) ≡ c → P (filter differs (map at (cond b (k ∷ filter (nat_le start) ks) (filter (nat_le start) ks))))
        by true true e d = subst (λ c. P (cond c (at k ∷ changes start ks) (changes start ks))) (sym d) (both e d)
        by true false e d = subst (λ c. P (cond c (at k ∷ changes start ks) (changes start ks))) (sym d) (alike d)
        by false c e d = early e

    abbrev Patched : List (Pair WholeBlock) → Type 0
    Patched ps = patched ps index was ≡ fin.get g index

    in-front : (k : ℕ) (ks : List ℕ) → ((k ≡ index → ⊥) → Patched (changes start ks)) → Patched (at k ∷ changes start ks)
    in-front k ks rest = by (k == index) refl
      where
        by : (b : Bool) → (k == index) ≡ b → cond b (fin.get g k) (patched (changes start ks) index was) ≡ fin.get g index
        by true e = ap (fin.get g) (equal_is k index e)
        by false e = rest (λ is. false≢true (sym e ∙ ap (λ k. k == index) is ∙ itself index))

    -- where both have the same, each entry of the list leaves it
    unchanged : was ≡ fin.get g index → (ks : List ℕ) → Patched (changes start ks)
    unchanged is [] = is
    unchanged is (k ∷ ks) = more Patched k ks (λ late d. in-front k ks (λ other. unchanged is ks)) (λ early. unchanged is ks) (λ d. unchanged is ks)

    -- where they differ, the list has an entry
    changed : start ≤ index → differs (at index) ≡ true → (ks : List ℕ) → has index ks ≡ true → Patched (changes start ks)
    changed late d [] there = absurd (false≢true there)
    changed late d (k ∷ ks) there =
        more Patched k ks
        (λ _ _. in-front k ks (λ other. changed late d ks (elsewhere other)))
        (λ early. changed late d ks (elsewhere (λ is. false≢true (sym early ∙ ap (nat_le start) is ∙ le_is start index late))))
        (λ alike. changed late d ks (elsewhere (λ is. false≢true (sym alike ∙ ap (λ k. differs (at k)) is ∙ d))))
      where
        by : (b : Bool) → same index k ≡ b → (k ≡ index → ⊥) → (b || has index ks) ≡ true → has index ks ≡ true
        by true e other h = absurd (other (sym (is_same nat_cmp-IsAntisymmetric index k e)))
        by false e other h = h

        elsewhere : (k ≡ index → ⊥) → has index ks ≡ true
        elsewhere other = by (same index k) refl other there

  -- an index at which they differ is one of either
  has-key : (index : ℕ) → differs (at index) ≡ true → has index (either_keys f g) ≡ true
  has-key index d =
      has-either index (fin.entries f) (fin.entries g)
      ∙ (λ i. is_some (sym (fin.get-entries f index) i) || is_some (sym (fin.get-entries g index) i))
      ∙ by (fin.get f index) (fin.get g index) d
    where
      by : (a b : Option WholeBlock) → differ (λ b. b.stamp) a b ≡ true → (is_some a || is_some b) ≡ true
      by None None e = absurd (false≢true e)
      by None (Some y) e = refl
      by (Some x) b e = refl

pub makes-second : (m : Machine) (first second : SnapKey) (a b : Snapshot) (start index : ℕ) → StampsTell m → fin.get m.snaps first ≡ Some a → fin.get m.snaps second ≡ Some b → start ≤ index → fin.get b.array index ≡ patched (changes_of a b start) index (fin.get a.array index)
makes-second m first second a b start index tells a_is b_is late = sym (by (differs a.array b.array (at a.array b.array index)) refl)
  where
    alike : (x y : Option WholeBlock) → fin.get a.array index ≡ x → fin.get b.array index ≡ y → differ (λ b. b.stamp) x y ≡ false → x ≡ y
    alike None None e d t = refl
    alike None (Some y) e d t = absurd (false≢true (sym t))
    alike (Some x) None e d t = absurd (false≢true (sym t))
    alike (Some x) (Some y) e d t = ap Some (tells x y (inl (first, index, ap (λ o. block_in o index) a_is ∙ e)) (inl (second, index, ap (λ o. block_in o index) b_is ∙ d)) (one_stamp (x.stamp == y.stamp) refl t))
      where
        one_stamp : (t : Bool) → (x.stamp == y.stamp) ≡ t → not t ≡ false → x.stamp ≡ y.stamp
        one_stamp true e n = equal_is x.stamp y.stamp e
        one_stamp false e n = absurd (false≢true (sym n))

    by : (d : Bool) → differs a.array b.array (at a.array b.array index) ≡ d → patched (changes_of a b start) index (fin.get a.array index) ≡ fin.get b.array index
    by true d = changed a.array b.array start index (fin.get a.array index) late d (either_keys a.array b.array) (has-key a.array b.array index d)
    by false d = unchanged a.array b.array start index (fin.get a.array index) (alike (fin.get a.array index) (fin.get b.array index) refl refl d) (either_keys a.array b.array)
