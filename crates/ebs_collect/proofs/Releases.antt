-- What a release leaves of slots and of their counts.
use Rattle.std.proofs.Common.{arith, ◌≡◌, ◌⊎◌, inl, inr, ◌↔◌, ℕ, ◌+◌, ◌-◌, ◌≤◌, ◌<◌, Bool, true, false, nat_le, if◌then◌else◌, Option, Some, None, IsSome, is_some, refl, sym, ap, subst, ◌∙◌}
use Rattle.std.proofs.lemmas.Bool.{false≢true}
use Rattle.std.proofs.lemmas.Bool.Decides.{nat_tests}
use Rattle.std.specs.Prelude.{unwrap_or}
use Rattle.std.specs.Ordering.{nat_cmp}
use Rattle.std.specs.FinMap as map
use Rattle.ebs_lineage.specs.Table.{NodeMap}
use Rattle.ebs_lineage.specs.Entries.{AreEntries, one_less, one_more}
use Rattle.ebs_lineage.specs.Reached.{KeptHasEntries}
use Rattle.ebs_lineage.proofs.Changes.{same_or, insert-here, insert-other}
use Rattle.ebs_lineage.proofs.Counting.{one-less, same-less, one-more, same-more}
use Rattle.ebs_slots.specs.inner.Slots.{SlotTable, count_of, forgotten, released}
use Rattle.ebs_collect.specs.Slices.{IsCounted, Frees}
use Rattle.ebs_collect.proofs.Maps.{none_some, removed-here, removed-other}

-- a stamp has a slot where it is counted
abbrev pub AreKeyed : SlotTable → Type 0
AreKeyed s = (stamp : ℕ) → IsSome (map.get s.keys stamp) ↔ 1 ≤ count_of s stamp

pub counted-keyed : KeptHasEntries → (s : SlotTable) (nodes : NodeMap) → IsCounted s nodes → AreKeyed s
counted-keyed law s nodes counted stamp =
    let kept = law nodes stamp (count_of s stamp) (counted.counts stamp) in
    (λ has. kept.0 ((counted.slotted stamp).0 has), λ some. (counted.slotted stamp).1 (kept.1 some))

pub keyed-counted : KeptHasEntries → (s : SlotTable) (nodes : NodeMap) → AreKeyed s → ((stamp : ℕ) → AreEntries nodes stamp (count_of s stamp)) → IsCounted s nodes
keyed-counted law s nodes keyed counts = record {
  slotted = λ stamp.
      let kept = law nodes stamp (count_of s stamp) (counts stamp) in
      (λ has. kept.1 ((keyed stamp).0 has), λ k. (keyed stamp).1 (kept.0 k));
  counts = counts;
}

pub frees-same : (s : SlotTable) → Frees s s
frees-same s = record { keys = λ key slot e. e; counts = λ key slot e. omega arith; area = refl; leases = refl; top = refl }

-- what is left of the slots: one entry less has the stamp
record IsLess (s : SlotTable) (stamp : ℕ) (t : SlotTable) : Type 0 where
  keyed : AreKeyed s → AreKeyed t
  counts : (key : ℕ) → count_of t key ≡ one_less stamp key (count_of s key)
  frees : Frees s t

fewer : (stamp key count : ℕ) → one_less stamp key count ≤ count
fewer stamp key count = elim (same_or key stamp) [
  | inl e ↦ omega (arith, one-less stamp key count e)
  | inr off ↦ omega (arith, same-less stamp key count off)
]

counted_at : (s : SlotTable) (a b : ℕ) → a ≡ b → count_of s a ≡ count_of s b
counted_at s a b e = ap (count_of s) e

-- none is left
module _ (s : SlotTable) (stamp : ℕ) (last : count_of s stamp ≤ 1) where
  last_count : (key : ℕ) → count_of (forgotten s stamp) key ≡ one_less stamp key (count_of s key)
  last_count key = elim (same_or key stamp) [
    | inl e ↦
        let none : count_of (forgotten s stamp) key ≡ 0 = ap (λ (o : Option ℕ). unwrap_or o 0) (ap (map.get (map.remove s.counts stamp)) e ∙ removed-here s.counts stamp) in
        omega (arith, none, one-less stamp key (count_of s key) e, counted_at s key stamp e, last)
    | inr off ↦ ap (λ (o : Option ℕ). unwrap_or o 0) (removed-other s.counts stamp key off) ∙ sym (same-less stamp key (count_of s key) off)
  ]

  last_key : (key slot : ℕ) → map.get (map.remove s.keys stamp) key ≡ Some slot → map.get s.keys key ≡ Some slot
  last_key key slot e = elim (same_or key stamp) [
    | inl at ↦ none_some slot (sym (removed-here s.keys stamp) ∙ ap (map.get (map.remove s.keys stamp)) (sym at) ∙ e)
    | inr off ↦ sym (removed-other s.keys stamp key off) ∙ e
  ]

  last_keyed : AreKeyed s → AreKeyed (forgotten s stamp)
  last_keyed keyed key = elim (same_or key stamp) [
    | inl e ↦ (
      λ has. absurd (false≢true (sym (ap is_some (ap (map.get (map.remove s.keys stamp)) e ∙ removed-here s.keys stamp)) ∙ has)),
      λ some. absurd (omega (arith, some, last_count key, one-less stamp key (count_of s key) e, counted_at s key stamp e, last)),
    )
    | inr off ↦
        let same : count_of (forgotten s stamp) key ≡ count_of s key = last_count key ∙ same-less stamp key (count_of s key) off in (
          λ has. subst (λ (n : ℕ). 1 ≤ n) (sym same) ((keyed key).0 (sym (ap is_some (removed-other s.keys stamp key off)) ∙ has)),
          λ some. ap is_some (removed-other s.keys stamp key off) ∙ (keyed key).1 (subst (λ (n : ℕ). 1 ≤ n) same some),
        )
  ]

  last_less : IsLess s stamp (forgotten s stamp)
  last_less = record {
    keyed = last_keyed;
    counts = last_count;
    frees = record {
      keys = last_key;
      counts = λ key slot e. subst (λ (n : ℕ). n ≤ count_of s key) (sym (last_count key)) (fewer stamp key (count_of s key));
      area = refl;
      leases = refl;
      top = refl;
    };
  }

-- some are left
module _ (s : SlotTable) (stamp : ℕ) (some : 1 < count_of s stamp) where
  abbrev some_left : SlotTable
  some_left = record s { counts = map.insert s.counts stamp (count_of s stamp - 1) }

  some_count : (key : ℕ) → count_of some_left key ≡ one_less stamp key (count_of s key)
  some_count key = elim (same_or key stamp) [
    | inl e ↦
        let one : count_of some_left key ≡ count_of s stamp - 1 = ap (λ (o : Option ℕ). unwrap_or o 0) (ap (map.get (map.insert s.counts stamp (count_of s stamp - 1))) e ∙ insert-here s.counts stamp (count_of s stamp - 1)) in
        omega (arith, one, one-less stamp key (count_of s key) e, counted_at s key stamp e)
    | inr off ↦ ap (λ (o : Option ℕ). unwrap_or o 0) (insert-other s.counts stamp (count_of s stamp - 1) key off) ∙ sym (same-less stamp key (count_of s key) off)
  ]

  some_keyed : AreKeyed s → AreKeyed some_left
  some_keyed keyed key = elim (same_or key stamp) [
    | inl e ↦ (
      λ has. omega (arith, some_count key, one-less stamp key (count_of s key) e, counted_at s key stamp e, some),
      λ left. (keyed key).1 (omega (arith, counted_at s key stamp e, some)),
    )
    | inr off ↦
        let same : count_of some_left key ≡ count_of s key = some_count key ∙ same-less stamp key (count_of s key) off in
        (λ has. subst (λ (n : ℕ). 1 ≤ n) (sym same) ((keyed key).0 has), λ left. (keyed key).1 (subst (λ (n : ℕ). 1 ≤ n) same left))
  ]

  some_less : IsLess s stamp some_left
  some_less = record {
    keyed = some_keyed;
    counts = some_count;
    frees = record {
      keys = λ key slot e. e;
      counts = λ key slot e. subst (λ (n : ℕ). n ≤ count_of s key) (sym (some_count key)) (fewer stamp key (count_of s key));
      area = refl;
      leases = refl;
      top = refl;
    };
  }

says_last : (n : ℕ) → nat_le n 1 ≡ true → n ≤ 1
says_last n e = grind (arith, nat_tests)

says_some : (n : ℕ) → nat_le n 1 ≡ false → 1 < n
says_some n e = grind (arith, nat_tests)

released_less : (s : SlotTable) (stamp : ℕ) → IsLess s stamp (released s stamp)
released_less s stamp = by (nat_le (count_of s stamp) 1) refl
  where
    by : (b : Bool) → nat_le (count_of s stamp) 1 ≡ b → IsLess s stamp (if b then forgotten s stamp else record s { counts = map.insert s.counts stamp (count_of s stamp - 1) })
    by true e = last_less s stamp (says_last (count_of s stamp) e)
    by false e = some_less s stamp (says_some (count_of s stamp) e)

pub released-keyed : (s : SlotTable) (stamp : ℕ) → AreKeyed s → AreKeyed (released s stamp)
released-keyed s stamp = (released_less s stamp).keyed

pub released-counts : (s : SlotTable) (stamp key : ℕ) → count_of (released s stamp) key ≡ one_less stamp key (count_of s key)
released-counts s stamp = (released_less s stamp).counts

pub released-frees : (s : SlotTable) (stamp : ℕ) → Frees s (released s stamp)
released-frees s stamp = (released_less s stamp).frees

-- a stamp that had no slot has one, and is counted once
module _ (s t : SlotTable) (stamp slot : ℕ) (keyed : AreKeyed s) (new : map.get s.keys stamp ≡ None) (keys : t.keys ≡ map.insert s.keys stamp slot) (counts : t.counts ≡ map.insert s.counts stamp 1) where
  given_once : count_of t stamp ≡ 1
  given_once = ap (λ (o : Option ℕ). unwrap_or o 0) (ap (λ (m : map.FinMap nat_cmp ℕ). map.get m stamp) counts ∙ insert-here s.counts stamp 1)

  others_counted : (key : ℕ) → (key ≡ stamp → ⊥) → count_of t key ≡ count_of s key
  others_counted key off = ap (λ (o : Option ℕ). unwrap_or o 0) (ap (λ (m : map.FinMap nat_cmp ℕ). map.get m key) counts ∙ insert-other s.counts stamp 1 key off)

  uncounted : count_of s stamp ≡ 0
  uncounted = by (count_of s stamp) (λ some. false≢true (sym (ap is_some new) ∙ (keyed stamp).1 some))
    where
      by : (n : ℕ) → (1 ≤ n → ⊥) → n ≡ 0
      by n none = grind arith

  pub given-counts : (key : ℕ) → count_of t key ≡ one_more stamp key (count_of s key)
  given-counts key = elim (same_or key stamp) [
    | inl e ↦ omega (arith, counted_at t key stamp e, given_once, one-more stamp key (count_of s key) e, counted_at s key stamp e, uncounted)
    | inr off ↦ others_counted key off ∙ sym (same-more stamp key (count_of s key) off)
  ]

  given_some : (key : ℕ) → (key ≡ stamp) ⊎ (key ≡ stamp → ⊥) → IsSome (map.get t.keys key) ↔ 1 ≤ count_of t key
  given_some key (inl e) = (
    λ has. omega (arith, counted_at t key stamp e, given_once),
    λ some. ap is_some (ap (λ (m : map.FinMap nat_cmp ℕ). map.get m key) keys ∙ ap (map.get (map.insert s.keys stamp slot)) e ∙ insert-here s.keys stamp slot),
  )
  given_some key (inr off) =
      let same = ap (λ (m : map.FinMap nat_cmp ℕ). is_some (map.get m key)) keys ∙ ap is_some (insert-other s.keys stamp slot key off) in (
        λ has. subst (λ (n : ℕ). 1 ≤ n) (sym (others_counted key off)) ((keyed key).0 (sym same ∙ has)),
        λ some. same ∙ (keyed key).1 (subst (λ (n : ℕ). 1 ≤ n) (others_counted key off) some),
      )

  pub given-keyed : AreKeyed t
  given-keyed key = given_some key (same_or key stamp)
