-- Each slot has one key or one lease, through the edits.
use Rattle.std.proofs.Common.{◌≡◌, ◌≢◌, inl, inr, ℕ, List, Option, Some, None, refl, sym, ap, ◌∙◌, arith}
use Rattle.std.specs.FinMap.{FinMap, get, empty, get-empty, insert, remove}
use Rattle.std.specs.Ordering.{nat_cmp}
use Rattle.ebs_world.specs.declared.area.Area.{Area}
use Rattle.ebs_slots.specs.inner.Slots.{SlotTable, IsFree, IsApart, Owns, no_slots, staged, adopted, abandoned, placed, forgotten}
use Rattle.ebs_slots.proofs.Maps.{some_none, got-insert, gets_here, gets_there, gone, stays, got-remove, none-remove}

in_none : {X : Type 0} (q : ℕ) (x : X) → get (empty {R = nat_cmp}) q ≡ Some x → ⊥
in_none {X} q x e = some_none x (sym e ∙ get-empty nat_cmp q)

pub apart_none : (area : Area) → IsApart (no_slots area)
apart_none area = record {
  keyed = λ key slot e. absurd (in_none key slot e);
  leased = λ slot digest e. absurd (in_none slot digest e);
  one_key = λ a b slot e f. absurd (in_none a slot e);
  no_lease = λ key slot e. absurd (in_none key slot e);
}

module _ (s : SlotTable) (is : IsApart s) where
  pub top_free : IsFree s s.top
  top_free = record {
    no_key = λ key e. let below = is.keyed key s.top e in omega (arith, below);
    no_lease = by (get s.leases s.top) refl;
  }
    where
      by : (o : Option (List ℕ)) → get s.leases s.top ≡ o → get s.leases s.top ≡ None
      by None e = e
      by (Some digest) e = let below = is.leased s.top digest e in absurd (omega (arith, below))

  pub apart_staged : (slot : ℕ) (digest : List ℕ) → IsFree s slot → IsApart (staged s slot digest)
  apart_staged slot digest free = record {
    keyed = λ key n e. let below = is.keyed key n e in omega (arith, below);
    leased = λ n d e. elim (got-insert s.leases slot digest n d e) [
      | inl at ↦ omega (arith, at.0)
      | inr was ↦ let below = is.leased n d was in omega (arith, below)
    ];
    one_key = is.one_key;
    no_lease = λ key n e. gets_there s.leases slot digest n (λ same. free.no_key key (e ∙ ap Some same)) ∙ is.no_lease key n e;
  }

  pub apart_abandoned : (slot : ℕ) → IsApart (abandoned s slot)
  apart_abandoned slot = record {
    keyed = is.keyed;
    leased = λ other d e. is.leased other d (got-remove s.leases slot other d e);
    one_key = is.one_key;
    no_lease = λ key other e. none-remove s.leases slot other (is.no_lease key other e);
  }

  pub apart_adopted : (slot key : ℕ) (digest : List ℕ) → get s.leases slot ≡ Some digest → IsApart (adopted s slot key)
  apart_adopted slot key digest lease = record {
    keyed = λ k n e. elim (got-insert s.keys key slot k n e) [
      | inl at ↦ let below = is.leased slot digest lease in omega (arith, below, at.1)
      | inr was ↦ is.keyed k n was
    ];
    leased = λ other d e. is.leased other d (got-remove s.leases slot other d e);
    one_key = λ a b n e f. elim (got-insert s.keys key slot a n e) [
      | inl at ↦ elim (got-insert s.keys key slot b n f) [
        | inl of ↦ at.0 ∙ sym of.0
        | inr had ↦ absurd (taken b n at.1 had)
      ]
      | inr was ↦ elim (got-insert s.keys key slot b n f) [
        | inl of ↦ absurd (taken a n of.1 was)
        | inr had ↦ is.one_key a b n was had
      ]
    ];
    no_lease = λ k n e. elim (got-insert s.keys key slot k n e) [
      | inl at ↦ ap (get (remove s.leases slot)) at.1 ∙ gone s.leases slot
      | inr was ↦ none-remove s.leases slot n (is.no_lease k n was)
    ];
  }
    where
      taken : (k n : ℕ) → n ≡ slot → get s.keys k ≡ Some n → ⊥
      taken k n same e = some_none digest (sym lease ∙ ap (get s.leases) (sym same) ∙ is.no_lease k n e)

  pub apart_placed : (key slot : ℕ) → IsFree s slot → IsApart (placed s key slot)
  apart_placed key slot free = record {
    keyed = λ k n e. elim (got-insert s.keys key slot k n e) [
      | inl at ↦ omega (arith, at.1)
      | inr was ↦ let below = is.keyed k n was in omega (arith, below)
    ];
    leased = λ other d e. let below = is.leased other d e in omega (arith, below);
    one_key = λ a b n e f. elim (got-insert s.keys key slot a n e) [
      | inl at ↦ elim (got-insert s.keys key slot b n f) [
        | inl of ↦ at.0 ∙ sym of.0
        | inr had ↦ absurd (free.no_key b (had ∙ ap Some at.1))
      ]
      | inr was ↦ elim (got-insert s.keys key slot b n f) [
        | inl of ↦ absurd (free.no_key a (was ∙ ap Some of.1))
        | inr had ↦ is.one_key a b n was had
      ]
    ];
    no_lease = λ k n e. elim (got-insert s.keys key slot k n e) [
      | inl at ↦ ap (get s.leases) at.1 ∙ free.no_lease
      | inr was ↦ is.no_lease k n was
    ];
  }

  pub apart_forgotten : (key : ℕ) → IsApart (forgotten s key)
  apart_forgotten key = record {
    keyed = λ k n e. is.keyed k n (got-remove s.keys key k n e);
    leased = is.leased;
    one_key = λ a b n e f. is.one_key a b n (got-remove s.keys key a n e) (got-remove s.keys key b n f);
    no_lease = λ k n e. is.no_lease k n (got-remove s.keys key k n e);
  }

-- counts and the area don't matter
pub apart_same : (s : SlotTable) → IsApart s → (area : Area) (counts : FinMap nat_cmp ℕ) → IsApart (record { area = area; keys = s.keys; counts = counts; leases = s.leases; top = s.top })
apart_same s is area counts = record { keyed = is.keyed; leased = is.leased; one_key = is.one_key; no_lease = is.no_lease }

pub owns_none : Owns empty empty
owns_none = record { there = λ key slot e. absurd (in_none key slot e); back = λ key slot e. absurd (in_none slot key e) }

-- a key that is new has a slot that no key has
pub owns_more : (keys owners : FinMap nat_cmp ℕ) (key slot : ℕ) → Owns keys owners → get keys key ≡ None → ((k : ℕ) → get keys k ≢ Some slot)
    → Owns (insert keys key slot) (insert owners slot key)
owns_more keys owners key slot owns new free = record {
  there = λ k n e. elim (got-insert keys key slot k n e) [
    | inl at ↦ ap (get (insert owners slot key)) at.1 ∙ gets_here owners slot key ∙ ap Some (sym at.0)
    | inr was ↦ gets_there owners slot key n (λ same. free k (was ∙ ap Some same)) ∙ owns.there k n was
  ];
  back = λ k n e. elim (got-insert owners slot key n k e) [
    | inl at ↦ ap (get (insert keys key slot)) at.1 ∙ gets_here keys key slot ∙ ap Some (sym at.0)
    | inr was ↦ gets_there keys key slot k (λ same. some_none n (sym (owns.back k n was) ∙ ap (get keys) same ∙ new)) ∙ owns.back k n was
  ];
}

-- a key and its slot are both taken out
pub owns_less : (keys owners : FinMap nat_cmp ℕ) (key slot : ℕ) → Owns keys owners → ((a b n : ℕ) → get keys a ≡ Some n → get keys b ≡ Some n → a ≡ b) → get keys key ≡ Some slot
    → Owns (remove keys key) (remove owners slot)
owns_less keys owners key slot owns one had = record {
  there = λ k n e. stays owners slot n (λ same. some_none n (sym e ∙ ap (get (remove keys key)) (one k key slot (was k n e ∙ ap Some same) had) ∙ gone keys key)) ∙ owns.there k n (was k n e);
  back = λ k n e. stays keys key k (λ same. some_none k (sym e ∙ ap (get (remove owners slot)) (slots k n (is k n e) same) ∙ gone owners slot)) ∙ is k n e;
}
  where
    was : (k n : ℕ) → get (remove keys key) k ≡ Some n → get keys k ≡ Some n
    was k n e = got-remove keys key k n e

    is : (k n : ℕ) → get (remove owners slot) n ≡ Some k → get keys k ≡ Some n
    is k n e = owns.back k n (got-remove owners slot n k e)

    slots : (k n : ℕ) → get keys k ≡ Some n → k ≡ key → n ≡ slot
    slots k n e same = let both : Some n ≡ Some slot = sym e ∙ ap (get keys) same ∙ had in cc

-- a slot under lease is no key's
pub leased_free : (s : SlotTable) (slot : ℕ) (digest : List ℕ) → IsApart s → get s.leases slot ≡ Some digest → (key : ℕ) → get s.keys key ≢ Some slot
leased_free s slot digest is lease key e = some_none digest (sym lease ∙ is.no_lease key slot e)
