-- Entries of a kind: none, one more, one less.
use Rattle.std.proofs.Common.{arith, ◌≡◌, ◌⊎◌, inl, inr, ◌↔◌, ℕ, suc, ◌+◌, ◌-◌, ◌≤◌, List, [], ◌∷◌, length, refl, sym, ap, subst, ◌∙◌}
use Rattle.ebs_lineage.specs.Entries.{Entry, IsIn, AreApart, AreSoMany}

-- ---- a list of entries without one of them

record Without (xs : List Entry) (gone : Entry) : Type 0 where
  rest : List Entry
  apart : AreApart rest
  just : (e : Entry) → IsIn e rest ↔ (IsIn e xs × (e ≡ gone → ⊥))
  long : length xs ≡ suc (length rest)

without : (xs : List Entry) (gone : Entry) → IsIn gone xs → AreApart xs → Without xs gone
without [] gone h apart = absurd h
without (x ∷ xs) gone (inl s) apart = record {
  rest = xs;
  apart = apart.1;
  just = λ e. (
    λ h. (inr h, λ t. apart.0 (subst (λ (y : Entry). IsIn y xs) (t ∙ s) h)),
    λ h. elim h.0 [
      | inl t ↦ absurd (h.1 (t ∙ sym s))
      | inr t ↦ t
    ],
  );
  long = refl;
}
without (x ∷ xs) gone (inr h) apart =
    let w = without xs gone h apart.1 in
    record {
      rest = x ∷ w.rest;
      apart = (λ t. apart.0 ((w.just x).0 t).0, w.apart);
      just = λ e. (
        λ t. elim t [
          | inl s ↦ (inl s, λ q. apart.0 (subst (λ (y : Entry). IsIn y xs) (sym q ∙ s) h))
          | inr u ↦ (inr ((w.just e).0 u).0, ((w.just e).0 u).1)
        ],
        λ t. elim t.0 [
          | inl s ↦ inl s
          | inr u ↦ inr ((w.just e).1 (u, t.1))
        ],
      );
      long = ap suc w.long;
    }

next_is : (n m : ℕ) → n ≡ m → suc n ≡ m + 1
next_is n m e = omega (arith, e)

less_is : (n m k : ℕ) → n ≡ k → n ≡ suc m → m ≡ k - 1
less_is n m k e f = omega (arith, e, f)

-- ---- how many there are

pub none-many : (Is : Entry → Type 0) → ((e : Entry) → Is e → ⊥) → AreSoMany Is 0
none-many Is none = record { listed = []; apart = tt; just = λ e. (λ h. absurd h, λ h. absurd (none e h)); long = refl }

module _ (P Q : Entry → Type 0) (count : ℕ) (many : AreSoMany P count) where
  pub same-many : ((e : Entry) → P e ↔ Q e) → AreSoMany Q count
  same-many same = record {
    listed = many.listed;
    apart = many.apart;
    just = λ e. (λ h. (same e).0 ((many.just e).0 h), λ h. (many.just e).1 ((same e).1 h));
    long = many.long;
  }

  pub more-many : (new : Entry) → (P new → ⊥) → ((e : Entry) → Q e ↔ ((e ≡ new) ⊎ P e)) → AreSoMany Q (count + 1)
  more-many new off is = record {
    listed = new ∷ many.listed;
    apart = (λ h. off ((many.just new).0 h), many.apart);
    just = λ e. (
      λ h. (is e).1 (elim h [
        | inl s ↦ inl s
        | inr t ↦ inr ((many.just e).0 t)
      ]),
      λ h. elim ((is e).0 h) [
        | inl s ↦ inl s
        | inr t ↦ inr ((many.just e).1 t)
      ],
    );
    long = next_is (length many.listed) count many.long;
  }

  pub less-many : (gone : Entry) → P gone → ((e : Entry) → Q e ↔ (P e × (e ≡ gone → ⊥))) → AreSoMany Q (count - 1)
  less-many gone at is =
      let w = without many.listed gone ((many.just gone).1 at) many.apart in
      record {
        listed = w.rest;
        apart = w.apart;
        just = λ e. (
          λ h. let t = (w.just e).0 h in (is e).1 ((many.just e).0 t.0, t.1),
          λ h. let t = (is e).0 h in (w.just e).1 ((many.just e).1 t.0, t.1),
        );
        long = less_is (length many.listed) (length w.rest) count many.long w.long;
      }

-- ---- one of them

some_in : (xs : List Entry) (e : Entry) → IsIn e xs → 1 ≤ length xs
some_in [] e h = absurd h
some_in (x ∷ xs) e h = omega arith

first_in : (xs : List Entry) → 1 ≤ length xs → (e : Entry) × IsIn e xs
first_in [] h = absurd (omega (arith, h))
first_in (x ∷ xs) h = (x, inl refl)

one_in : (xs : List Entry) → length xs ≡ 1 → (a b : Entry) → IsIn a xs → IsIn b xs → a ≡ b
one_in [] e a b h k = absurd h
one_in (x ∷ []) e a b (inl s) (inl t) = s ∙ sym t
one_in (x ∷ []) e a b (inl s) (inr t) = absurd t
one_in (x ∷ []) e a b (inr s) k = absurd s
one_in (x ∷ y ∷ ys) e a b h k = absurd (omega (arith, e))

module _ (Is : Entry → Type 0) (count : ℕ) (many : AreSoMany Is count) where
  pub some-many : (e : Entry) → Is e → 1 ≤ count
  some-many e h = subst (λ (n : ℕ). 1 ≤ n) many.long (some_in many.listed e ((many.just e).1 h))

  pub first-many : 1 ≤ count → (e : Entry) × Is e
  first-many h =
      let first = first_in many.listed (subst (λ (n : ℕ). 1 ≤ n) (sym many.long) h) in
      (first.0, (many.just first.0).0 first.1)

  pub one-many : count ≡ 1 → (a b : Entry) → Is a → Is b → a ≡ b
  one-many one a b h k = one_in many.listed (many.long ∙ one) a b ((many.just a).1 h) ((many.just b).1 k)
