-- The list of slots that were given back, through the calls.
use Rattle.std.proofs.Common.{◌≡◌, ◌⊎◌, inl, inr, ℕ, Bool, IsTrue, ◌<◌, ◌≤◌, unwrap_or, List, [], ◌∷◌, ◌++◌, Option, Some, None, IsSome, refl, sym, ap, subst, ◌∙◌, arith}
use Rattle.std.specs.FinMap.{FinMap, get, insert, remove, get-empty}
use Rattle.std.specs.Ordering.{nat_cmp}
use Rattle.ebs_world.specs.declared.area.Area.{Area}
use Rattle.ebs_slots.specs.inner.Slots.{SlotTable, IsFree, IsNext, IsApart, AreCounted, Owns, no_slots, adopted, placed, forgotten}
use Rattle.ebs_slots.specs.inner.Freed.{Has, IsUnused, AreListed, IsChosen}
use Rattle.ebs_slots.proofs.Maps.{same_or, some_none, gets_here, gets_there, gone, stays, got-remove}
use Rattle.ebs_slots.proofs.Apart.{top_free}

pub has-more : (xs : List ℕ) (x n : ℕ) → Has xs n → Has (xs ++ x ∷ []) n
has-more [] x n h = absurd h
has-more (y ∷ ys) x n (inl e) = inl e
has-more (y ∷ ys) x n (inr h) = inr (has-more ys x n h)

pub has-last : (xs : List ℕ) (x : ℕ) → Has (xs ++ x ∷ []) x
has-last [] x = inl refl
has-last (y ∷ ys) x = inr (has-last ys x)

pub has-end : (xs : List ℕ) (x n : ℕ) → Has (xs ++ x ∷ []) n → Has xs n ⊎ (x ≡ n)
has-end [] x n (inl e) = inr e
has-end [] x n (inr h) = absurd h
has-end (y ∷ ys) x n (inl e) = inl (inl e)
has-end (y ∷ ys) x n (inr h) = elim (has-end ys x n h) [ inl m ↦ inl (inr m) | inr e ↦ inr e ]

-- ---- a slot that is chosen

pub unused_free : (s : SlotTable) (owners : FinMap nat_cmp ℕ) (slot : ℕ) → Owns s.keys owners → IsUnused owners s.leases slot → IsFree s slot
unused_free s owners slot owns u = record { no_key = λ key e. some_none key (sym (owns.there key slot e) ∙ u.0); no_lease = u.1 }

pub free_unused : (s : SlotTable) (owners : FinMap nat_cmp ℕ) (slot : ℕ) → Owns s.keys owners → IsFree s slot → IsUnused owners s.leases slot
free_unused s owners slot owns free = (by (get owners slot) refl, free.no_lease)
  where
    by : (o : Option ℕ) → get owners slot ≡ o → get owners slot ≡ None
    by None e = e
    by (Some key) e = absurd (free.no_key key (owns.back key slot e))

pub told_unused : (s : SlotTable) (owners : FinMap nat_cmp ℕ) (slot : ℕ) (unused : Bool) → Owns s.keys owners
    → (IsTrue unused → IsUnused owners s.leases slot) × (IsUnused owners s.leases slot → IsTrue unused) → (IsTrue unused → IsFree s slot) × (IsFree s slot → IsTrue unused)
told_unused s owners slot unused owns told = (λ t. unused_free s owners slot owns (told.0 t), λ free. told.1 (free_unused s owners slot owns free))

pub chosen_next : (s : SlotTable) (owners : FinMap nat_cmp ℕ) (freed : List ℕ) (slot low : ℕ) → IsApart s → Owns s.keys owners → IsChosen owners s.leases s.top freed slot low → IsNext s slot
chosen_next s owners freed slot low apart owns chosen = elim chosen.taken [
  | inl t ↦ record { free = unused_free s owners slot owns t.1; lowest = inl t.0 }
  | inr t ↦ record { free = subst (IsFree s) (sym t.0) (top_free s apart); lowest = inr (t.0, λ n below free. t.1 n below (free_unused s owners n owns free)) }
]

module _ (owners : FinMap nat_cmp ℕ) (leases : FinMap nat_cmp (List ℕ)) where
  -- the list, through the calls
  pub listed_staged : (freed : List ℕ) (slot low : ℕ) (digest : List ℕ) → ((n : ℕ) → n < low → IsUnused owners leases n → Has freed n ⊎ (n ≡ slot)) → AreListed owners (insert leases slot digest) freed low
  listed_staged freed slot low digest listed n less u = elim (same_or n slot) [
    | inl t ↦ absurd (some_none digest (sym (ap (get (insert leases slot digest)) t.1 ∙ gets_here leases slot digest) ∙ u.1))
    | inr t ↦ elim (listed n less (u.0, sym (gets_there leases slot digest n t.1) ∙ u.1)) [ inl h ↦ h | inr e ↦ absurd (t.1 e) ]
  ]

  pub listed_failed : (freed : List ℕ) (slot low : ℕ) (more : List ℕ) (lower : ℕ) → ((n : ℕ) → n < low → IsUnused owners leases n → Has freed n ⊎ (n ≡ slot))
      → ((n : ℕ) → Has freed n → Has more n) → (slot < lower → Has more slot) → lower ≤ low → AreListed owners leases more lower
  listed_failed freed slot low more lower listed stay here below n less u = elim (listed n (omega (arith, less, below)) u) [
    | inl h ↦ stay n h
    | inr e ↦ subst (Has more) (sym e) (here (subst (λ (m : ℕ). m < lower) e less))
  ]

  -- where the slot that was chosen isn't below the top, none is missing
  pub listed_full : (freed : List ℕ) (top slot low : ℕ) → IsChosen owners leases top freed slot low → (slot < top → ⊥) → AreListed owners leases freed low
  listed_full freed top slot low chosen beyond n less u = elim (chosen.listed n less u) [
    | inl h ↦ h
    | inr e ↦ absurd (beyond (omega (arith, chosen.below, less, e)))
  ]

  module _ (freed : List ℕ) (low : ℕ) (listed : AreListed owners leases freed low) where
    pub listed_adopted : (slot key : ℕ) → AreListed (insert owners slot key) (remove leases slot) freed low
    listed_adopted slot key n less u = elim (same_or n slot) [
      | inl t ↦ absurd (some_none key (sym (ap (get (insert owners slot key)) t.1 ∙ gets_here owners slot key) ∙ u.0))
      | inr t ↦ listed n less (sym (gets_there owners slot key n t.1) ∙ u.0, sym (stays leases slot n t.1) ∙ u.1)
    ]

    pub listed_placed : (slot key : ℕ) → AreListed (insert owners slot key) leases freed low
    listed_placed slot key n less u = elim (same_or n slot) [
      | inl t ↦ absurd (some_none key (sym (ap (get (insert owners slot key)) t.1 ∙ gets_here owners slot key) ∙ u.0))
      | inr t ↦ listed n less (sym (gets_there owners slot key n t.1) ∙ u.0, u.1)
    ]

    -- a slot that is given back
    module _ (slot : ℕ) (more : List ℕ) (lower : ℕ) (stay : (n : ℕ) → Has freed n → Has more n) (here : slot < lower → Has more slot) (below : lower ≤ low) where
      pub listed_abandoned : AreListed owners (remove leases slot) more lower
      listed_abandoned n less u = elim (same_or n slot) [
        | inl t ↦ subst (Has more) (sym t.1) (here (subst (λ (m : ℕ). m < lower) t.1 less))
        | inr t ↦ stay n (listed n (omega (arith, less, below)) (u.0, sym (stays leases slot n t.1) ∙ u.1))
      ]

      pub listed_forgotten : AreListed (remove owners slot) leases more lower
      listed_forgotten n less u = elim (same_or n slot) [
        | inl t ↦ subst (Has more) (sym t.1) (here (subst (λ (m : ℕ). m < lower) t.1 less))
        | inr t ↦ stay n (listed n (omega (arith, less, below)) (sym (stays owners slot n t.1) ∙ u.0, u.1))
      ]

-- ---- the counts

pub counted_none : (area : Area) → AreCounted (no_slots area)
counted_none area = record { keyed = λ key slot e. absurd (some_none slot (sym e ∙ get-empty nat_cmp key)); others = λ key e. get-empty nat_cmp key }

module _ (s : SlotTable) (is : AreCounted s) where
  counted_with : (area : Area) (leases : FinMap nat_cmp (List ℕ)) (top key slot n : ℕ) → 1 ≤ n
      → AreCounted (record { area = area; keys = insert s.keys key slot; counts = insert s.counts key n; leases = leases; top = top })
  counted_with area leases top key slot n many = record {
    keyed = λ k m e. elim (same_or k key) [
      | inl t ↦ omega (arith, many, ap (λ (q : ℕ). unwrap_or (get (insert s.counts key n) q) 0) t.1 ∙ ap (λ (o : Option ℕ). unwrap_or o 0) (gets_here s.counts key n))
      | inr t ↦ omega (arith, is.keyed k m (sym (gets_there s.keys key slot k t.1) ∙ e), ap (λ (o : Option ℕ). unwrap_or o 0) (gets_there s.counts key n k t.1))
    ];
    others = λ k e. elim (same_or k key) [
      | inl t ↦ absurd (some_none slot (sym (ap (get (insert s.keys key slot)) t.1 ∙ gets_here s.keys key slot) ∙ e))
      | inr t ↦ gets_there s.counts key n k t.1 ∙ is.others k (sym (gets_there s.keys key slot k t.1) ∙ e)
    ];
  }

  pub counted_adopted : (slot key : ℕ) → AreCounted (adopted s slot key)
  counted_adopted slot key = counted_with s.area (remove s.leases slot) s.top key slot 1 (omega arith)

  pub counted_placed : (key slot : ℕ) → AreCounted (placed s key slot)
  counted_placed key slot = let t = placed s key slot in counted_with s.area s.leases t.top key slot 1 (omega arith)

  pub counted_forgotten : (key : ℕ) → AreCounted (forgotten s key)
  counted_forgotten key = record {
    keyed = λ k n e. elim (same_or k key) [
      | inl t ↦ absurd (some_none n (sym e ∙ ap (get (remove s.keys key)) t.1 ∙ gone s.keys key))
      | inr t ↦ omega (arith, is.keyed k n (got-remove s.keys key k n e), ap (λ (o : Option ℕ). unwrap_or o 0) (stays s.counts key k t.1))
    ];
    others = λ k e. elim (same_or k key) [
      | inl t ↦ ap (get (remove s.counts key)) t.1 ∙ gone s.counts key
      | inr t ↦ stays s.counts key k t.1 ∙ is.others k (sym (stays s.keys key k t.1) ∙ e)
    ];
  }

  -- another count of a key that is there
  pub counted_set : (key n : ℕ) → IsSome (get s.keys key) → 1 ≤ n → AreCounted (record s { counts = insert s.counts key n })
  counted_set key n there many = record {
    keyed = λ k m e. elim (same_or k key) [
      | inl t ↦ omega (arith, many, ap (λ (q : ℕ). unwrap_or (get (insert s.counts key n) q) 0) t.1 ∙ ap (λ (o : Option ℕ). unwrap_or o 0) (gets_here s.counts key n))
      | inr t ↦ omega (arith, is.keyed k m e, ap (λ (o : Option ℕ). unwrap_or o 0) (gets_there s.counts key n k t.1))
    ];
    others = λ k e. elim (same_or k key) [
      | inl t ↦ absurd (never (get s.keys key) there (sym (ap (get s.keys) t.1) ∙ e))
      | inr t ↦ gets_there s.counts key n k t.1 ∙ is.others k e
    ];
  }
    where
      never : (o : Option ℕ) → IsSome o → o ≡ None → ⊥
      never None t e = cc
      never (Some x) t e = some_none x e

pub counted_same : (s : SlotTable) → AreCounted s → (area : Area) (leases : FinMap nat_cmp (List ℕ)) (top : ℕ) → AreCounted (record { area = area; keys = s.keys; counts = s.counts; leases = leases; top = top })
counted_same s is area leases top = record { keyed = is.keyed; others = is.others }
