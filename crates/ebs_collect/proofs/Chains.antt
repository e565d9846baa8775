-- The stack of nodes that wait, through changes.
use Rattle.std.proofs.Common.{◌≡◌, inl, inr, ℕ, List, [], ◌∷◌, Option, Some, None, refl, sym, ap, subst, ◌∙◌}
use Rattle.std.specs.FinMap as map
use Rattle.ebs_lineage.specs.declared.place.Place.{Place}
use Rattle.ebs_lineage.specs.Places.{Places}
use Rattle.ebs_lineage.proofs.Changes.{same_or, insert-here, insert-other}
use Rattle.ebs_collect.specs.Stack.{IsIn, IsChain, IsStack}
use Rattle.ebs_collect.proofs.Maps.{none_some, some_same, removed-here, removed-other}

-- a chain stays where each of its nodes leads to the same one
chain_kept : (places after : Places) (first : Option ℕ) (order : List ℕ) → ((q : ℕ) (p : Place) → IsIn q order → map.get places q ≡ Some p → (v : Place) × (map.get after q ≡ Some v) × (v.next ≡ p.next))
    → IsChain places first order → IsChain after first order
chain_kept places after first [] keeps c = c
chain_kept places after first (n ∷ ns) keeps (p, is, off, here, rest) =
    let found = keeps n p (inl refl) here in
    (found.0, is, off, found.1, subst (λ (o : Option ℕ). IsChain after o ns) (sym found.2) (chain_kept places after p.next ns (λ q u i h. keeps q u (inr i) h) rest))

chain_in : (places : Places) (first : Option ℕ) (order : List ℕ) → IsChain places first order → (q : ℕ) → IsIn q order → (p : Place) × (map.get places q ≡ Some p)
chain_in places first [] c q i = absurd i
chain_in places first (n ∷ ns) (p, is, off, here, rest) q (inl e) = (p, ap (map.get places) e ∙ here)
chain_in places first (n ∷ ns) (p, is, off, here, rest) q (inr i) = chain_in places p.next ns rest q i

module _ (places : Places) (first : Option ℕ) (is : IsStack places first) (n : ℕ) (v : Place) where
  abbrev after : Places
  after = map.insert places n v

  -- a node goes on top
  module _ (new : map.get places n ≡ None) (next : v.next ≡ first) where
    not_in : IsIn n is.order → ⊥
    not_in i = let found = chain_in places first is.order is.chain n i in none_some found.0 (sym new ∙ found.1)

    keeps : (q : ℕ) (p : Place) → IsIn q is.order → map.get places q ≡ Some p → (u : Place) × (map.get after q ≡ Some u) × (u.next ≡ p.next)
    keeps q p i here = (p, insert-other places n v q (λ e. none_some p (sym new ∙ ap (map.get places) (sym e) ∙ here)) ∙ here, refl)

    all_in : (q : ℕ) (p : Place) → map.get after q ≡ Some p → IsIn q (n ∷ is.order)
    all_in q p e = elim (same_or q n) [
      | inl s ↦ inl s
      | inr off ↦ inr (is.all q p (sym (insert-other places n v q off) ∙ e))
    ]

    pub pushed-stack : IsStack after (Some n)
    pushed-stack = record {
      order = n ∷ is.order;
      chain = (v, refl, not_in, insert-here places n v, subst (λ (o : Option ℕ). IsChain after o is.order) (sym next) (chain_kept places after first is.order keeps is.chain));
      all = all_in;
    }

  -- a node has another place, and leads to the same one
  module _ (p : Place) (here : map.get places n ≡ Some p) (next : v.next ≡ p.next) where
    stays : (q : ℕ) (u : Place) → IsIn q is.order → map.get places q ≡ Some u → (w : Place) × (map.get after q ≡ Some w) × (w.next ≡ u.next)
    stays q u i e = elim (same_or q n) [
      | inl s ↦ (v, ap (map.get after) s ∙ insert-here places n v, next ∙ ap (λ (x : Place). x.next) (some_same p u (sym here ∙ ap (map.get places) (sym s) ∙ e)))
      | inr off ↦ (u, insert-other places n v q off ∙ e, refl)
    ]

    still_in : (q : ℕ) (u : Place) → map.get after q ≡ Some u → IsIn q is.order
    still_in q u e = elim (same_or q n) [
      | inl s ↦ is.all q p (ap (map.get places) s ∙ here)
      | inr off ↦ is.all q u (sym (insert-other places n v q off) ∙ e)
    ]

    pub moved-stack : IsStack after first
    moved-stack = record { order = is.order; chain = chain_kept places after first is.order stays is.chain; all = still_in }

-- the first node leaves
module _ (places : Places) (f : ℕ) (p : Place) (here : map.get places f ≡ Some p) where
  abbrev rest : Places
  rest = map.remove places f

  module _ (n : ℕ) (ns : List ℕ) (u : Place) (at : Some f ≡ Some n) (off : IsIn n ns → ⊥) (there : map.get places n ≡ Some u) (chain : IsChain places u.next ns) (all : (q : ℕ) (w : Place) → map.get places q ≡ Some w → IsIn q (n ∷ ns)) where
    same : f ≡ n
    same = some_same f n at

    away : (q : ℕ) → IsIn q ns → q ≡ f → ⊥
    away q i e = off (subst (λ k. IsIn k ns) (e ∙ same) i)

    leads : (q : ℕ) (w : Place) → IsIn q ns → map.get places q ≡ Some w → (x : Place) × (map.get rest q ≡ Some x) × (x.next ≡ w.next)
    leads q w i e = (w, removed-other places f q (away q i) ∙ e, refl)

    to_next : u.next ≡ p.next
    to_next = ap (λ (x : Place). x.next) (some_same u p (sym there ∙ ap (map.get places) (sym same) ∙ here))

    left_in : (q : ℕ) (w : Place) → map.get rest q ≡ Some w → IsIn q ns
    left_in q w e = elim (same_or q f) [
      | inl s ↦ none_some w (sym (removed-here places f) ∙ ap (map.get rest) (sym s) ∙ e)
      | inr apart ↦ elim (all q w (sym (removed-other places f q apart) ∙ e)) [
        | inl s ↦ absurd (apart (s ∙ sym same))
        | inr i ↦ i
      ]
    ]

    rest_stack : IsStack rest p.next
    rest_stack = record { order = ns; chain = subst (λ (o : Option ℕ). IsChain rest o ns) to_next (chain_kept places rest u.next ns leads chain); all = left_in }

  rest_of : (order : List ℕ) → IsChain places (Some f) order → ((q : ℕ) (w : Place) → map.get places q ≡ Some w → IsIn q order) → IsStack rest p.next
  rest_of [] c all = none_some f (sym c)
  rest_of (n ∷ ns) (u, at, off, there, chain) all = rest_stack n ns u at off there chain all

  pub popped-stack : IsStack places (Some f) → IsStack rest p.next
  popped-stack is = rest_of is.order is.chain is.all

-- without a first node none waits
nobody_in : (places : Places) (order : List ℕ) → IsChain places None order → (q : ℕ) → IsIn q order → ⊥
nobody_in places [] c q i = i
nobody_in places (n ∷ ns) (p, at, off, there, chain) q i = none_some n at

pub nobody-waits : (places : Places) → IsStack places None → (n : ℕ) (p : Place) → map.get places n ≡ Some p → ⊥
nobody-waits places is n p e = nobody_in places is.order is.chain n (is.all n p e)

-- the first node waits
first_in : (places : Places) (f : ℕ) (order : List ℕ) → IsChain places (Some f) order → (p : Place) × (map.get places f ≡ Some p)
first_in places f [] c = none_some f (sym c)
first_in places f (n ∷ ns) (p, at, off, there, chain) = (p, ap (map.get places) (some_same f n at) ∙ there)

pub first-waits : (places : Places) (f : ℕ) → IsStack places (Some f) → (p : Place) × (map.get places f ≡ Some p)
first-waits places f is = first_in places f is.order is.chain
