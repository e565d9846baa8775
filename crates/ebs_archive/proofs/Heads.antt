-- The first entry of a finite map, and the first from a key on.
use Rattle.std.proofs.Common.{◌≡◌, Bool, true, false, ◌&&◌, cond, List, [], ◌∷◌, Some, None, T, refl, sym, ap, subst, ◌∙◌}
use Rattle.std.specs.declared.cmp.Ordering.{Ordering}
use Rattle.std.specs.declared.cmp.Ordering.TheVariants.{Less, Equal, Greater}
use Rattle.std.specs.List.{filter}
use Rattle.std.specs.Ordering.{eq_by_cmp, is_le, is_lt, is_eq, ordering_reverse}
use Rattle.std.specs.Cmp.{IsTotalOrder}
use Rattle.std.specs.FinMap.Entries.{find, is_sorted, below_all}
use Rattle.std.specs.FinMap.{FinMap, IsAntisymmetric, get, entries, entries_sorted, get-entries}
use Rattle.std.proofs.lemmas.Bool.{false≢true}
use Rattle.ebs_tables.proofs.MapEdits.{is_same, tied}

pub both_of : (a b : Bool) → T (a && b) → T a × T b
both_of true b h = (tt, h)
both_of false b h = absurd h

pub is_less : (r : Ordering) → T (is_lt r) → r ≡ Less
is_less Less h = refl
is_less Equal h = absurd h
is_less Greater h = absurd h

-- not below the key
abbrev pub reached : {K : Type 0} → (K → K → Ordering) → K → K → Bool
reached R s k = is_le (R s k)

apart : {K : Type 0} {R : K → K → Ordering} → IsAntisymmetric R → (s q k : K) → reached R s q ≡ true → reached R s k ≡ false → eq_by_cmp R q k ≡ false
apart {R = R} same s q k r p = by (eq_by_cmp R q k) refl
  where
    by : (b : Bool) → eq_by_cmp R q k ≡ b → b ≡ false
    by true t = absurd (false≢true (sym p ∙ sym (ap (reached R s) (is_same same q k t)) ∙ r))
    by false t = refl

module _ {K X : Type 0} {R : K → K → Ordering} (o : IsTotalOrder R) where
  -- nothing is found below the first
  missing : (q x : K) (es : List (K × X)) → R q x ≡ Less → T (below_all R x es) → find R q es ≡ None
  missing q x [] l h = refl
  missing q x (e ∷ es) l h =
      ap (λ r. cond (is_eq r) (Some e.1) (find R q es)) (o.trans q x e.0 l (is_less _ (both_of _ _ h).0)) ∙ missing q x es l (both_of _ _ h).1

  abbrev pub IsHead : K × X → List (K × X) → Type 0
  IsHead e es = (find R e.0 es ≡ Some e.1) × ((q : K) → R q e.0 ≡ Less → find R q es ≡ None)

  head : (e : K × X) (es : List (K × X)) → T (is_sorted R (e ∷ es)) → IsHead e (e ∷ es)
  head e es g = (
    ap (λ b. cond b (Some e.1) (find R e.0 es)) (tied o e.0),
    λ q l. ap (λ r. cond (is_eq r) (Some e.1) (find R q es)) l ∙ missing q e.0 es l (both_of _ _ g).0,
  )

  -- the first entry of all
  module _ (m : FinMap R X) (e : K × X) (rest : List (K × X)) (is : entries m ≡ e ∷ rest) where
    at-head : IsHead e (entries m)
    at-head = subst (IsHead e) (sym is) (head e rest (subst (λ es. T (is_sorted R es)) is (entries_sorted m)))

    pub head-there : get m e.0 ≡ Some e.1
    head-there = get-entries m e.0 ∙ at-head.0

    pub head-first : (q : K) (v : X) → get m q ≡ Some v → is_le (R e.0 q) ≡ true
    head-first q v h = by (R e.0 q) refl
      where
        none_some : None ≡ Some v → ⊥
        none_some e = cc

        by : (r : Ordering) → R e.0 q ≡ r → is_le r ≡ true
        by Less l = refl
        by Equal l = refl
        by Greater l = absurd (none_some (sym (get-entries m q ∙ at-head.1 q (o.antisymm q e.0 ∙ ap ordering_reverse l)) ∙ h))

  module _ (same : IsAntisymmetric R) (s : K) where
    abbrev pub onward : List (K × X) → List (K × X)
    onward es = filter (λ e. reached R s e.0) es

    none-listed : (q : K) → reached R s q ≡ true → (es : List (K × X)) → onward es ≡ [] → find R q es ≡ None
    none-listed q r [] h = refl
    none-listed q r (e ∷ es) h = by (reached R s e.0) refl (none-listed q r es) h
      where
        by : (b : Bool) → reached R s e.0 ≡ b → (onward es ≡ [] → find R q es ≡ None) → cond b (e ∷ onward es) (onward es) ≡ [] → find R q (e ∷ es) ≡ None
        by true p rest h = absurd cc
        by false p rest h = ap (λ b. cond b (Some e.1) (find R q es)) (apart same s q e.0 r p) ∙ rest h

    abbrev pub IsFirst : K × X → List (K × X) → Type 0
    IsFirst e es = (find R e.0 es ≡ Some e.1) × (reached R s e.0 ≡ true) × ((q : K) → reached R s q ≡ true → R q e.0 ≡ Less → find R q es ≡ None)

    first-listed : (e : K × X) (rest es : List (K × X)) → T (is_sorted R es) → onward es ≡ e ∷ rest → IsFirst e es
    first-listed e rest [] g h = absurd cc
    first-listed e rest (x ∷ xs) g h = by (reached R s x.0) refl (first-listed e rest xs (both_of _ _ g).1) h
      where
        by : (b : Bool) → reached R s x.0 ≡ b → (onward xs ≡ e ∷ rest → IsFirst e xs) → cond b (x ∷ onward xs) (onward xs) ≡ e ∷ rest → IsFirst e (x ∷ xs)
        by true p more h =
            let at = head x xs g in
            let is : x ≡ e = cc in
            subst (λ y. IsFirst y (x ∷ xs)) is (at.0, p, λ q r l. at.1 q l)
        by false p more h =
            let at = more h in (
              ap (λ b. cond b (Some x.1) (find R e.0 xs)) (apart same s e.0 x.0 at.1 p) ∙ at.0,
              at.1,
              λ q r l. ap (λ b. cond b (Some x.1) (find R q xs)) (apart same s q x.0 r p) ∙ at.2 q r l,
            )

    module _ (m : FinMap R X) where
      pub none-onward : onward (entries m) ≡ [] → (q : K) → reached R s q ≡ true → get m q ≡ None
      none-onward h q r = get-entries m q ∙ none-listed q r (entries m) h

      module _ (e : K × X) (rest : List (K × X)) (h : onward (entries m) ≡ e ∷ rest) where
        at-first : IsFirst e (entries m)
        at-first = first-listed e rest (entries m) (entries_sorted m) h

        pub first-there : get m e.0 ≡ Some e.1
        first-there = get-entries m e.0 ∙ at-first.0

        pub first-reached : reached R s e.0 ≡ true
        first-reached = at-first.1

        pub first-least : (q : K) → reached R s q ≡ true → R q e.0 ≡ Less → get m q ≡ None
        first-least q r l = get-entries m q ∙ at-first.2 q r l
