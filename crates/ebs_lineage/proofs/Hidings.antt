-- What is noted of the nodes that hide blocks: one more, one less, and the first at a place.
use Rattle.std.proofs.Common.{◌≡◌, ℕ, ◌+◌, ◌<◌, ◌≤◌, ◌⊎◌, inl, inr, Bool, true, false, cond, List, ◌∷◌, [], Some, None, IsSome, is_some, refl, sym, ap, subst, ◌∙◌, arith}
use Rattle.std.proofs.lemmas.Bool.{false≢true}
use Rattle.std.proofs.lemmas.Bool.Decides.{nat_tests}
use Rattle.std.specs.declared.cmp.Ordering.{Ordering}
use Rattle.std.specs.declared.cmp.Ordering.TheVariants.{Less, Equal, Greater}
use Rattle.std.specs.Ordering.{nat_cmp, eq_by_cmp, ordering_then, is_gt}
use Rattle.std.specs.Cmp.{IsTotalOrder, nat_cmp_total, nat_cmp_is}
use Rattle.std.proofs.lemmas.Cmp.{on_total, then_total}
use Rattle.std.proofs.lemmas.Map.Lookups.{exact_pairs, exact_unsigned}
use Rattle.std.specs.FinMap as map
use Rattle.std.specs.FinMap.{get-insert, get-remove}
use Rattle.std.specs.BTreeMap.{BTreeMap, get}
use Rattle.std.specs.BTreeMap.Range.{IsRangeOf}
use Rattle.std.specs.declared.ops.Bound.TheVariants.{Included, Unbounded}
use Rattle.ebs_lineage.specs.declared.hiders.Hiding.{Hiding}
use Rattle.ebs_lineage.specs.Hiders.{HiderTable, Hidings, Hides, IsForgotten, hiding_cmp, hiding_by, with_hiding, without_hiding}
use Rattle.ebs_lineage.proofs.Changes.{same_or}
use Rattle.ebs_tables.proofs.MapEdits.{is_same, tied}
use Rattle.ebs_tables.proofs.TreeMaps.{get-seen}
use Rattle.ebs_tables.proofs.Counted.{len-left}

-- ---- the order

pub hidings_total : IsTotalOrder hiding_cmp
hidings_total = then_total (on_total (λ h. h.node) nat_cmp_total) (then_total (on_total (λ h. h.index) nat_cmp_total) (on_total (λ h. h.by) nat_cmp_total))

-- those that compare alike are one
pub exact_hidings : map.IsAntisymmetric hiding_cmp
exact_hidings a b h =
    ap (λ (p : ℕ × (ℕ × ℕ)). record { node = p.0; index = p.1.0; by = p.1.1 })
    (exact_pairs nat_cmp (λ (p q : ℕ × ℕ). ordering_then (nat_cmp p.0 q.0) (nat_cmp p.1 q.1)) exact_unsigned (exact_pairs nat_cmp nat_cmp exact_unsigned exact_unsigned) (a.node, (a.index, a.by)) (b.node, (b.index, b.by)) h)

-- ---- one more, and one less

abbrev IsIt : ℕ → ℕ → ℕ → ℕ → ℕ → ℕ → Type 0
IsIt n i c m j k = (n ≡ m) × (i ≡ j) × (c ≡ k)

it_or : (n i c m j k : ℕ) → IsIt n i c m j k ⊎ (IsIt n i c m j k → ⊥)
it_or n i c m j k = elim (same_or n m) [
  | inr off ↦ inr (λ all. off all.0)
  | inl e ↦ elim (same_or i j) [
    | inr off ↦ inr (λ all. off all.1)
    | inl f ↦ elim (same_or c k) [ inr off ↦ inr (λ all. off all.2) | inl g ↦ inl (e, f, g) ]
  ]
]

other_hiding : (n i c m j k : ℕ) → (IsIt n i c m j k → ⊥) → eq_by_cmp hiding_cmp (hiding_by n i c) (hiding_by m j k) ≡ false
other_hiding n i c m j k off = by (eq_by_cmp hiding_cmp (hiding_by n i c) (hiding_by m j k)) refl
  where
    one : hiding_by n i c ≡ hiding_by m j k → ⊥
    one e = off (ap (λ (h : Hiding). h.node) e, ap (λ (h : Hiding). h.index) e, ap (λ (h : Hiding). h.by) e)

    by : (t : Bool) → eq_by_cmp hiding_cmp (hiding_by n i c) (hiding_by m j k) ≡ t → eq_by_cmp hiding_cmp (hiding_by n i c) (hiding_by m j k) ≡ false
    by true e = absurd (one (is_same exact_hidings (hiding_by n i c) (hiding_by m j k) e))
    by false e = e

one_hiding : (n i c m j k : ℕ) → IsIt n i c m j k → hiding_by n i c ≡ hiding_by m j k
one_hiding n i c m j k all = λ q. record { node = all.0 q; index = all.1 q; by = all.2 q }

module _ (h : HiderTable) (m j k : ℕ) where
  pub noted-here : Hides (with_hiding h m j k) m j k
  noted-here = ap is_some (
      get-insert hidings_total h.hidings (hiding_by m j k) tt (hiding_by m j k)
      ∙ ap (λ b. cond b (Some tt) (map.get h.hidings (hiding_by m j k))) (tied hidings_total (hiding_by m j k)))

  with_other : (n i c : ℕ) → (IsIt n i c m j k → ⊥) → map.get (with_hiding h m j k).hidings (hiding_by n i c) ≡ map.get h.hidings (hiding_by n i c)
  with_other n i c off =
      get-insert hidings_total h.hidings (hiding_by m j k) tt (hiding_by n i c)
      ∙ ap (λ b. cond b (Some tt) (map.get h.hidings (hiding_by n i c))) (other_hiding n i c m j k off)

  pub noted-was : (n i c : ℕ) → Hides (with_hiding h m j k) n i c → Hides h n i c ⊎ ((n ≡ m) × (i ≡ j) × (c ≡ k))
  noted-was n i c hides = elim (it_or n i c m j k) [
    | inl all ↦ inr all
    | inr off ↦ inl (ap is_some (sym (with_other n i c off)) ∙ hides)
  ]

  pub noted-stays : (n i c : ℕ) → Hides h n i c → Hides (with_hiding h m j k) n i c
  noted-stays n i c hides = elim (it_or n i c m j k) [
    | inl all ↦ ap (λ (q : Hiding). is_some (map.get (with_hiding h m j k).hidings q)) (one_hiding n i c m j k all) ∙ noted-here
    | inr off ↦ ap is_some (with_other n i c off) ∙ hides
  ]

  gone : map.get (without_hiding h m j k).hidings (hiding_by m j k) ≡ None
  gone =
      get-remove hidings_total h.hidings (hiding_by m j k) (hiding_by m j k)
      ∙ ap (λ b. cond b None (map.get h.hidings (hiding_by m j k))) (tied hidings_total (hiding_by m j k))

  without_other : (n i c : ℕ) → (IsIt n i c m j k → ⊥) → map.get (without_hiding h m j k).hidings (hiding_by n i c) ≡ map.get h.hidings (hiding_by n i c)
  without_other n i c off =
      get-remove hidings_total h.hidings (hiding_by m j k) (hiding_by n i c)
      ∙ ap (λ b. cond b None (map.get h.hidings (hiding_by n i c))) (other_hiding n i c m j k off)

  pub removed-was : (n i c : ℕ) → Hides (without_hiding h m j k) n i c → Hides h n i c × ((n ≡ m) × (i ≡ j) × (c ≡ k) → ⊥)
  removed-was n i c hides = elim (it_or n i c m j k) [
    | inl all ↦ absurd (false≢true (sym (ap is_some (ap (λ (q : Hiding). map.get (without_hiding h m j k).hidings q) (one_hiding n i c m j k all) ∙ gone)) ∙ hides))
    | inr off ↦ (ap is_some (sym (without_other n i c off)) ∙ hides, off)
  ]

  pub removed-stays : (n i c : ℕ) → Hides h n i c → ((n ≡ m) × (i ≡ j) × (c ≡ k) → ⊥) → Hides (without_hiding h m j k) n i c
  removed-stays n i c hides off = ap is_some (without_other n i c off) ∙ hides

  -- there is one less
  pub removed-less : Hides h m j k → map.len (without_hiding h m j k).hidings < map.len h.hidings
  removed-less hides =
      let key = hiding_by m j k in
      let len : map.len h.hidings ≡ map.len (map.remove h.hidings key) + 1 = len-left hidings_total exact_hidings h.hidings key (map.get h.hidings key) refl ∙ ap (λ b. cond b (map.len (map.remove h.hidings key) + 1) (map.len (map.remove h.hidings key))) hides in
      omega arith

-- what hides the block at the place is being taken out
pub record IsForgetting (old new : HiderTable) (node index : ℕ) : Type 0 where
  pub whole : new.is_whole ≡ old.is_whole
  pub was : (n i c : ℕ) → Hides new n i c → Hides old n i c
  pub stays : (n i c : ℕ) → Hides old n i c → ((n ≡ node) × (i ≡ index) → ⊥) → Hides new n i c

pub forgetting-self : (h : HiderTable) (node index : ℕ) → IsForgetting h h node index
forgetting-self h node index = record { whole = refl; was = λ n i c hides. hides; stays = λ n i c hides off. hides }

pub forgetting-on : (old h : HiderTable) (node index by : ℕ) → IsForgetting old h node index → IsForgetting old (without_hiding h node index by) node index
forgetting-on old h node index by so = record {
  whole = so.whole;
  was = λ n i c hides. so.was n i c (removed-was h node index by n i c hides).0;
  stays = λ n i c hides off. removed-stays h node index by n i c (so.stays n i c hides off) (λ all. off (all.0, all.1));
}

pub forgotten : (old h : HiderTable) (node index : ℕ) → IsForgetting old h node index → ((c : ℕ) → Hides h node index c → ⊥) → IsForgotten old h node index
forgotten old h node index so none = record {
  whole = so.whole;
  was = λ n i c hides. (so.was n i c hides, λ same. none c (subst (λ (p : ℕ × ℕ). Hides h p.0 p.1 c) (λ q. (same.0 q, same.1 q)) hides));
  stays = so.stays;
}

-- ---- the first at a place

from_test : (a b : ℕ) → is_gt (nat_cmp a b) ≡ false → a ≤ b
from_test a b h = grind (arith, nat_tests)

at_least : (a b : ℕ) → a ≤ b → is_gt (nat_cmp a b) ≡ false
at_least a b h = grind (arith, nat_tests)

then_first : (a b : ℕ) (r : Ordering) → is_gt (ordering_then (nat_cmp a b) r) ≡ false → a ≤ b
then_first a b r h = from_test a b (by (nat_cmp a b) h)
  where
    by : (o : Ordering) → is_gt (ordering_then o r) ≡ false → is_gt o ≡ false
    by Less e = refl
    by Equal e = refl
    by Greater e = e

then_same : (a b : ℕ) (r : Ordering) → a ≡ b → is_gt (ordering_then (nat_cmp a b) r) ≡ is_gt r
then_same a b r e = ap (λ (o : Ordering). is_gt (ordering_then o r)) (sym (nat_cmp_is a b Equal e))

module _ (m : BTreeMap Hiding (Unit {0})) (node index from : ℕ) where
  abbrev pub table : Hidings
  table = map.from_entries {R = hiding_cmp} m.entries

  abbrev start : Hiding
  start = hiding_by node index from

  seen : (q : Hiding) → map.get table q ≡ get hiding_cmp m q
  seen q = get-seen hidings_total m.entries q

  from_start : (c : ℕ) → from ≤ c → is_gt (hiding_cmp start (hiding_by node index c)) ≡ false
  from_start c high =
      then_same node node (ordering_then (nat_cmp index index) (nat_cmp from c)) refl
      ∙ then_same index index (nat_cmp from c) refl ∙ at_least from c high

  pub none-in : (r : List (Hiding × Unit {0})) → IsRangeOf hiding_cmp (Included start) Unbounded m r → r ≡ [] → (c : ℕ) → IsSome (map.get table (hiding_by node index c)) → from ≤ c → ⊥
  none-in r is e c some high = false≢true (sym (ap is_some (seen (hiding_by node index c) ∙ is.5 e (hiding_by node index c) (from_start c high, tt))) ∙ some)

  module _ (e : Hiding × Unit {0}) (r rest : List (Hiding × Unit {0})) (is : IsRangeOf hiding_cmp (Included start) Unbounded m r) (t : r ≡ e ∷ rest) where
    abbrev Known : Type 0
    Known = IsRangeOf hiding_cmp (Included start) Unbounded m (e ∷ rest)

    known : Known
    known = subst (λ (l : List (Hiding × Unit {0})). IsRangeOf hiding_cmp (Included start) Unbounded m l) t is

    not_before : (c : ℕ) → IsSome (map.get table (hiding_by node index c)) → from ≤ c → is_gt (hiding_cmp e.0 (hiding_by node index c)) ≡ false
    not_before c some high = known.2 (hiding_by node index c) (from_start c high, tt) (ap is_some (sym (seen (hiding_by node index c))) ∙ some)

    same_node : (c : ℕ) → IsSome (map.get table (hiding_by node index c)) → from ≤ c → e.0.node ≡ node
    same_node c some high =
        let low = then_first node e.0.node (ordering_then (nat_cmp index e.0.index) (nat_cmp from e.0.by)) known.1.0.0 in
        let more = then_first e.0.node node (ordering_then (nat_cmp e.0.index index) (nat_cmp e.0.by c)) (not_before c some high) in
        omega (arith, low, more)

    behind_node : e.0.node ≡ node → is_gt (ordering_then (nat_cmp index e.0.index) (nat_cmp from e.0.by)) ≡ false
    behind_node n = sym (then_same node e.0.node (ordering_then (nat_cmp index e.0.index) (nat_cmp from e.0.by)) (sym n)) ∙ known.1.0.0

    same_index : (c : ℕ) → IsSome (map.get table (hiding_by node index c)) → from ≤ c → e.0.index ≡ index
    same_index c some high =
        let n = same_node c some high in
        let low = then_first index e.0.index (nat_cmp from e.0.by) (behind_node n) in
        let more = then_first e.0.index index (nat_cmp e.0.by c) (sym (then_same e.0.node node (ordering_then (nat_cmp e.0.index index) (nat_cmp e.0.by c)) n) ∙ not_before c some high) in
        omega (arith, low, more)

    pub other-in : ((e.0.node ≡ node) × (e.0.index ≡ index) → ⊥) → (c : ℕ) → IsSome (map.get table (hiding_by node index c)) → from ≤ c → ⊥
    other-in off c some high = off (same_node c some high, same_index c some high)

    module _ (n : e.0.node ≡ node) (i : e.0.index ≡ index) where
      pub first-there : IsSome (map.get table (hiding_by node index e.0.by))
      first-there =
          let it : e.0 ≡ hiding_by node index e.0.by = λ q. record { node = n q; index = i q; by = e.0.by } in
          ap is_some (ap (map.get table) (sym it) ∙ seen e.0 ∙ known.1.1)

      pub first-from : from ≤ e.0.by
      first-from = from_test from e.0.by (sym (then_same index e.0.index (nat_cmp from e.0.by) (sym i)) ∙ behind_node n)

      pub first-least : (c : ℕ) → IsSome (map.get table (hiding_by node index c)) → from ≤ c → e.0.by ≤ c
      first-least c some high = from_test e.0.by c (
          sym (then_same e.0.index index (nat_cmp e.0.by c) i)
          ∙ sym (then_same e.0.node node (ordering_then (nat_cmp e.0.index index) (nat_cmp e.0.by c)) n)
          ∙ not_before c some high)
