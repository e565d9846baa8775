-- What steps leave.
use Rattle.std.proofs.Common.{arith, ◌≡◌, ◌⊎◌, inl, inr, ℕ, ◌<◌, ◌≤◌, ◌^◌, Option, Some, None, is_some, refl, sym, ap, subst, ◌∙◌}
use Rattle.std.specs.Option.{option_map}
use Rattle.std.specs.Ordering.{nat_cmp}
use Rattle.std.specs.FinMap as map
use Rattle.ebs_model.specs.declared.array.Block.{Block}
use Rattle.ebs_lineage.specs.declared.node.Node.{Node}
use Rattle.ebs_lineage.specs.declared.place.Place.{Place}
use Rattle.ebs_lineage.specs.Table.{NodeMap, Table}
use Rattle.ebs_lineage.specs.Places.{Places}
use Rattle.ebs_lineage.specs.Lines.{Lines, AreLines, AreSmall, IsFree, IsHeld, own, own_of}
use Rattle.ebs_lineage.specs.Live.{IsLive}
use Rattle.ebs_lineage.specs.Reached.{IsCollected}
use Rattle.ebs_slots.specs.inner.Slots.{SlotTable}
use Rattle.ebs_collect.specs.declared.backlog.Next.{Next}
use Rattle.ebs_collect.specs.Stack.{IsStack, waiting_in}
use Rattle.ebs_collect.specs.Backlogs.{Queue, IsPlace, IsLinked, IsWaiting, IsPlacesAlone, Covers}
use Rattle.ebs_collect.specs.Slices.{bare, Leaves, Frees}
use Rattle.ebs_collect.specs.Steps.{IsPassed, IsJudged}
use Rattle.ebs_collect.proofs.Maps.{none_some, some_same}
use Rattle.ebs_collect.proofs.Counts.{from-same}
use Rattle.ebs_collect.proofs.Adding.{left-within}
use Rattle.ebs_collect.proofs.Enqueued.{same-table}

-- ---- what is left of a node but its blocks

bared : (o p : Option Node) → option_map bare o ≡ option_map bare p → (x : Node) → p ≡ Some x → (y : Node) × (o ≡ Some y) × (y.is_held ≡ x.is_held)
bared None p e x is = none_some (bare x) (e ∙ ap (option_map bare) is)
bared (Some y) p e x is = (y, refl, ap (λ (z : Node). z.is_held) (some_same (bare y) (bare x) (e ∙ ap (option_map bare) is)))

module _ (f g : NodeMap) (n : ℕ) (same : option_map bare (map.get g n) ≡ option_map bare (map.get f n)) where
  pub held-kept : IsHeld f n → IsHeld g n
  held-kept (x, is, held) = let y = bared (map.get g n) (map.get f n) same x is in (y.0, y.1, y.2 ∙ held)

  pub free-kept : IsFree f n → IsFree g n
  free-kept (x, is, free) = let y = bared (map.get g n) (map.get f n) same x is in (y.0, y.1, y.2 ∙ free)

-- ---- one after the other

pub leaves-both : (l m z : Lines) → Leaves l m → Leaves m z → Leaves l z
leaves-both l m z a b = record {
  arrays = λ h held. b.arrays h (held-kept l.table.nodes m.table.nodes h (a.nodes h) held) ∙ a.arrays h held;
  nodes = λ n. b.nodes n ∙ a.nodes n;
  blocks = λ n i c e. a.blocks n i c (b.blocks n i c e);
  spare = b.spare ∙ a.spare;
  made = b.made ∙ a.made;
}

pub leaves-after : (l m z : Lines) → IsPlacesAlone l m → Leaves m z → Leaves l z
leaves-after l m z lines a =
    subst (λ (x : Lines). Leaves x z) (ap (λ (x : Lines). record x { places = l.places }) lines) (record {
      arrays = a.arrays;
      nodes = a.nodes;
      blocks = a.blocks;
      spare = a.spare;
      made = a.made;
    })

pub frees-both : (s t u : SlotTable) → Frees s t → Frees t u → Frees s u
frees-both s t u a b = record {
  keys = λ key slot e. a.keys key slot (b.keys key slot e);
  counts = λ key slot e. omega (arith, b.counts key slot e, a.counts key slot (b.keys key slot e));
  area = b.area ∙ a.area;
  leases = b.leases ∙ a.leases;
  top = b.top ∙ a.top;
}

-- ---- a step

module _ (q : Queue) (l : Lines) (next : Next) (r : Queue) (m z : Lines) (passed : IsPassed q l next r m) (judged : IsJudged m z next.number next.index) where
  lives_z : (k i : ℕ) → IsLive m.table.nodes k i → IsLive z.table.nodes k i
  lives_z k i (h, held, finds) = (h, held-kept m.table.nodes z.table.nodes h (judged.leaves.nodes h) held, judged.owners h i held ∙ finds)

  waits_z : (k i : ℕ) (b : Block) → map.get (own z.table.nodes k) i ≡ Some b → IsWaiting m k i → IsWaiting z k i
  waits_z k i b e w = record {
    place = w.place;
    here = ap (λ p. map.get p k) judged.places ∙ w.here;
    reached = w.reached;
    kept = ap is_some e;
  }

  looked_at : (k i : ℕ) (b : Block) → map.get (own z.table.nodes k) i ≡ Some b → (k ≡ next.number) × (i ≡ next.index) → IsLive z.table.nodes k i
  looked_at k i b e (s, t) =
      subst (λ (x : ℕ × ℕ). IsLive z.table.nodes x.0 x.1) (λ j. (sym s j, sym t j))
      (judged.lives b (ap (λ (x : ℕ). map.get (own z.table.nodes x) next.index) (sym s) ∙ ap (map.get (own z.table.nodes k)) (sym t) ∙ e))

  still_covered : (k i : ℕ) (b : Block) → map.get (own z.table.nodes k) i ≡ Some b → IsLive l.table.nodes k i ⊎ IsWaiting l k i → IsLive z.table.nodes k i ⊎ IsWaiting z k i
  still_covered k i b e (inl live) = inl (lives_z k i (subst (λ (t : Table). IsLive t.nodes k i) (sym (same-table l m passed.lines)) live))
  still_covered k i b e (inr w) = elim (passed.waits k i w) [
    | inl now ↦ inr (waits_z k i b e now)
    | inr both ↦ inl (looked_at k i b e both)
  ]

  pub step-covers : Covers l → Covers z
  step-covers covers k i b e =
      let was = ap (λ (t : Table). map.get (own t.nodes k) i) (sym (same-table l m passed.lines)) ∙ judged.leaves.blocks k i b e in
      still_covered k i b e (covers k i b was)

  -- the blocks of a node that waits are those that it had
  none_stays : (k i : ℕ) → map.get (own m.table.nodes k) i ≡ None → (o : Option Block) → map.get (own z.table.nodes k) i ≡ o → map.get (own m.table.nodes k) i ≡ map.get (own z.table.nodes k) i
  none_stays k i none None e = none ∙ sym e
  none_stays k i none (Some b) e = none_some b (sym none ∙ judged.leaves.blocks k i b e)

  some_stays : (k i : ℕ) (b : Block) → map.get (own m.table.nodes k) i ≡ Some b → ((k ≡ next.number) × (i ≡ next.index) → ⊥) → map.get (own m.table.nodes k) i ≡ map.get (own z.table.nodes k) i
  some_stays k i b e apart = e ∙ sym (judged.others k i b e apart)

  beyond : (k i : ℕ) (p : Place) → map.get m.places k ≡ Some p → p.from ≤ i → (k ≡ next.number) × (i ≡ next.index) → ⊥
  beyond k i p here reached (s, t) =
      let past : next.index < p.from = passed.past p (ap (map.get m.places) (sym s) ∙ here) in
      let at : i ≡ next.index = t in
      absurd (omega arith)

  own_stays : (k : ℕ) (p : Place) → map.get m.places k ≡ Some p → (i : ℕ) → p.from ≤ i → map.get (own m.table.nodes k) i ≡ map.get (own z.table.nodes k) i
  own_stays k p here i reached = by (map.get (own m.table.nodes k) i) refl
    where
      by : (o : Option Block) → map.get (own m.table.nodes k) i ≡ o → map.get (own m.table.nodes k) i ≡ map.get (own z.table.nodes k) i
      by None e = none_stays k i e (map.get (own z.table.nodes k) i) refl
      by (Some b) e = some_stays k i b e (beyond k i p here reached)

  place_stays : (k : ℕ) (p : Place) → map.get m.places k ≡ Some p → IsPlace z.table.nodes k p
  place_stays k p here =
      let place = passed.linked.each k p here in
      record {
        free = free-kept m.table.nodes z.table.nodes k (judged.leaves.nodes k) place.free;
        left = place.left ∙ ap map.len (from-same (own m.table.nodes k) (own z.table.nodes k) p.from (own_stays k p here));
        some = place.some;
        few = place.few;
      }

  pub step-linked : IsLinked r z
  step-linked = record {
    stack = subst (λ (ps : Places). IsStack ps r.first) (sym judged.places) passed.linked.stack;
    each = λ k p e. place_stays k p (ap (λ ps. map.get ps k) (sym judged.places) ∙ e);
    count = passed.linked.count ∙ ap waiting_in (sym judged.places);
  }

-- ---- the end

pub collected : (q : Queue) (l : Lines) → IsLinked q l → Covers l → q.waiting ≡ 0 → IsCollected l.table.nodes
collected q l linked covers none n i b e = elim (covers n i b e) [
  | inl live ↦ live
  | inr w ↦
      let most = left-within q l linked n w.place w.here in
      let some = (linked.each n w.place w.here).some in
      absurd (omega arith)
]

-- a node's own indexes have 32 bits
pub own-small : (nodes : NodeMap) (made n : ℕ) → AreLines nodes made → AreSmall (own nodes n)
own-small nodes made n are i b e = by (map.get nodes n) refl e
  where
    by : (o : Option Node) → map.get nodes n ≡ o → map.get (own_of o) i ≡ Some b → i < 2 ^ 32
    by None is h = none_some b (sym (map.get-empty nat_cmp i) ∙ h)
    by (Some x) is h = are.small n x is i b h
