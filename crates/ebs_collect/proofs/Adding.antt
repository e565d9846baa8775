-- A node whose blocks wait from now on.
use Rattle.std.proofs.Common.{arith, ◌≡◌, ◌⊎◌, inl, inr, ℕ, ◌+◌, ◌<◌, ◌≤◌, ◌^◌, Option, Some, None, IsSome, is_some, refl, sym, ap, subst, ◌∙◌}
use Rattle.std.proofs.lemmas.Bool.{false≢true}
use Rattle.std.specs.Ordering.{nat_cmp}
use Rattle.std.specs.FinMap as map
use Rattle.std.specs.FinMap.{get-empty, len-empty}
use Rattle.ebs_model.specs.declared.array.Block.{Block}
use Rattle.ebs_lineage.specs.declared.node.Node.{Node}
use Rattle.ebs_lineage.specs.declared.place.Place.{Place}
use Rattle.ebs_lineage.specs.Owned.{Blocks}
use Rattle.ebs_lineage.specs.Table.{NodeMap}
use Rattle.ebs_lineage.specs.Places.{Places}
use Rattle.ebs_lineage.specs.Lines.{Lines, IsFree, IsHeld, own, own_of}
use Rattle.ebs_lineage.proofs.Changes.{same_or, insert-here, insert-other}
use Rattle.ebs_collect.specs.Stack.{waiting_in}
use Rattle.ebs_collect.specs.Backlogs.{Queue, from_index, IsPlace, IsLinked, IsWaiting, IsLoose}
use Rattle.ebs_collect.specs.Steps.{IsAdded}
use Rattle.ebs_collect.proofs.Maps.{none_some, some_same, some_of}
use Rattle.ebs_collect.proofs.Chains.{pushed-stack, moved-stack}
use Rattle.ebs_collect.proofs.Sums.{added-waiting, moved-waiting, without-waiting, total-few}
use Rattle.ebs_collect.proofs.Counts.{from-within, from-zero}

-- what stands in a node that keeps a block
pub node-there : (nodes : NodeMap) (n i : ℕ) (b : Block) → map.get (own nodes n) i ≡ Some b → IsSome (map.get nodes n)
node-there nodes n i b e = by (map.get nodes n) e
  where
    by : (o : Option Node) → map.get (own_of o) i ≡ Some b → IsSome o
    by None h = none_some b (sym (get-empty nat_cmp i) ∙ h)
    by (Some x) h = refl

pub node-counted : (nodes : NodeMap) (n : ℕ) → (map.len (own nodes n) ≡ 0 → ⊥) → IsSome (map.get nodes n)
node-counted nodes n some = by (map.get nodes n) some
  where
    by : (o : Option Node) → (map.len (own_of o) ≡ 0 → ⊥) → IsSome o
    by None h = absurd (h (len-empty nat_cmp Block))
    by (Some x) h = refl

pub not-both : (nodes : NodeMap) (n : ℕ) → IsFree nodes n → IsHeld nodes n → ⊥
not-both nodes n (x, is, free) (y, at, held) = false≢true (sym free ∙ ap (λ (z : Node). z.is_held) (some_same x y (sym is ∙ at)) ∙ held)

-- the number of blocks that wait has 128 bits
pub few-wait : (places : Places) → ((n : ℕ) (p : Place) → map.get places n ≡ Some p → (n < 2 ^ 64) × (p.left < 2 ^ 64)) → waiting_in places < 2 ^ 128
few-wait places within = total-few (λ (p : Place). p.left) places within

module _ (q : Queue) (l : Lines) (linked : IsLinked q l) (n : ℕ) (v : Place) where
  abbrev with_place : Lines
  with_place = record l { places = map.insert l.places n v }

  module _ (good : IsPlace l.table.nodes n v) where
    each : (k : ℕ) (p : Place) → map.get (map.insert l.places n v) k ≡ Some p → IsPlace l.table.nodes k p
    each k p e = elim (same_or k n) [
      | inl s ↦
          let is : v ≡ p = some_same v p (sym (insert-here l.places n v) ∙ ap (map.get (map.insert l.places n v)) (sym s) ∙ e) in
          subst (λ (x : ℕ × Place). IsPlace l.table.nodes x.0 x.1) (λ i. (sym s i, is i)) good
      | inr off ↦ linked.each k p (sym (insert-other l.places n v k off) ∙ e)
    ]

    pub few-placed : ((k : ℕ) → IsSome (map.get l.table.nodes k) → k < 2 ^ 64) → waiting_in (map.insert l.places n v) < 2 ^ 128
    few-placed numbers = few-wait (map.insert l.places n v) (λ k p e. let place = each k p e in (numbers k (ap is_some place.free.1), place.few))

    module _ (from : v.from ≡ 0) where
      pub placed-to : (k i : ℕ) → IsWaiting with_place k i → IsWaiting l k i ⊎ ((k ≡ n) × IsLoose l.table.nodes k i)
      placed-to k i w = elim (same_or k n) [
        | inl s ↦ inr (s, record { free = subst (IsFree l.table.nodes) (sym s) good.free; kept = w.kept })
        | inr off ↦ inl (record { place = w.place; here = sym (insert-other l.places n v k off) ∙ w.here; reached = w.reached; kept = w.kept })
      ]

      reaches : (i : ℕ) → v.from ≤ i
      reaches i = omega arith

      waits_here : (k i : ℕ) → k ≡ n → IsSome (map.get (own l.table.nodes k) i) → IsWaiting with_place k i
      waits_here k i s kept = record { place = v; here = ap (map.get (map.insert l.places n v)) s ∙ insert-here l.places n v; reached = reaches i; kept = kept }

      pub placed-from : (k i : ℕ) → IsWaiting l k i ⊎ ((k ≡ n) × IsLoose l.table.nodes k i) → IsWaiting with_place k i
      placed-from k i (inl w) = elim (same_or k n) [
        | inl s ↦ waits_here k i s w.kept
        | inr off ↦ record { place = w.place; here = insert-other l.places n v k off ∙ w.here; reached = w.reached; kept = w.kept }
      ]
      placed-from k i (inr (s, loose)) = waits_here k i s loose.kept

      -- by a push, or where it stands
      pub pushed-added : map.get l.places n ≡ None → v.next ≡ q.first → (w : ℕ) → w ≡ q.waiting + v.left → IsAdded q l n (record { first = Some n; waiting = w }) with_place
      pushed-added new next w e = record {
        linked = record {
          stack = pushed-stack l.places q.first linked.stack n v new next;
          each = each;
          count = e ∙ ap (λ (k : ℕ). k + v.left) linked.count ∙ sym (added-waiting l.places n v new);
        };
        lines = refl;
        to = placed-to;
        from = placed-from;
        grows = omega (arith, e);
      }

      -- as many as it was, or more
      fewer : (p : Place) → map.get l.places n ≡ Some p → p.left ≤ v.left
      fewer p here =
          let blocks : Blocks = own l.table.nodes n in
          let whole : map.len (from_index blocks v.from) ≡ map.len blocks = ap (λ (i : ℕ). map.len (from_index blocks i)) from ∙ ap map.len (from-zero blocks) in
          let was = (linked.each n p here).left in
          let is = good.left in
          omega (arith, was, is, whole, from-within blocks p.from)

      pub moved-added : (p : Place) → map.get l.places n ≡ Some p → v.next ≡ p.next → (w : ℕ) → w + p.left ≡ q.waiting + v.left → IsAdded q l n (record { first = q.first; waiting = w }) with_place
      moved-added p here next w e = record {
        linked = record {
          stack = moved-stack l.places q.first linked.stack n v p here next;
          each = each;
          count =
              let a : w + p.left ≡ waiting_in l.places + v.left = e ∙ ap (λ (k : ℕ). k + v.left) linked.count in
              let b : waiting_in (map.insert l.places n v) + p.left ≡ waiting_in l.places + v.left = moved-waiting l.places n p v here in
              omega arith;
        };
        lines = refl;
        to = placed-to;
        from = placed-from;
        grows = omega (arith, e, fewer p here);
      }

-- so many blocks of the node, from the first on
pub whole-place : (nodes : NodeMap) (n : ℕ) (v : Place) → IsFree nodes n → v.from ≡ 0 → v.left ≡ map.len (own nodes n) → 1 ≤ v.left → v.left < 2 ^ 64 → IsPlace nodes n v
whole-place nodes n v free from left some few = record {
  free = free;
  left = left ∙ sym (ap (λ (i : ℕ). map.len (from_index (own nodes n) i)) from ∙ ap map.len (from-zero (own nodes n)));
  some = some;
  few = few;
}

pub left-within : (q : Queue) (l : Lines) → IsLinked q l → (n : ℕ) (p : Place) → map.get l.places n ≡ Some p → p.left ≤ q.waiting
left-within q l linked n p here =
    let sum = without-waiting l.places n p here in
    let count = linked.count in
    omega (arith, sum, count)

-- a node without blocks, or one that is held
pub nothing-added : (q : Queue) (l : Lines) (n : ℕ) → IsLinked q l → ((i : ℕ) → IsLoose l.table.nodes n i → ⊥) → IsAdded q l n q l
nothing-added q l n linked none = record {
  linked = linked;
  lines = refl;
  grows = omega arith;
  to = λ k i w. inl w;
  from = λ k i h. elim h [
    | inl w ↦ w
    | inr loose ↦ absurd (none i (subst (λ m. IsLoose l.table.nodes m i) loose.0 loose.1))
  ];
}

pub none-loose : (nodes : NodeMap) (n : ℕ) → map.len (own nodes n) ≡ 0 → (i : ℕ) → IsLoose nodes n i → ⊥
none-loose nodes n none i loose =
    let block = some_of (map.get (own nodes n) i) loose.kept in
    none_some block.0 (sym (ap (λ (m : Blocks). map.get m i) (map.empty_of_len (own nodes n) none) ∙ get-empty nat_cmp i) ∙ block.1)

pub held-loose : (nodes : NodeMap) (n : ℕ) → IsHeld nodes n → (i : ℕ) → IsLoose nodes n i → ⊥
held-loose nodes n held i loose = not-both nodes n loose.free held
