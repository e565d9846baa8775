-- What rises from each to the next is below all behind it.
use Rattle.std.proofs.Common.{◌≡◌, ℕ, ◌<◌, Bool, true, ◌&&◌, ltb, Less, Equal, Greater, Ordering, List, [], ◌∷◌, refl, arith}
use Rattle.std.proofs.lemmas.Bool.{and_parts}
use Rattle.std.proofs.lemmas.Bool.Decides.{nat_tests}
use Rattle.std.specs.Cmp.{ranks}
use Rattle.std.specs.Cmp.Derive.{both_true}
use Rattle.std.specs.List.{list_all}
use Rattle.std.specs.Ordering.{nat_cmp, is_lt, MatchOrdering}
use Rattle.ebs_checkpoints.specs.declared.nodes.NodeRow.{NodeRow}
use Rattle.ebs_checkpoints.specs.declared.nodes.EntryRow.{EntryRow}
use Rattle.ebs_checkpoints.specs.declared.nodes.CopyRow.{CopyRow}
use Rattle.ebs_checkpoints.specs.declared.nodes.SlotRow.{SlotRow}
use Rattle.ebs_checkpoints.specs.declared.snapshots.SnapPoint.{SnapPoint}
use Rattle.ebs_checkpoints.specs.declared.checkpoint.Checkpoint.{Checkpoint}
use Rattle.ebs_row_rules.specs.Order.{rises, is_ordered, has_ordered_rows, has_ordered_blocks, has_ordered_members, has_ordered_tokens, has_ordered_parts, has_ordered_entries}
use Rattle.ebs_row_rules.specs.Order as steps
use Rattle.ebs_node_rules.specs.inner.Nodes.{nodes_ascend}
use Rattle.ebs_node_rules.specs.inner.Nodes as pairs
use Rattle.ebs_node_rules.specs.inner.Arrays.{entries_ascend, copies_ascend}

lower : (a b : ℕ) → is_lt (nat_cmp a b) ≡ true → a < b
lower a b h = by (nat_cmp a b) (ranks a b) h
  where
    by : (r : Ordering) → MatchOrdering r (a < b) (a ≡ b) (b < a) → is_lt r ≡ true → a < b
    by Less m h = m
    by Equal m h = absurd cc
    by Greater m h = absurd cc

tested : (a b : ℕ) → a < b → ltb a b ≡ true
tested a b l = grind (arith, nat_tests)

module _ {X : Type 0} (key : X → ℕ) where
  above : (n : ℕ) (x : X) (xs : List X) → n < key x → rises (λ a b. is_lt (nat_cmp (key a) (key b))) (x ∷ xs) ≡ true → list_all (λ y. ltb n (key y)) (x ∷ xs) ≡ true
  above n x [] l h = both_true (tested n (key x) l) refl
  above n x (y ∷ ys) l h =
      let both = and_parts (is_lt (nat_cmp (key x) (key y))) (rises (λ a b. is_lt (nat_cmp (key a) (key b))) (y ∷ ys)) h in
      let next = lower (key x) (key y) both.0 in
      both_true (tested n (key x) l) (above n y ys (omega arith) both.1)

  pub pairwise : (xs : List X) → steps.ascends nat_cmp key xs ≡ true → pairs.ascends key xs ≡ true
  pairwise [] h = refl
  pairwise (x ∷ []) h = refl
  pairwise (x ∷ y ∷ ys) h =
      let both = and_parts (is_lt (nat_cmp (key x) (key y))) (rises (λ a b. is_lt (nat_cmp (key a) (key b))) (y ∷ ys)) h in
      both_true (above (key x) y ys (lower (key x) (key y) both.0) both.1) (pairwise (y ∷ ys) both.1)

each : {X : Type 0} (p q : X → Bool) → ((x : X) → p x ≡ true → q x ≡ true) → (xs : List X) → list_all p xs ≡ true → list_all q xs ≡ true
each p q f [] h = refl
each p q f (x ∷ xs) h = let both = and_parts (p x) (list_all p xs) h in both_true (f x both.0) (each p q f xs both.1)

members_of : (point : Checkpoint) → is_ordered point ≡ true → has_ordered_members point ≡ true
members_of point h = (and_parts (has_ordered_blocks point) (has_ordered_members point) (and_parts (has_ordered_rows point) (has_ordered_blocks point && has_ordered_members point) h).1).1

blocks_of : (point : Checkpoint) → is_ordered point ≡ true → has_ordered_blocks point ≡ true
blocks_of point h = (and_parts (has_ordered_blocks point) (has_ordered_members point) (and_parts (has_ordered_rows point) (has_ordered_blocks point && has_ordered_members point) h).1).0

second : (a b c : Bool) → (a && (b && c)) ≡ true → b ≡ true
second a b c h = (and_parts b c (and_parts a (b && c) h).1).0

third : (a b c : Bool) → (a && (b && c)) ≡ true → c ≡ true
third a b c h = (and_parts b c (and_parts a (b && c) h).1).1

pub nodes_of : (point : Checkpoint) → is_ordered point ≡ true → nodes_ascend point.nodes ≡ true
nodes_of point h =
    let nodes = steps.ascends nat_cmp (λ (n : NodeRow). n.number) point.nodes in
    let standard = steps.ascends nat_cmp (λ (s : SlotRow). s.key) point.standard in
    let archive = steps.ascends nat_cmp (λ (s : SlotRow). s.key) point.archive in
    pairwise (λ (n : NodeRow). n.number) point.nodes (and_parts nodes (standard && archive) (blocks_of point h)).0

pub entries_of : (point : Checkpoint) → is_ordered point ≡ true → entries_ascend point.nodes ≡ true
entries_of point h =
    each has_ordered_entries (λ (n : NodeRow). pairs.ascends (λ (e : EntryRow). e.index) n.entries) (λ n. pairwise (λ (e : EntryRow). e.index) n.entries) point.nodes
    (third (list_all has_ordered_tokens point.accounts) (list_all has_ordered_parts point.snapshots) (list_all has_ordered_entries point.nodes) (members_of point h))

copies_rise : (row : SnapPoint) → has_ordered_parts row ≡ true → steps.ascends nat_cmp (λ (c : CopyRow). c.index) row.copies ≡ true
copies_rise row h = third (steps.ascends nat_cmp (λ n. n) row.put) (steps.ascends nat_cmp (λ n. n) row.shared) (steps.ascends nat_cmp (λ (c : CopyRow). c.index) row.copies) h

pub copies_of : (point : Checkpoint) → is_ordered point ≡ true → copies_ascend point.snapshots ≡ true
copies_of point h =
    each has_ordered_parts (λ (s : SnapPoint). pairs.ascends (λ (c : CopyRow). c.index) s.copies) (λ s up. pairwise (λ (c : CopyRow). c.index) s.copies (copies_rise s up)) point.snapshots
    (second (list_all has_ordered_tokens point.accounts) (list_all has_ordered_parts point.snapshots) (list_all has_ordered_entries point.nodes) (members_of point h))
