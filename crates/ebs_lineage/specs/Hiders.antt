-- The nodes that hide a block, by its place.
use Rattle.std.proofs.Common.{ℕ, Bool, Option, Some, None, IsSome, refl, ◌≡◌, ◌≤◌}
use Rattle.std.specs.declared.cmp.Ordering.{Ordering}
use Rattle.std.specs.Ordering.{nat_cmp, ordering_then}
use Rattle.std.specs.FinMap as map
use Rattle.std.specs.Coded.{Coded, code_by, coded×, coded_bool}
use base.Stored.{coded_unit}
use Rattle.ebs_lineage.specs.declared.hiders.Hiding.{Hiding}
use Rattle.ebs_lineage.specs.contracts.hiders.Hiding as hiding

abbrev pub hiding_cmp : Hiding → Hiding → Ordering
hiding_cmp a b = ordering_then (nat_cmp a.node b.node) (ordering_then (nat_cmp a.index b.index) (nat_cmp a.by b.by))

abbrev pub Hidings : Type 0
Hidings = map.FinMap hiding_cmp (Unit {0})

-- and whether none was left out
pub record HiderTable : Type 0 where
  pub hidings : Hidings
  pub is_whole : Bool

abbrev pub hider_code : Coded HiderTable
hider_code = code_by (Hidings × Bool) (coded× (map.code hiding.the_row.coded coded_unit) coded_bool) (λ h. (h.hidings, h.is_whole)) (λ p. record { hidings = p.0; is_whole = p.1 }) (λ _. refl)

abbrev pub hiding_by : ℕ → ℕ → ℕ → Hiding
hiding_by node index by = record { node = node; index = index; by = by }

-- it is noted that a node hides the block at the place
abbrev pub Hides : HiderTable → ℕ → ℕ → ℕ → Type 0
Hides h node index by = IsSome (map.get h.hidings (hiding_by node index by))

-- the block at the place is hidden by one more
abbrev pub with_hiding : HiderTable → ℕ → ℕ → ℕ → HiderTable
with_hiding h node index by = record h { hidings = map.insert h.hidings (hiding_by node index by) tt }

abbrev pub without_hiding : HiderTable → ℕ → ℕ → ℕ → HiderTable
without_hiding h node index by = record h { hidings = map.remove h.hidings (hiding_by node index by) }

-- the earliest node at or behind the given one that is noted to hide the block
abbrev pub IsNextHider : HiderTable → ℕ → ℕ → ℕ → Option ℕ → Type 0
IsNextHider h node index from None = (c : ℕ) → Hides h node index c → from ≤ c → ⊥
IsNextHider h node index from (Some b) = Hides h node index b × (from ≤ b) × ((c : ℕ) → Hides h node index c → from ≤ c → b ≤ c)

-- nothing is noted that wasn't
abbrev pub AreFewer : HiderTable → HiderTable → Type 0
AreFewer old new = (n i c : ℕ) → Hides new n i c → Hides old n i c

-- what hides the block at the place isn't noted any more, and all else is as before
pub record IsForgotten (old new : HiderTable) (node index : ℕ) : Type 0 where
  pub whole : new.is_whole ≡ old.is_whole
  pub was : (n i c : ℕ) → Hides new n i c → Hides old n i c × ((n ≡ node) × (i ≡ index) → ⊥)
  pub stays : (n i c : ℕ) → Hides old n i c → ((n ≡ node) × (i ≡ index) → ⊥) → Hides new n i c
