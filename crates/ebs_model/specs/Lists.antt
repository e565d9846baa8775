-- Which blocks an array has, and which differ between two (EBS direct APIs reference, ListSnapshotBlocks and
-- ListChangedBlocks). They are said of arrays of any kind of block, by the block's stamp.
use Rattle.std.specs.Prelude.{ℕ, List, nat_le, Option, Bool, true, false, not, ◌==◌, None, Some, ◌++◌, map, take, slice_get}
use Rattle.std.specs.List.{filter}
use Rattle.std.specs.Option.{option_map}
use Rattle.std.specs.Ordering.{nat_cmp}
use Rattle.std.specs.FinMap as fin

-- the blocks at an index or above it, in ascending index
abbrev pub from_index : {B : Type 0} → fin.FinMap nat_cmp B → ℕ → List (ℕ × B)
from_index array index = filter (λ e. nat_le index e.0) (fin.entries array)

-- an index with what two arrays have there
pub record Pair (B : Type 0) : Type 0 where
  pub index : ℕ
  pub first : Option B
  pub second : Option B

-- the stamps differ, or only one has a block
abbrev pub differ : {B : Type 0} → (B → ℕ) → Option B → Option B → Bool
differ stamp None None = false
differ stamp None (Some b) = true
differ stamp (Some a) None = true
differ stamp (Some a) (Some b) = not (stamp a == stamp b)

-- the indexes of either array, ascending and each once
abbrev pub either_keys : {B : Type 0} → fin.FinMap nat_cmp B → fin.FinMap nat_cmp B → List ℕ
either_keys first second = fin.keys (fin.from_entries {R = nat_cmp} (fin.entries first ++ fin.entries second))

-- where two arrays differ, at an index or above it, in ascending index
abbrev pub changed_from : {B : Type 0} → (B → ℕ) → fin.FinMap nat_cmp B → fin.FinMap nat_cmp B → ℕ → List (Pair B)
changed_from stamp first second index =
    filter (λ p. differ stamp p.first p.second)
    (map (λ i. record { index = i; first = fin.get first i; second = fin.get second i }) (filter (λ i. nat_le index i) (either_keys first second)))

-- the page is the first so many of a list, and the next page begins at what follows, where anything does
abbrev pub page_of : {E : Type 0} → ℕ → List E → List E
page_of most list = take most list

abbrev pub next_of : {E : Type 0} → (E → ℕ) → ℕ → List E → Option ℕ
next_of index most list = option_map index (slice_get list most)
