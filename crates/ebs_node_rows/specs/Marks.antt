-- Which of a lineage's nodes are named, and which are marked.
use Rattle.std.specs.Prelude.{◌≡◌, ℕ, ◌⊎◌, true, Some, IsSome}
use Rattle.std.specs.Ordering.{nat_cmp}
use Rattle.std.specs.FinMap as map
use Rattle.ebs_lineage.specs.Table.{NodeMap}
use Rattle.ebs_lineage.specs.Lines.{parent_of}
use Rattle.ebs_lineage.specs.Live.{IsOnLine}

-- numbers that are marked
abbrev pub Set : Type 0
Set = map.FinMap nat_cmp (Unit {0})

abbrev pub IsIn : Set → ℕ → Type 0
IsIn set number = map.contains_key set number ≡ true

-- each number that is named is that of a node
abbrev pub AreThere : NodeMap → Set → Type 0
AreThere nodes named = (number : ℕ) → IsIn named number → IsSome (map.get nodes number)

-- a node that is named, or an ancestor of one
abbrev pub IsWanted : NodeMap → Set → ℕ → Type 0
IsWanted nodes named number = (name : ℕ) × IsIn named name × IsOnLine nodes name number

-- just the nodes that are named and their ancestors
pub record AreMarked (nodes : NodeMap) (named set : Set) : Type 0 where
  pub wanted : (number : ℕ) → IsIn set number → IsWanted nodes named number
  pub each : (number : ℕ) → IsWanted nodes named number → IsIn set number

-- the numbers are those of nodes, whose parents are among them
pub record HaveParents (nodes : NodeMap) (set : Set) : Type 0 where
  pub there : AreThere nodes set
  pub up : (number parent : ℕ) → IsIn set number → parent_of nodes number ≡ Some parent → IsIn set parent

-- such numbers are marked now, and no others more
pub record Marks (more : ℕ → Type 0) (old new : Set) : Type 0 where
  pub marked : (number : ℕ) → more number → IsIn new number
  pub stays : (number : ℕ) → IsIn old number → IsIn new number
  pub others : (number : ℕ) → IsIn new number → IsIn old number ⊎ more number
