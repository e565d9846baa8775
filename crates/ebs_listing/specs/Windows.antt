-- Blocks of a node's array that are laid ready for a page.
use Rattle.std.specs.Prelude.{◌≡◌, ℕ, ◌<◌, ◌≤◌, ◌^◌, Some}
use Rattle.std.specs.FinMap as map
use Rattle.ebs_model.specs.declared.array.Block.{Block}
use Rattle.ebs_lineage.specs.Owned.{Blocks, or_else}
use Rattle.ebs_lineage.specs.Table.{NodeMap}
use Rattle.ebs_lineage.specs.Lines.{array, of_parent, parent_of}
use Rattle.ebs_listing.specs.declared.window.Window.{Window}

-- each block is below the end
pub record IsBounded (w : Window) : Type 0 where
  pub within : (q : ℕ) (b : Block) → map.get w.blocks q ≡ Some b → q < w.end
  pub top : w.end ≤ 2 ^ 32

-- from the start to the end these are the array's
pub record IsWindow (blocks : Blocks) (start : ℕ) (w : Window) : Type 0 where
  pub bounded : IsBounded w
  pub same : (q : ℕ) → start ≤ q → q < w.end → map.get w.blocks q ≡ map.get blocks q

-- the blocks below an end that may be lower
pub record IsPart (old new : Window) : Type 0 where
  pub bounded : IsBounded new
  pub lower : new.end ≤ old.end
  pub same : (q : ℕ) → q < new.end → map.get new.blocks q ≡ map.get old.blocks q

-- one block more, unless there was one
pub record AddsOne (index : ℕ) (block : Block) (old new : Blocks) : Type 0 where
  pub here : map.get new index ≡ or_else (map.get old index) (Some block)
  pub others : (q : ℕ) → (q ≡ index → ⊥) → map.get new q ≡ map.get old q

-- what a node's parent has
abbrev pub above : NodeMap → ℕ → Blocks
above nodes n = of_parent (parent_of nodes n) (array nodes)

-- the window over the parent's array is now what it was over the node's
pub record LaysUnder (nodes : NodeMap) (n start : ℕ) (old new : Window) : Type 0 where
  pub bounded : IsBounded new
  pub lower : new.end ≤ old.end
  pub laid : (q : ℕ) → start ≤ q → q < new.end → or_else (map.get new.blocks q) (map.get (above nodes n) q) ≡ or_else (map.get old.blocks q) (map.get (array nodes n) q)
