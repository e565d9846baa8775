-- A lineage that stands for a checkpoint's nodes.
use Rattle.std.specs.Prelude.{◌≡◌, ℕ, ◌+◌, Bool, true, false, List, IsSome}
use Rattle.std.specs.declared.option.Option.{Option}
use Rattle.std.specs.declared.option.Option.TheVariants.{None, Some}
use Rattle.std.specs.Option.{option_map}
use Rattle.std.specs.Ordering.{nat_cmp}
use Rattle.std.specs.FinMap as map
use Rattle.ebs_checkpoints.specs.declared.nodes.EntryRow.{EntryRow}
use Rattle.ebs_checkpoints.specs.declared.nodes.NodeRow.{NodeRow}
use Rattle.ebs_collect.specs.Backlogs.{IsPlacesAlone}
use Rattle.ebs_lineage.specs.declared.node.Node.{Node}
use Rattle.ebs_lineage.specs.Table.{NodeMap, changed, closed_node}
use Rattle.ebs_lineage.specs.Lines.{Lines, IsFrozen, IsHeld, KeepsOthers, array, of_parent, with_nodes}
use Rattle.ebs_node_rules.specs.Nodes.{node_of}
use Rattle.ebs_node_rules.specs.Arrays.{Arrays, arrays_of, with_entries}

-- the number that each of a checkpoint's nodes has in the lineage
abbrev pub Numbers : Type 0
Numbers = map.FinMap nat_cmp ℕ

abbrev pub up : Numbers → Option ℕ → Option ℕ
up numbers None = None
up numbers (Some number) = map.get numbers number

-- the parents are the same node
abbrev pub AreAlike : Numbers → Option ℕ → Option ℕ → Type 0
AreAlike numbers None None = Unit {0}
AreAlike numbers None (Some n) = ⊥
AreAlike numbers (Some number) None = ⊥
AreAlike numbers (Some number) (Some n) = map.get numbers number ≡ Some n

-- a node is there for the row of a number: its entries alone are its own, its parent is the row's, it is open where the row is written
pub record IsGrown (numbers : Numbers) (nodes : NodeMap) (held : Bool) (number : ℕ) (row : NodeRow) : Type 0 where
  pub made : ℕ
  pub node : Node
  pub numbered : map.get numbers number ≡ Some made
  pub is : map.get nodes made ≡ Some node
  pub own : node.own.blocks ≡ with_entries map.empty row.entries
  pub parent : AreAlike numbers row.parent node.parent
  pub written : node.is_open ≡ row.writable
  pub kept : node.is_held ≡ held

-- the nodes that have numbers have the arrays that belong to these
abbrev pub HaveArrays : Numbers → NodeMap → Arrays → Type 0
HaveArrays numbers nodes arrays = (number : ℕ) → option_map (array nodes) (map.get numbers number) ≡ map.get arrays number

-- the node is that of a row
pub record IsOfRow (rows : List NodeRow) (numbers : Numbers) (n : ℕ) : Type 0 where
  pub number : ℕ
  pub row : NodeRow
  pub found : node_of rows (Some number) ≡ Some row
  pub numbered : map.get numbers number ≡ Some n

-- each row has its node, with the array that the rows give it, and each node is that of one row
pub record IsRegrown (rows : List NodeRow) (held : ℕ → Bool) (numbers : Numbers) (lineage : Lines) : Type 0 where
  pub each : (number : ℕ) (row : NodeRow) → node_of rows (Some number) ≡ Some row → IsGrown numbers lineage.table.nodes (held number) number row
  pub arrays : HaveArrays numbers lineage.table.nodes (arrays_of rows)
  pub listed : (n : ℕ) → IsSome (map.get lineage.table.nodes n) → IsOfRow rows numbers n
  pub apart : (a b n : ℕ) → map.get numbers a ≡ Some n → map.get numbers b ≡ Some n → a ≡ b

-- Steps of it.

abbrev pub IsParent : Numbers → NodeMap → Option ℕ → Type 0
IsParent numbers nodes None = Unit {0}
IsParent numbers nodes (Some number) = (n : ℕ) × (map.get numbers number ≡ Some n) × IsFrozen nodes n × IsHeld nodes n

abbrev pub AreHeld : NodeMap → Option ℕ → Type 0
AreHeld nodes None = Unit {0}
AreHeld nodes (Some n) = IsHeld nodes n

abbrev pub IsDropped : Lines → Option ℕ → Lines → Type 0
IsDropped old None new = new ≡ old
IsDropped old (Some n) new = IsPlacesAlone (with_nodes old (changed old.table.nodes n (closed_node false))) new

-- nothing but the node changes
pub record IsBeside (old : Lines) (n : ℕ) (new : Lines) : Type 0 where
  pub made : new.made ≡ old.made
  pub places : new.places ≡ old.places
  pub others : (m : ℕ) → (m ≡ n → ⊥) → map.get new.table.nodes m ≡ map.get old.table.nodes m
  pub arrays : KeepsOthers old.table.nodes new.table.nodes n

-- the entries are put over what the node had
pub record IsFilled (old : Lines) (n : ℕ) (entries : List EntryRow) (new : Lines) : Type 0 where
  pub beside : IsBeside old n new
  pub array : array new.table.nodes n ≡ with_entries (array old.table.nodes n) entries
  pub node : (x : Node) → map.get old.table.nodes n ≡ Some x → (y : Node) × (map.get new.table.nodes n ≡ Some y)
      × (y.own.blocks ≡ with_entries x.own.blocks entries) × (y.parent ≡ x.parent) × (y.is_held ≡ x.is_held) × (y.is_open ≡ x.is_open)

-- the node stays open, or is frozen
pub record IsClosedBy (old : Lines) (n : ℕ) (writable : Bool) (new : Lines) : Type 0 where
  pub beside : IsBeside old n new
  pub array : array new.table.nodes n ≡ array old.table.nodes n
  pub node : (x : Node) → map.get old.table.nodes n ≡ Some x → (y : Node) × (map.get new.table.nodes n ≡ Some y)
      × (y.own.blocks ≡ x.own.blocks) × (y.parent ≡ x.parent) × (y.is_held ≡ true) × (y.is_open ≡ writable)

-- the next number is the row's
pub record IsAdded (old : Numbers) (before : Lines) (row : NodeRow) (new : Numbers) (after : Lines) : Type 0 where
  pub numbers : new ≡ map.insert old row.number before.made
  pub made : after.made ≡ before.made + 1
  pub places : after.places ≡ before.places
  pub others : (m : ℕ) → (m ≡ before.made → ⊥) → map.get after.table.nodes m ≡ map.get before.table.nodes m
  pub arrays : KeepsOthers before.table.nodes after.table.nodes before.made
  pub array : array after.table.nodes before.made ≡ with_entries (of_parent (up old row.parent) (array before.table.nodes)) row.entries
  pub node : (y : Node) × (map.get after.table.nodes before.made ≡ Some y)
      × (y.own.blocks ≡ with_entries map.empty row.entries) × (y.parent ≡ up old row.parent) × (y.is_held ≡ true) × (y.is_open ≡ row.writable)
