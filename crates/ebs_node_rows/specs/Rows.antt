-- The rows that a lineage's nodes are written as.
use Rattle.std.specs.Prelude.{◌≡◌, ℕ, ◌<◌, ◌^◌, Bool, true, nat_lt, List, IsSome}
use Rattle.std.specs.declared.option.Option.TheVariants.{Some}
use Rattle.std.specs.List.{list_all}
use Rattle.std.specs.FinMap as map
use Rattle.ebs_checkpoints.specs.declared.nodes.EntryRow.{EntryRow}
use Rattle.ebs_checkpoints.specs.declared.nodes.NodeRow.{NodeRow}
use Rattle.ebs_lineage.specs.declared.node.Node.{Node}
use Rattle.ebs_lineage.specs.Owned.{Blocks}
use Rattle.ebs_lineage.specs.Table.{NodeMap}
use Rattle.ebs_lineage.specs.Lines.{array}
use Rattle.ebs_node_rules.specs.Nodes.{are_needed, is_among, node_of, open_are_named, parents}
use Rattle.ebs_node_rules.specs.inner.Nodes.{ancestor, ascends, nodes_ascend}
use Rattle.ebs_node_rules.specs.Arrays.{arrays_of, with_entries}
use Rattle.ebs_node_rows.specs.Marks.{Set, IsIn, IsWanted}

abbrev pub IsListed : List NodeRow → ℕ → Type 0
IsListed rows number = IsSome (node_of rows (Some number))

-- just the nodes that are named and their ancestors have rows
pub record ListWanted (nodes : NodeMap) (named : Set) (rows : List NodeRow) : Type 0 where
  pub wanted : (number : ℕ) → IsListed rows number → IsWanted nodes named number
  pub each : (number : ℕ) → IsWanted nodes named number → IsListed rows number

-- the entries are the blocks, in ascending index, and each index has 32 bits
pub record AreEntriesOf (blocks : Blocks) (entries : List EntryRow) : Type 0 where
  pub own : with_entries map.empty entries ≡ blocks
  pub ascend : ascends (λ entry. entry.index) entries ≡ true
  pub small : list_all (λ entry. nat_lt entry.index (2 ^ 32)) entries ≡ true

-- the row is that of the node of a number: with its parent, open where it is, and with its own blocks
pub record IsRowOf (nodes : NodeMap) (number : ℕ) (row : NodeRow) : Type 0 where
  pub node : Node
  pub is : map.get nodes number ≡ Some node
  pub numbered : row.number ≡ number
  pub parent : row.parent ≡ node.parent
  pub written : row.writable ≡ node.is_open
  pub entries : AreEntriesOf node.own.blocks row.entries

abbrev pub AreRowsOf : NodeMap → List NodeRow → Type 0
AreRowsOf nodes rows = (number : ℕ) (row : NodeRow) → node_of rows (Some number) ≡ Some row → IsRowOf nodes number row

-- the number of each row is below another
abbrev pub are_below : ℕ → List NodeRow → Bool
are_below made rows = list_all (λ row. nat_lt row.number made) rows

-- the rows give each of their nodes its array
abbrev pub HaveArrays : NodeMap → List NodeRow → Type 0
HaveArrays nodes rows = (number : ℕ) → IsListed rows number → map.get (arrays_of rows) number ≡ Some (array nodes number)

-- each row's node is named, or an ancestor of a named one as the rows tell it
abbrev pub ReachEach : Set → List NodeRow → Type 0
ReachEach named rows = (number : ℕ) → IsListed rows number → (name : ℕ) × (steps : ℕ) × IsIn named name × (ancestor rows name steps ≡ Some number)

-- an open node has a name, and each has a name or has another upon it
pub record AreNeeded (rows : List NodeRow) (names : ℕ → Bool) : Type 0 where
  pub open_named : open_are_named rows names ≡ true
  pub needed : are_needed rows names (is_among (parents rows)) ≡ true

-- it is so where all that are named have names
abbrev pub NeedEach : Set → List NodeRow → Type 0
NeedEach named rows = (names : ℕ → Bool) → ((number : ℕ) → IsIn named number → names number ≡ true) → AreNeeded rows names

-- the rows of the marked nodes whose numbers are below another
pub record AreWritten (nodes : NodeMap) (set : Set) (at : ℕ) (rows : List NodeRow) : Type 0 where
  pub marked : (number : ℕ) → IsListed rows number → (number < at) × IsIn set number
  pub each : (number : ℕ) → number < at → IsIn set number → IsListed rows number
  pub rows_of : AreRowsOf nodes rows
  pub ascend : nodes_ascend rows ≡ true
  pub below : are_below at rows ≡ true
  pub arrays : HaveArrays nodes rows
