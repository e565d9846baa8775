-- The nodes that a checkpoint's rows name.
use Rattle.std.specs.Prelude.{◌≡◌, ℕ, true, List, IsSome}
use Rattle.std.specs.declared.option.Option.TheVariants.{Some}
use Rattle.std.specs.List.{AllByRecursion}
use Rattle.std.specs.FinMap as map
use Rattle.ebs_model.specs.declared.array.Block.{Block}
use Rattle.ebs_checkpoints.specs.declared.nodes.EntryRow.{EntryRow}
use Rattle.ebs_checkpoints.specs.declared.nodes.NodeRow.{NodeRow}
use Rattle.ebs_lineage.specs.declared.node.Node.{Node}
use Rattle.ebs_lineage.specs.Table.{NodeMap}
use Rattle.ebs_lineage.specs.Lines.{array, own}
use Rattle.ebs_node_rules.specs.Nodes.{is_among, node_of}
use Rattle.ebs_node_rules.specs.Arrays.{arrays_of}
use Rattle.ebs_node_rules.specs.inner.Lookups.{AreChained}
use Rattle.ebs_node_rows.specs.Rows.{AreNeeded}
use Rattle.ebs_kept.specs.Stamps.{Digests}
use Rattle.ebs_point_rules.specs.Values.{HasNodeValues}
use Rattle.ebs_point.specs.Live.{is_live}

-- each of these is the number of a node
abbrev pub AreThere : NodeMap → List ℕ → Type 0
AreThere nodes named = (number : ℕ) → is_among named number ≡ true → IsSome (map.get nodes number)

-- and each block that is found there has the digest of its stamp
abbrev pub AreLive : NodeMap → List ℕ → Digests → Type 0
AreLive nodes named digests = (number : ℕ) → is_among named number ≡ true → (index : ℕ) (block : Block) → map.get (array nodes number) index ≡ Some block → is_live digests (record { index = index; block = block }) ≡ true

-- the node has a row, which is open where it is
pub record HasRow (nodes : NodeMap) (rows : List NodeRow) (number : ℕ) : Type 0 where
  pub row : NodeRow
  pub node : Node
  pub found : node_of rows (Some number) ≡ Some row
  pub is : map.get nodes number ≡ Some node
  pub written : row.writable ≡ node.is_open

-- a node keeps the entry's block at its index, and the block has the digest of its stamp
pub record IsEntryOf (nodes : NodeMap) (digests : Digests) (entry : EntryRow) : Type 0 where
  pub node : ℕ
  pub there : map.get (own nodes node) entry.index ≡ Some entry.block
  pub live : is_live digests entry ≡ true

abbrev pub HasEntriesOf : NodeMap → Digests → NodeRow → Type 0
HasEntriesOf nodes digests row = AllByRecursion (IsEntryOf nodes digests) row.entries

-- the rows are those of the named nodes and of what these stand on, with such entries, and each named one has its array
pub record AreNodesOf (nodes : NodeMap) (named : List ℕ) (digests : Digests) (rows : List NodeRow) : Type 0 where
  pub each : (number : ℕ) → is_among named number ≡ true → HasRow nodes rows number
  pub chained : AreChained rows
  pub arrays : (number : ℕ) → is_among named number ≡ true → map.get (arrays_of rows) number ≡ Some (array nodes number)
  pub needed : AreNeeded rows (is_among named)
  pub entries : AllByRecursion (HasEntriesOf nodes digests) rows
  pub values : AllByRecursion HasNodeValues rows
