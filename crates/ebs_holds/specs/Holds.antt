-- Nodes that snapshots and volumes have, and the arrays that they are.
use Rattle.std.specs.Prelude.{◌≡◌, ℕ, ◌+◌, ◌≤◌, ◌^◌, Bool, refl}
use Rattle.std.specs.declared.option.Option.{Option}
use Rattle.std.specs.declared.option.Option.TheVariants.{None, Some}
use Rattle.std.specs.FinMap as map
use Rattle.std.specs.Coded.{Coded, code_by, coded×, coded_option}
use Rattle.ebs_tables.specs.Full.{full}
use Rattle.ebs_lineage.specs.declared.node_id.NodeId.{NodeId}
use Rattle.ebs_lineage.specs.contracts.node_id.NodeId as node_id
use Rattle.ebs_lineage.specs.Owned.{Blocks}
use Rattle.ebs_lineage.specs.Table.{NodeMap}
use Rattle.ebs_lineage.specs.Lines.{Lines, lines_code, AreLines, IsFrozen, IsHeld, IsOpen, array, put_spare}
use Rattle.ebs_collect.specs.Backlogs.{Queue, queue_code}
use Rattle.ebs_holds.specs.declared.holder.Holder.{Holder}
use Rattle.ebs_holds.specs.contracts.holder.Holder as holder
use Rattle.ebs_holds.specs.Holders.{holder_cmp}

-- the node of each holder, and what is ready to have one
abbrev pub HeldBy : Type 0
HeldBy = map.FinMap holder_cmp NodeId

abbrev pub Slots : Type 0
Slots = map.FinMap holder_cmp (Option NodeId)

abbrev pub array_of_node : NodeMap → Option NodeId → Blocks
array_of_node nodes None = map.empty
array_of_node nodes (Some n) = array nodes n.number

-- the array of a holder; without a node there are no blocks
abbrev pub array_at : NodeMap → HeldBy → Holder → Blocks
array_at nodes held q = array_of_node nodes (map.get held q)

-- each node that is held is one holder's, and a holder's node is held
pub record AreHeld (nodes : NodeMap) (made : ℕ) (held : HeldBy) : Type 0 where
  pub lines : AreLines nodes made
  pub apart : (a b : Holder) (n : NodeId) → map.get held a ≡ Some n → map.get held b ≡ Some n → a ≡ b
  pub there : (q : Holder) (n : NodeId) → map.get held q ≡ Some n → IsHeld nodes n.number
  pub only : (n : NodeId) → IsHeld nodes n.number → (q : Holder) × (map.get held q ≡ Some n)

-- the nodes, which holder has which of them, and what waits that nobody finds any more
pub record Holding : Type 0 where
  pub lines : Lines
  pub slots : Slots
  pub queue : Queue

abbrev pub holding_code : Coded Holding
holding_code = code_by (Lines × (Slots × Queue)) (coded× lines_code (coded× (map.code holder.the_row.coded (coded_option node_id.the_row.coded)) queue_code)) (λ h. (h.lines, (h.slots, h.queue))) (λ p. record { lines = p.0; slots = p.1.0; queue = p.1.1 }) (λ _. refl)

abbrev pub nodes_in : Holding → NodeMap
nodes_in h = h.lines.table.nodes

abbrev pub held_in : Holding → HeldBy
held_in h = full h.slots

-- the array of a holder
abbrev pub blocks_at : Holding → Holder → Blocks
blocks_at h q = array_at (nodes_in h) (held_in h) q

-- what begins from a holder, or from none
abbrev pub begun : Holding → Option Holder → Blocks
begun h None = map.empty
begun h (Some source) = blocks_at h source

-- the holder is ready to have a node
abbrev pub is_ready : Holding → Holder → Bool
is_ready h q = map.contains_key h.slots q

-- so many nodes can be made without memory
pub record HasNodes (h : Holding) (count : ℕ) : Type 0 where
  pub spare : count ≤ h.lines.table.spare
  pub few : h.lines.made + count ≤ 2 ^ 62

-- a block can be put into the holder's array without memory
pub record CanPut (h : Holding) (q : Holder) : Type 0 where
  pub node : NodeId
  pub has : map.get (held_in h) q ≡ Some node
  pub is_open : IsOpen (nodes_in h) node.number
  pub spare : 1 ≤ put_spare (nodes_in h) node.number

-- the holder's node, into which blocks are put
abbrev pub HasOpen : Holding → Holder → Type 0
HasOpen h q = (n : NodeId) × (map.get (held_in h) q ≡ Some n) × IsOpen (nodes_in h) n.number

-- and one into which none are put any more
abbrev pub HasClosed : Holding → Holder → Type 0
HasClosed h q = (n : NodeId) × (map.get (held_in h) q ≡ Some n) × IsFrozen (nodes_in h) n.number

-- a holder's node stays open, or stays closed
pub record KeepsNode (old new : Holding) (q : Holder) : Type 0 where
  pub is_open : HasOpen old q → HasOpen new q
  pub is_closed : HasClosed old q → HasClosed new q
