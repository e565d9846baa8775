-- What the calls of a lineage leave of a backlog.
use Rattle.std.specs.Prelude.{◌≡◌, ℕ, ◌<◌, ◌^◌, Bool, false, true, IsSome}
use Rattle.std.specs.declared.option.Option.{Option}
use Rattle.std.specs.declared.option.Option.TheVariants.{None, Some}
use Rattle.std.specs.FinMap as map
use Rattle.ebs_model.specs.declared.array.Block.{Block}
use Rattle.ebs_lineage.specs.Table.{NodeMap, changed, closed_node, put_node, ready_node}
use Rattle.ebs_lineage.specs.Lines.{Lines, AreLines, IsFrozen, IsHeld, IsOpen, new_node, own, with_new, with_nodes}
use Rattle.ebs_lineage.specs.Live.{IsOnLine}
use Rattle.ebs_world.specs.declared.area.Area.{Area}
use Rattle.ebs_slots.specs.inner.Slots.{SlotTable, no_slots, released}
use Rattle.ebs_collect.specs.Backlogs.{Queue, IsLinked, IsHidden, Covers, CoversBut}
use Rattle.ebs_collect.specs.Slices.{IsCounted}

-- a hold is given up: what isn't covered stands on the node's line
abbrev pub DroppingLeavesItsLine : Type 0
DroppingLeavesItsLine = (q : Queue) (l : Lines) (n : ℕ) → IsHeld l.table.nodes n → IsLinked q l → Covers l →
    let nodes : NodeMap = changed l.table.nodes n (closed_node false) in
    IsLinked q (with_nodes l nodes) × CoversBut (with_nodes l nodes) (λ m i. IsOnLine nodes n m)

-- a block is put: what isn't covered is of the node whose block it hides
abbrev pub PuttingLeavesWhatItHides : Type 0
PuttingLeavesWhatItHides = (q : Queue) (l : Lines) (n index : ℕ) (block : Block) → AreLines l.table.nodes l.made → IsOpen l.table.nodes n → index < 2 ^ 32 → IsLinked q l → Covers l →
    let nodes : NodeMap = changed l.table.nodes n (put_node index block) in
    IsLinked q (with_nodes l nodes) × CoversBut (with_nodes l nodes) (λ m i. IsHidden nodes n index m)

-- a node is made, from none or from a frozen one
abbrev pub MakingCovers : Type 0
MakingCovers = (q : Queue) (l : Lines) (up : Option ℕ) → AreLines l.table.nodes l.made → ((p : ℕ) → up ≡ Some p → IsFrozen l.table.nodes p) → IsLinked q l → Covers l →
    IsLinked q (with_new l up) × Covers (with_new l up)

-- an open node is frozen
abbrev pub SealingCovers : Type 0
SealingCovers = (q : Queue) (l : Lines) (n : ℕ) → AreLines l.table.nodes l.made → IsOpen l.table.nodes n → IsLinked q l → Covers l →
    let nodes : NodeMap = changed l.table.nodes n (closed_node true) in
    IsLinked q (with_nodes l nodes) × Covers (with_nodes l nodes)

-- and a child of it is made
abbrev pub FreezingCovers : Type 0
FreezingCovers = (q : Queue) (l : Lines) (n : ℕ) → AreLines l.table.nodes l.made → IsOpen l.table.nodes n → IsLinked q l → Covers l →
    let m : Lines = with_nodes (with_new l (Some n)) (changed (with_new l (Some n)).table.nodes n (closed_node true)) in
    IsLinked q m × Covers m

-- an open child takes the place of a frozen node, which is given up: the child finds what the node found
abbrev pub ReopeningCovers : Type 0
ReopeningCovers = (q : Queue) (l : Lines) (n : ℕ) → AreLines l.table.nodes l.made → IsFrozen l.table.nodes n → IsHeld l.table.nodes n → IsLinked q l → Covers l →
    let m : Lines = with_nodes (with_new l (Some n)) (changed (with_new l (Some n)).table.nodes n (closed_node false)) in
    IsLinked q m × Covers m

-- room is kept for a block of an open node
abbrev pub RoomCovers : Type 0
RoomCovers = (q : Queue) (l : Lines) (n : ℕ) → AreLines l.table.nodes l.made → IsOpen l.table.nodes n → IsLinked q l → Covers l →
    let nodes : NodeMap = changed l.table.nodes n ready_node in
    IsLinked q (with_nodes l nodes) × Covers (with_nodes l nodes)

-- where each node keeps what it kept, the slots count the blocks as before
abbrev pub SameBlocksStayCounted : Type 0
SameBlocksStayCounted = (f g : NodeMap) (s : SlotTable) → ((n : ℕ) → own g n ≡ own f n) → IsCounted s f → IsCounted s g

-- and so it is where a node is closed, has room, or is made
abbrev pub ClosingKeepsBlocks : Type 0
ClosingKeepsBlocks = (nodes : NodeMap) (n : ℕ) (held : Bool) (m : ℕ) → own (changed nodes n (closed_node held)) m ≡ own nodes m

abbrev pub RoomKeepsBlocks : Type 0
RoomKeepsBlocks = (nodes : NodeMap) (n m : ℕ) → own (changed nodes n ready_node) m ≡ own nodes m

abbrev pub MakingKeepsBlocks : Type 0
MakingKeepsBlocks = (nodes : NodeMap) (made : ℕ) (up : Option ℕ) → AreLines nodes made → (m : ℕ) → own (map.insert nodes made (new_node up)) m ≡ own nodes m

-- nothing is there, and nothing waits
abbrev pub NothingIsCovered : Type 0
NothingIsCovered = (spare made : ℕ) (area : Area) →
    let l : Lines = record { table = record { nodes = map.empty; spare = spare }; made = made; places = map.empty } in
    IsLinked (record { first = None; waiting = 0 }) l × Covers l × IsCounted (no_slots area) l.table.nodes

-- the slots without the block that one replaces
abbrev pub without_old : SlotTable → Option Block → SlotTable
without_old s None = s
without_old s (Some old) = released s old.stamp

-- a block is put whose stamp is new and has a slot now, and the one that it replaces is given up
abbrev pub PuttingKeepsCounted : Type 0
PuttingKeepsCounted = (s t : SlotTable) (nodes : NodeMap) (n index slot : ℕ) (block : Block) → IsCounted s nodes → IsSome (map.get nodes n) → map.get s.keys block.stamp ≡ None →
    t.keys ≡ map.insert s.keys block.stamp slot → t.counts ≡ map.insert s.counts block.stamp 1 → IsCounted (without_old t (map.get (own nodes n) index)) (changed nodes n (put_node index block))
