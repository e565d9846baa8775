-- Beside what is promised: the nodes of a checkpoint.
use Rattle.std.specs.Prelude.{ℕ, zero, suc, ◌≡◌, Bool, true, ◌&&◌, nat_lt, List, ◌∷◌, []}
use Rattle.std.specs.declared.option.Option.{Option}
use Rattle.std.specs.declared.option.Option.TheVariants.{None, Some}
use Rattle.std.specs.List.{list_all, All}
use Rattle.ebs_checkpoints.specs.declared.nodes.NodeRow.{NodeRow}
use Rattle.ebs_checkpoints.specs.declared.checkpoint.Checkpoint.{Checkpoint}
use Rattle.ebs_node_rules.specs.Nodes.{are_needed, is_among, names, node_of, parents}

-- each key is below those behind it
abbrev pub ascends : {X : Type 0} → (X → ℕ) → List X → Bool
ascends key [] = true
ascends key (x ∷ xs) = list_all (λ y. nat_lt (key x) (key y)) xs && ascends key xs

abbrev pub nodes_ascend : List NodeRow → Bool
nodes_ascend nodes = ascends (λ node. node.number) nodes

abbrev pub parent_of : Option NodeRow → Option ℕ
parent_of None = None
parent_of (Some node) = node.parent

-- the ancestor of a node, so many steps up
abbrev pub ancestor : List NodeRow → ℕ → ℕ → Option ℕ
ancestor nodes number zero = Some number
ancestor nodes number (suc steps) = parent_of (node_of nodes (ancestor nodes number steps))

-- the node is a named one or an ancestor of one
abbrev pub BearsName : List NodeRow → List ℕ → ℕ → Type 0
BearsName nodes numbers number = (name : ℕ) × (steps : ℕ) × (is_among numbers name ≡ true) × (ancestor nodes name steps ≡ Some number)

abbrev pub EachBearsName : Checkpoint → Type 0
EachBearsName point = All (λ node. BearsName point.nodes (names point.snapshots point.volumes) node.number) point.nodes

abbrev pub needs_each : Checkpoint → Bool
needs_each point = are_needed point.nodes (is_among (names point.snapshots point.volumes)) (is_among (parents point.nodes))
