-- The nodes of a checkpoint: what each stands on, and which rows name them.
use Rattle.std.specs.Prelude.{ℕ, Bool, true, false, not, ◌&&◌, ◌||◌, ◌==◌, nat_lt, List, ◌∷◌, ◌++◌, map, []}
use Rattle.std.specs.declared.option.Option.{Option}
use Rattle.std.specs.declared.option.Option.TheVariants.{None, Some}
use Rattle.std.specs.Option.{is_some}
use Rattle.std.specs.List.{list_all, list_any, find, filter_map}
use Rattle.ebs_checkpoints.specs.declared.nodes.NodeRow.{NodeRow}
use Rattle.ebs_checkpoints.specs.declared.owned.VolPoint.{VolPoint}
use Rattle.ebs_checkpoints.specs.declared.snapshots.SnapPoint.{SnapPoint}
use Rattle.ebs_checkpoints.specs.declared.checkpoint.Checkpoint.{Checkpoint}

-- the node that is named so, where it is listed
abbrev pub node_of : List NodeRow → Option ℕ → Option NodeRow
node_of nodes None = None
node_of nodes (Some number) = find (λ node. node.number == number) nodes

abbrev pub is_open : Option NodeRow → Bool
is_open None = false
is_open (Some node) = node.writable

abbrev pub is_closed : Option NodeRow → Bool
is_closed None = false
is_closed (Some node) = not node.writable

abbrev pub stands : List NodeRow → ℕ → Option ℕ → Bool
stands nodes number None = true
stands nodes number (Some parent) = nat_lt parent number && is_closed (node_of nodes (Some parent))

-- a parent is listed, has a smaller number and isn't open
abbrev pub has_parent : List NodeRow → NodeRow → Bool
has_parent nodes node = stands nodes node.number node.parent

abbrev pub have_parents : List NodeRow → Bool
have_parents nodes = list_all (has_parent nodes) nodes

-- the nodes that rows name: of snapshots, then of volumes
abbrev pub names : List SnapPoint → List VolPoint → List ℕ
names snapshots volumes = filter_map (λ snapshot. snapshot.node) snapshots ++ map (λ volume. volume.node) volumes

abbrev pub is_among : List ℕ → ℕ → Bool
is_among numbers number = list_any (λ n. n == number) numbers

-- none stands twice
abbrev pub are_distinct : List ℕ → Bool
are_distinct [] = true
are_distinct (number ∷ numbers) = not (is_among numbers number) && are_distinct numbers

-- each that is named is listed
abbrev pub are_listed : List NodeRow → List ℕ → Bool
are_listed nodes numbers = list_all (λ number. is_some (node_of nodes (Some number))) numbers

-- a volume is written
abbrev pub are_writable : List NodeRow → List VolPoint → Bool
are_writable nodes volumes = list_all (λ volume. is_open (node_of nodes (Some volume.node))) volumes

-- each node that is open is named
abbrev pub open_are_named : List NodeRow → (ℕ → Bool) → Bool
open_are_named nodes named = list_all (λ node. not node.writable || named node.number) nodes

-- on what nodes stand
abbrev pub parents : List NodeRow → List ℕ
parents nodes = filter_map (λ node. node.parent) nodes

-- each node is named, or another stands on it; so each is named or is an ancestor of one that is
abbrev pub are_needed : List NodeRow → (ℕ → Bool) → (ℕ → Bool) → Bool
are_needed nodes named bears = list_all (λ node. named node.number || bears node.number) nodes

-- the nodes are trees, all of which lead to what is named
abbrev pub leads : List NodeRow → List VolPoint → List ℕ → (ℕ → Bool) → (ℕ → Bool) → Bool
leads nodes volumes numbers named bears = have_parents nodes
    && (are_distinct numbers
    && (are_listed nodes numbers
    && (are_writable nodes volumes
    && (open_are_named nodes named
    && are_needed nodes named bears))))

abbrev pub is_forest : Checkpoint → Bool
is_forest point = let numbers = names point.snapshots point.volumes in
    leads point.nodes point.volumes numbers (is_among numbers) (is_among (parents point.nodes))
