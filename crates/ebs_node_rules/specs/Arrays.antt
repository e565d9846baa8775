-- What stands at the indexes of nodes and of rows.
use Rattle.std.specs.Prelude.{ℕ, Bool, not, ◌&&◌, ◌||◌, ◌==◌, nat_eq, nat_lt, List, ◌∷◌, []}
use Rattle.std.specs.declared.option.Option.{Option}
use Rattle.std.specs.declared.option.Option.TheVariants.{None, Some}
use Rattle.std.specs.Option.{is_some, unwrap_or}
use Rattle.std.specs.Ordering.{nat_cmp}
use Rattle.std.specs.List.{list_all, list_any}
use Rattle.std.specs.FinMap as map
use Rattle.std.specs.Cmp.Lexicographic.{pointwise}
use Rattle.ebs_model.specs.declared.array.Block.{Block}
use Rattle.ebs_model.specs.Quotas.{blocks_of}
use Rattle.ebs_checkpoints.specs.declared.nodes.EntryRow.{EntryRow}
use Rattle.ebs_checkpoints.specs.declared.nodes.CopyRow.{CopyRow}
use Rattle.ebs_checkpoints.specs.declared.nodes.NodeRow.{NodeRow}
use Rattle.ebs_checkpoints.specs.declared.owned.VolPoint.{VolPoint}
use Rattle.ebs_checkpoints.specs.declared.snapshots.SnapPoint.{SnapPoint}
use Rattle.ebs_checkpoints.specs.declared.checkpoint.Checkpoint.{Checkpoint}
use Rattle.ebs_node_rules.specs.Nodes.{node_of, is_open}
use Rattle.ebs_node_rules.specs.States.{is_none_of, is_standard}

-- blocks by index
abbrev pub Array : Type 0
Array = map.FinMap nat_cmp Block

-- arrays by node
abbrev pub Arrays : Type 0
Arrays = map.FinMap nat_cmp Array

abbrev pub with_entries : Array → List EntryRow → Array
with_entries array [] = array
with_entries array (entry ∷ entries) = with_entries (map.insert array entry.index entry.block) entries

abbrev pub with_copies : Array → List CopyRow → Array
with_copies array [] = array
with_copies array (copy ∷ copies) = with_copies (map.insert array copy.index copy.block) copies

-- where no node is, the array is empty
abbrev pub array_in : Arrays → Option ℕ → Array
array_in arrays None = map.empty
array_in arrays (Some number) = unwrap_or (map.get arrays number) map.empty

-- the array of a node is its parent's, with its own entries in place
abbrev pub with_nodes : Arrays → List NodeRow → Arrays
with_nodes arrays [] = arrays
with_nodes arrays (node ∷ nodes) = with_nodes (map.insert arrays node.number (with_entries (array_in arrays node.parent) node.entries)) nodes

abbrev pub arrays_of : List NodeRow → Arrays
arrays_of nodes = with_nodes map.empty nodes

-- the array of a row is that of its node, with its copies
abbrev pub row_array : Arrays → SnapPoint → Array
row_array arrays snapshot = with_copies (array_in arrays snapshot.node) snapshot.copies

-- each index of the array passes the test
abbrev pub all_keys : (ℕ → Bool) → Array → Bool
all_keys test array = list_all test (map.keys array)

-- an image of so many GiB has each index of the array
abbrev pub is_within : ℕ → Array → Bool
is_within size array = all_keys (λ index. nat_lt index (blocks_of size)) array

abbrev pub is_same : Block → Block → Bool
is_same a b = a.stamp == b.stamp && pointwise nat_eq a.digest b.digest

-- of what the node has at a copy's index: the same block, and nothing only where the node is open
abbrev pub agrees : Bool → Option Block → Block → Bool
agrees writable None block = writable
agrees writable (Some own) block = is_same own block

-- each copy agrees with the node of its row, where that has one
abbrev pub copies_agree : List NodeRow → Arrays → SnapPoint → Bool
copies_agree nodes arrays snapshot = not (is_some snapshot.node)
    || list_all (λ copy. agrees (is_open (node_of nodes snapshot.node)) (map.get (array_in arrays snapshot.node) copy.index) copy.block) snapshot.copies

abbrev pub is_copied : List CopyRow → ℕ → Bool
is_copied copies index = list_any (λ copy. copy.index == index) copies

-- it is out of the standard tier, has blocks, and each of them has a copy
abbrev pub is_moved : Arrays → SnapPoint → Bool
is_moved arrays snapshot = not (is_standard snapshot.tier)
    && (not (is_none_of (map.keys (row_array arrays snapshot)))
    && all_keys (is_copied snapshot.copies) (row_array arrays snapshot))

-- once all of it is moved it has no node
abbrev pub gives_up : Arrays → SnapPoint → Bool
gives_up arrays snapshot = not (is_moved arrays snapshot) || not (is_some snapshot.node)

-- the indexes that were put are in the array
abbrev pub puts_are_in : Arrays → SnapPoint → Bool
puts_are_in arrays snapshot = list_all (map.contains_key (row_array arrays snapshot)) snapshot.put

abbrev pub fits_array : List NodeRow → Arrays → SnapPoint → Bool
fits_array nodes arrays snapshot = is_within snapshot.size (row_array arrays snapshot)
    && (copies_agree nodes arrays snapshot
    && (gives_up arrays snapshot
    && puts_are_in arrays snapshot))

abbrev pub volume_fits : Arrays → VolPoint → Bool
volume_fits arrays volume = is_within volume.row.size (array_in arrays (Some volume.node))

-- each row has an array as its size, its node, its tier and its puts want it
abbrev pub fit_arrays : Checkpoint → Bool
fit_arrays point = list_all (fits_array point.nodes (arrays_of point.nodes)) point.snapshots
    && list_all (volume_fits (arrays_of point.nodes)) point.volumes
