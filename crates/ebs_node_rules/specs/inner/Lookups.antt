-- What the tests find on their way.
use Rattle.std.specs.Prelude.{ℕ, ◌≡◌, Bool, true, not, ◌||◌, ◌==◌, nat_lt, nat_le, List, ◌∷◌, []}
use Rattle.std.specs.declared.option.Option.{Option}
use Rattle.std.specs.declared.option.Option.TheVariants.{None, Some}
use Rattle.std.specs.Option.{is_some, unwrap_or, option_map}
use Rattle.std.specs.Ordering.{nat_cmp}
use Rattle.std.specs.List.{list_all, find}
use Rattle.std.specs.FinMap as map
use Rattle.ebs_model.specs.declared.array.Block.{Block}
use Rattle.ebs_model.specs.Quotas.{blocks_of}
use Rattle.ebs_checkpoints.specs.declared.nodes.EntryRow.{EntryRow}
use Rattle.ebs_checkpoints.specs.declared.nodes.NodeRow.{NodeRow}
use Rattle.ebs_checkpoints.specs.declared.owned.VolPoint.{VolPoint}
use Rattle.ebs_checkpoints.specs.declared.snapshots.SnapPoint.{SnapPoint}
use Rattle.ebs_node_rules.specs.Nodes.{have_parents}
use Rattle.ebs_node_rules.specs.inner.Nodes.{nodes_ascend}
use Rattle.ebs_node_rules.specs.States.{is_none_of, is_standard}
use Rattle.ebs_node_rules.specs.Arrays.{Arrays, all_keys}
use Rattle.ebs_node_rules.specs.inner.Arrays.{entries_ascend}

-- numbers as a set
abbrev pub marked : map.FinMap nat_cmp (Unit {0}) → List ℕ → map.FinMap nat_cmp (Unit {0})
marked set [] = set
marked set (number ∷ numbers) = marked (map.insert set number tt) numbers

abbrev pub set_of : List ℕ → map.FinMap nat_cmp (Unit {0})
set_of numbers = marked map.empty numbers

-- nodes ascend with their entries, and each has its parent
pub record AreChained (nodes : List NodeRow) : Type 0 where
  pub ascend : nodes_ascend nodes ≡ true
  pub entries : entries_ascend nodes ≡ true
  pub parents : have_parents nodes ≡ true

-- of each array the least number that no index reaches
abbrev pub AreTops : map.FinMap nat_cmp ℕ → Arrays → Type 0
AreTops tops arrays = (number limit : ℕ) →
    option_map (λ top. nat_le top limit) (map.get tops number) ≡ option_map (λ array. all_keys (λ index. nat_lt index limit) array) (map.get arrays number)

abbrev pub top_in : map.FinMap nat_cmp ℕ → Option ℕ → ℕ
top_in tops None = 0
top_in tops (Some number) = unwrap_or (map.get tops number) 0

-- no index of a volume's array is past its size, as told by tops
abbrev pub are_reached : map.FinMap nat_cmp ℕ → List VolPoint → Bool
are_reached tops volumes = list_all (λ volume. nat_le (top_in tops (Some volume.node)) (blocks_of volume.row.size)) volumes

-- a row in the standard tier, without a node or without copies has no node to give up
abbrev pub may_keep : SnapPoint → Bool
may_keep snapshot = is_standard snapshot.tier || (not (is_some snapshot.node) || is_none_of snapshot.copies)

-- the block of the entry at the index
abbrev pub own_block : List EntryRow → ℕ → Option Block
own_block entries index = option_map (λ entry. entry.block) (find (λ entry. entry.index == index) entries)
