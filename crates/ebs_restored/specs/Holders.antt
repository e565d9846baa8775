-- The nodes that a checkpoint's rows name, and the lineage's nodes that stand for them.
use Rattle.std.specs.Prelude.{◌≡◌, ℕ, List, [], ◌∷◌, ◌++◌, map, IsSome}
use Rattle.std.specs.declared.option.Option.{Option}
use Rattle.std.specs.Option.{option_map}
use Rattle.std.specs.List.{filter_map}
use Rattle.std.specs.FinMap as fin
use Rattle.ebs_checkpoints.specs.declared.owned.VolPoint.{VolPoint}
use Rattle.ebs_checkpoints.specs.declared.snapshots.SnapPoint.{SnapPoint}
use Rattle.ebs_lineage.specs.declared.node_id.NodeId.{NodeId}
use Rattle.ebs_holds.specs.declared.holder.Holder.{Holder}
use Rattle.ebs_holds.specs.Holders.{holder_cmp, of_snap, of_vol}
use Rattle.ebs_holds.specs.Holds.{HeldBy}
use Rattle.ebs_regrown.specs.Regrown.{Numbers, up}

abbrev pub Entry : Type 0
Entry = Holder × ℕ

abbrev pub of_snapshot : SnapPoint → Option Entry
of_snapshot row = option_map (λ (number : ℕ). (of_snap row.key, number)) row.node

abbrev pub of_volume : VolPoint → Entry
of_volume row = (of_vol row.row.key, row.node)

-- each snapshot that names a node, then each volume
abbrev pub naming : List SnapPoint → List VolPoint → List Entry
naming snapshots volumes = filter_map of_snapshot snapshots ++ map of_volume volumes

-- the node that each holder's row names
abbrev pub Named : Type 0
Named = fin.FinMap holder_cmp ℕ

abbrev pub named : List SnapPoint → List VolPoint → Named
named snapshots volumes = fin.from_entries (naming snapshots volumes)

-- each holder has the lineage's node that stands for the one that its row names
abbrev pub HaveNodes : Numbers → Named → HeldBy → Type 0
HaveNodes numbers names nodes = (q : Holder) → option_map (λ (n : NodeId). n.number) (fin.get nodes q) ≡ up numbers (fin.get names q)

-- a node of the lineage stands for each of these
abbrev pub AreNumbered : Numbers → List ℕ → Type 0
AreNumbered numbers [] = Unit {0}
AreNumbered numbers (number ∷ rest) = IsSome (fin.get numbers number) × AreNumbered numbers rest
