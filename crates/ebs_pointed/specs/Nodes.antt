-- The nodes that rows name.
use Rattle.std.specs.Prelude.{ℕ, Option}
use Rattle.std.specs.Option.{option_map, unwrap_or}
use Rattle.std.specs.FinMap as map
use Rattle.ebs_lineage.specs.declared.node_id.NodeId.{NodeId}
use Rattle.ebs_holds.specs.declared.holder.Holder.{Holder}
use Rattle.ebs_holds.specs.Holds.{Holding, held_in}

-- the number of a holder's node, where it has one
abbrev pub number_in : Holding → Holder → Option ℕ
number_in h holder = option_map (λ (node : NodeId). node.number) (map.get (held_in h) holder)

-- and otherwise a number that no node has yet
abbrev pub number_or : Holding → Holder → ℕ
number_or h holder = unwrap_or (number_in h holder) h.lines.made
