-- Each holder has the array that the checkpoint gives its node.
use Rattle.std.proofs.Common.{◌≡◌, ℕ, Option, None, Some, refl, ap, ◌∙◌}
use Rattle.std.specs.Option.{option_map, unwrap_or}
use Rattle.std.specs.FinMap as fin
use Rattle.ebs_lineage.specs.declared.node_id.NodeId.{NodeId}
use Rattle.ebs_lineage.specs.Owned.{Blocks}
use Rattle.ebs_lineage.specs.Table.{NodeMap}
use Rattle.ebs_lineage.specs.Lines.{array}
use Rattle.ebs_node_rules.specs.Arrays.{Arrays, array_in}
use Rattle.ebs_holds.specs.declared.holder.Holder.{Holder}
use Rattle.ebs_holds.specs.Holds.{HeldBy, array_at, array_of_node}
use Rattle.ebs_regrown.specs.Regrown.{Numbers, HaveArrays, up}
use Rattle.ebs_restored.specs.Holders.{HaveNodes, Named}

abbrev by_number : NodeMap → Option ℕ → Blocks
by_number nodes None = fin.empty
by_number nodes (Some n) = array nodes n

of_node : (nodes : NodeMap) (o : Option NodeId) → array_of_node nodes o ≡ by_number nodes (option_map (λ (n : NodeId). n.number) o)
of_node nodes None = refl
of_node nodes (Some n) = refl

mapped : (nodes : NodeMap) (o : Option ℕ) → by_number nodes o ≡ unwrap_or (option_map (array nodes) o) fin.empty
mapped nodes None = refl
mapped nodes (Some n) = refl

in_arrays : (of : Numbers) (nodes : NodeMap) (arrays : Arrays) → HaveArrays of nodes arrays → (o : Option ℕ) → by_number nodes (up of o) ≡ array_in arrays o
in_arrays of nodes arrays have None = refl
in_arrays of nodes arrays have (Some number) = mapped nodes (fin.get of number) ∙ ap (λ o. unwrap_or o fin.empty) (have number)

pub array_is : (of : Numbers) (nodes : NodeMap) (arrays : Arrays) (names : Named) (held : HeldBy) → HaveArrays of nodes arrays → HaveNodes of names held → (q : Holder) → array_at nodes held q ≡ array_in arrays (fin.get names q)
array_is of nodes arrays names held have holders q = of_node nodes (fin.get held q) ∙ ap (by_number nodes) (holders q) ∙ in_arrays of nodes arrays have (fin.get names q)
