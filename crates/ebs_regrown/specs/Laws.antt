-- What the slots of a checkpoint say of its lineage.
use Rattle.std.specs.Prelude.{◌≡◌, ℕ, Bool, true, List}
use Rattle.ebs_checkpoints.specs.declared.nodes.NodeRow.{NodeRow}
use Rattle.ebs_checkpoints.specs.declared.nodes.SlotRow.{SlotRow}
use Rattle.ebs_collect.specs.Slices.{IsCounted}
use Rattle.ebs_lineage.specs.Lines.{Lines}
use Rattle.ebs_node_rules.specs.inner.Arrays.{entries_ascend}
use Rattle.ebs_node_rules.specs.inner.Nodes.{nodes_ascend}
use Rattle.ebs_row_rules.specs.Numbers.{are_same}
use Rattle.ebs_row_rules.specs.Slots.{entry_blocks, keys, stamps}
use Rattle.ebs_slots.specs.inner.Slots.{SlotTable}
use Rattle.ebs_regrown.specs.Counted.{IsCountedBy}
use Rattle.ebs_regrown.specs.Regrown.{Numbers, IsRegrown}

-- where rows and their entries ascend, and the stamps with slots are those of entries, the slots count the entries of the lineage
abbrev pub RegrownIsCounted : Type 0
RegrownIsCounted = (rows : List NodeRow) (standard : List SlotRow) (held : ℕ → Bool) (numbers : Numbers) (lineage : Lines) (counted : SlotTable)
    → IsRegrown rows held numbers lineage → IsCountedBy rows standard counted → nodes_ascend rows ≡ true → entries_ascend rows ≡ true
    → are_same (stamps (entry_blocks rows)) (keys standard) ≡ true → IsCounted counted lineage.table.nodes
