use Rattle.std.proofs.Common.{◌≡◌, true, drop}
use Rattle.std.specs.FinMap.{contains_key}
use Rattle.ebs_collect.specs.Backlogs.{Covers, IsLinked}
use Rattle.ebs_node_rules.specs.inner.Nodes.{nodes_ascend}
use Rattle.ebs_regrown.specs.Regrown.{IsRegrown}
use Rattle.ebs_regrown.proofs.Leaving.{held_by}
use Rattle.ebs_regrown.proofs.regrown.Regrown.let_go.Given as goal

abbrev pub invariant-loop-row : goal.invariant-loop-row
invariant-loop-row l = IsRegrown l.rows (held_by (drop l.row-index l.rows) (contains_key l.named)) l.self.numbers l.self.lineage
    × (nodes_ascend (drop l.row-index l.rows) ≡ true) × IsLinked l.self.backlog l.self.lineage × Covers l.self.lineage
