use Rattle.std.proofs.Common.{ap, sym, ◌∙◌}
use Rattle.ebs_lineage.specs.Lines.{Lines, array}
use Rattle.ebs_lineage.proofs.Arrays.{unmade}
use Rattle.ebs_lineage.proofs.lineage.Lineage.without_blocks.Goals as goal

pub returns : goal.returns
returns c = sym (ap (λ (l : Lines). array l.table.nodes c.self.inside.made) c.self.view_is) ∙ unmade _ _ c.self.invariant.lines
