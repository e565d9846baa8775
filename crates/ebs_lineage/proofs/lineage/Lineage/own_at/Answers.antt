use Rattle.std.proofs.Common.{ap, ◌∙◌}
use Rattle.std.specs.FinMap as map
use Rattle.ebs_lineage.specs.Lines.{Lines, own}
use Rattle.ebs_lineage.proofs.lineage.Lineage.own_at.Goals as goal

pub returns : goal.returns
returns c = c.own_block.ensures ∙ ap (λ (l : Lines). map.get (own l.table.nodes c.args.node.number) c.args.index) c.self.view_is
