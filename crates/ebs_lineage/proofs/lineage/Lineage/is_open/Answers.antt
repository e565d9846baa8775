use Rattle.std.proofs.Common.{sym, ap, ◌∙◌}
use Rattle.std.specs.FinMap as map
use Rattle.ebs_lineage.specs.Lines.{Lines}
use Rattle.ebs_lineage.proofs.lineage.Lineage.is_open.Goals as goal

pub returns-in-Some-clause-is_open : goal.returns-in-Some-clause-is_open
returns-in-Some-clause-is_open c = λ yes. (c.in-Some.here.now, sym (c.in-Some.ensures ∙ ap (λ (l : Lines). map.get l.table.nodes c.args.node.number) c.self.view_is), yes)

pub returns-in-Some-clause-frozen : goal.returns-in-Some-clause-frozen
returns-in-Some-clause-frozen c = λ no held. (c.in-Some.here.now, sym (c.in-Some.ensures ∙ ap (λ (l : Lines). map.get l.table.nodes c.args.node.number) c.self.view_is), no)
