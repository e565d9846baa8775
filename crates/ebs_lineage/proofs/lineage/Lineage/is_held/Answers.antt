use Rattle.std.proofs.Common.{is_some, sym, ap, ◌∙◌}
use Rattle.std.proofs.lemmas.Bool.{false≢true}
use Rattle.std.specs.FinMap as map
use Rattle.ebs_lineage.specs.Lines.{Lines}
use Rattle.ebs_lineage.proofs.lineage.Lineage.is_held.Goals as goal

pub returns-in-Some-clause-held : goal.returns-in-Some-clause-held
returns-in-Some-clause-held c = λ yes. (c.in-Some.here.now, sym (c.in-Some.ensures ∙ ap (λ (l : Lines). map.get l.table.nodes c.args.node.number) c.self.view_is), yes)

pub returns-in-Some-clause-free : goal.returns-in-Some-clause-free
returns-in-Some-clause-free c = λ no there. (c.in-Some.here.now, sym (c.in-Some.ensures ∙ ap (λ (l : Lines). map.get l.table.nodes c.args.node.number) c.self.view_is), no)

pub returns-in-None-clause-free : goal.returns-in-None-clause-free
returns-in-None-clause-free c = λ no there. absurd (false≢true (ap is_some (c.in-None.ensures ∙ ap (λ (l : Lines). map.get l.table.nodes c.args.node.number) c.self.view_is) ∙ there))
