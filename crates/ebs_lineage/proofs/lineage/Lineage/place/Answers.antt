use Rattle.std.proofs.Common.{sym, ap, ◌∙◌}
use Rattle.std.specs.FinMap as map
use Rattle.ebs_lineage.specs.Lines.{Lines}
use Rattle.ebs_lineage.proofs.Linking.{get-places}
use Rattle.ebs_lineage.proofs.lineage.Lineage.place.Goals as goal

pub returns : goal.returns
returns c = c.place.ensures ∙ sym (get-places c.self.inside.kin.links c.args.node.number) ∙ ap (λ (l : Lines). map.get l.places c.args.node.number) c.self.view_is
