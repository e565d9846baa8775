use Rattle.std.proofs.Common.{ap, ◌∙◌}
use Rattle.std.specs.FinMap as map
use Rattle.ebs_lineage.specs.Hiders.{HiderTable, hiding_by}
use Rattle.ebs_tables.proofs.TreeMaps.{remove-seen}
use Rattle.ebs_lineage.proofs.Hidings.{hidings_total, exact_hidings}
use Rattle.ebs_lineage.proofs.hiders.Hiders.remove.Goals as goal

pub returns : goal.returns
returns c =
    let key = hiding_by c.args.node c.args.index c.args.by in
    let gone = remove-seen hidings_total exact_hidings c.self.inside.hidings.entries c.remove.new.self.entries key c.remove.ensures.updates.0 ∙ ap (λ (h : HiderTable). map.remove h.hidings key) c.self.view_is in
    λ i. record { hidings = gone i; is_whole = (c.self.view_is i).is_whole }
