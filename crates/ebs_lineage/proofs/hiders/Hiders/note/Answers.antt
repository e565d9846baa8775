use Rattle.std.proofs.Common.{ap, ◌∙◌}
use Rattle.std.specs.FinMap as map
use Rattle.ebs_lineage.specs.Hiders.{HiderTable, hiding_by}
use Rattle.ebs_tables.proofs.TreeMaps.{insert-seen}
use Rattle.ebs_lineage.proofs.Hidings.{hidings_total, exact_hidings}
use Rattle.ebs_lineage.proofs.hiders.Hiders.note.Goals as goal

pub returns-in-Ok : goal.returns-in-Ok
returns-in-Ok c = λ whole.
    let key = hiding_by c.args.node c.args.index c.args.by in
    let put = insert-seen hidings_total exact_hidings c.self.inside.hidings.entries c.insert.new.self.entries key tt c.in-Ok.ensures.updates.0 ∙ ap (λ (h : HiderTable). map.insert h.hidings key tt) c.self.view_is in
    λ i. record { hidings = put i; is_whole = (c.self.view_is i).is_whole }
