use Rattle.std.proofs.Common.{ap, ◌∙◌}
use Rattle.std.specs.FinMap.{get}
use Rattle.ebs_policies.specs.Table.{with_last}
use Rattle.ebs_catalog.specs.Held.{rows_in}
use Rattle.ebs_catalog.proofs.catalog.Catalog.set_last.Goals as goal

pub returns-clause-rows : goal.returns-clause-rows
returns-clause-rows c =
    let key = c.args.key.now in
    let old = ap rows_in c.self.view_is in
    let policies = c.set_last.ensures ∙ (λ i. with_last (old i).policies key c.args.at (get (old i).policies key)) in
    λ i. record { snaps = (old i).snaps; own = (old i).own; tokens = (old i).tokens; vols = (old i).vols; books = (old i).books; policies = policies i }
