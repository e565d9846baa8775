use Rattle.std.proofs.Common.{ap, ◌∙◌}
use Rattle.std.specs.FinMap.{remove}
use Rattle.ebs_catalog.specs.Held.{rows_in}
use Rattle.ebs_catalog.proofs.catalog.Catalog.drop_policy.Goals as goal

pub returns-clause-rows : goal.returns-clause-rows
returns-clause-rows c =
    let old = ap rows_in c.self.view_is in
    let policies = c.delete.ensures ∙ (λ i. remove (old i).policies c.args.key.now) in
    λ i. record { snaps = (old i).snaps; own = (old i).own; tokens = (old i).tokens; vols = (old i).vols; books = (old i).books; policies = policies i }
