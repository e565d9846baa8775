use Rattle.std.proofs.Common.{map, sym, ap, ◌∙◌}
use Rattle.ebs_model.specs.declared.keys.AnyKey.TheVariants.{Vol}
use Rattle.ebs_catalog.specs.Held.{rows_in}
use Rattle.ebs_catalog.proofs.Due.{due-targets, then_ok}
use Rattle.ebs_catalog.proofs.catalog.Catalog.due_sources.Goals as goal

pub returns-in-Some : goal.returns-in-Some
returns-in-Some c =
    let p = c.args.policy.now in
    let key = c.args.key.now in
    then_ok c.targets_of.result _ _ (λ ids h. h ∙ ap (map (λ e. Vol e.0)) (c.volumes_from-volumes.ensures.values p ∙ due-targets (rows_in c.args.self.now) key p c.args.at.second _ (sym c.due.ensures.value ∙ c.in-Some.is))) c.targets_of.ensures
