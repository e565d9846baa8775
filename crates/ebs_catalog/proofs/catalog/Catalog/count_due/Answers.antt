use Rattle.std.proofs.Common.{length, sym, ap, ◌∙◌}
use Rattle.std.proofs.lemmas.List.Sums.{length-filter}
use Rattle.ebs_catalog.specs.Held.{rows_in}
use Rattle.ebs_catalog.specs.Runs.{is_own_target}
use Rattle.ebs_catalog.proofs.Due.{due-targets}
use Rattle.ebs_catalog.proofs.catalog.Catalog.count_due.Goals as goal

pub returns-in-Some : goal.returns-in-Some
returns-in-Some c =
    let p = c.args.policy.now in
    let key = c.args.key.now in
    c.count_targets.ensures
    ∙ sym (length-filter (is_own_target key.account p) _)
    ∙ ap length (c.volumes_from.ensures.values p ∙ due-targets (rows_in c.args.self.now) key p c.args.at.second _ (sym c.due.ensures.value ∙ c.in-Some.is))
