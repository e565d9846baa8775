use Rattle.std.proofs.Common.{List, sym, subst, ◌∙◌}
use Rattle.std.specs.FinMap.{FinMap, insert}
use Rattle.ebs_tables.specs.Seen.{seen}
use Rattle.ebs_model.specs.declared.policy.Made.{Made}
use Rattle.ebs_model.specs.Keys.{vol_cmp}
use Rattle.ebs_catalog.specs.Runs.{IsAdded}
use Rattle.ebs_catalog.proofs.Groups.{one-added}
use Rattle.ebs_catalog.proofs.runs.add_made.Goals as goal

pub returns : goal.returns
returns c =
    let m = seen vol_cmp c.args.groups.now in
    let volume = c.args.volume.now in
    subst (λ (g : FinMap vol_cmp (List Made)). IsAdded m g volume c.args.made)
    (sym (c.in_ok-insert.ensures.ok ∙ (λ i. insert (c.take_group-group.ensures.rest i) volume (c.in_ok-push.ensures.ok i))))
    (one-added m volume c.args.made c.take_group-group.result c.take_group-group.ensures.group)
