use Rattle.std.proofs.Common.{refl, codes}
use Rattle.ebs_members.specs.inner.Sources.{found}
use Rattle.ebs_rest.proofs.LimitLaws.{retention_kept, new_rule_tags_kept, description_kept}
use Rattle.ebs_rest.proofs.rules.update_of.Goals as goal

pub returns-clause-limits : goal.returns-clause-limits
returns-clause-limits c =
    rw (
      retention_kept (codes "RetentionPeriod") (found c.args.body.now (codes "RetentionPeriod")) c.in_ok-days.days c.in_ok-days.ensures.value,
      new_rule_tags_kept (codes "ResourceTags") (found c.args.body.now (codes "ResourceTags")) c.in_ok-tags.tags c.in_ok-tags.ensures.value,
      description_kept (codes "Description") (found c.args.body.now (codes "Description")) c.in_ok-description.description c.in_ok-description.ensures.value,
    ) refl
