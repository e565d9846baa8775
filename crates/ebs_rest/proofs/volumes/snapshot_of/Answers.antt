use Rattle.std.proofs.Common.{refl, codes}
use Rattle.ebs_rest.proofs.LimitLaws.{description_kept, tags_kept}
use Rattle.ebs_members.specs.inner.Sources.{found}
use Rattle.ebs_rest.proofs.volumes.snapshot_of.Goals as goal

pub returns-clause-limits : goal.returns-clause-limits
returns-clause-limits c =
    rw (
      c.unwrap_or.ensures,
      c.new.ensures,
      description_kept (codes "Description") (found c.args.body.now (codes "Description")) c.in_ok-description.description c.in_ok-description.ensures.value,
      tags_kept (codes "Tags") (found c.args.body.now (codes "Tags")) c.in_ok-tags.tags c.in_ok-tags.ensures.value,
    ) refl
