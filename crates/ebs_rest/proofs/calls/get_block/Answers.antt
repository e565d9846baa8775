use Rattle.std.proofs.Common.{refl, codes}
use Rattle.ebs_rest.proofs.LimitLaws.{index_needed}
use Rattle.ebs_members.specs.inner.Sources.{found}
use Rattle.ebs_rest.proofs.calls.get_block.Goals as goal

pub returns-clause-limits : goal.returns-clause-limits
returns-clause-limits c =
    rw (index_needed (codes "blockIndex") (found c.args.path.now (codes "blockIndex")) c.in_ok-index.index c.in_ok-index.ensures.value) refl
