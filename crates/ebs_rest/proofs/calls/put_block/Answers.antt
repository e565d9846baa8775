use Rattle.std.proofs.Common.{refl, codes}
use Rattle.ebs_members.proofs.Outcomes.{fails_first, hands_on}
use Rattle.ebs_rest.proofs.LimitLaws.{index_needed}
use Rattle.ebs_members.specs.inner.Sources.{found}
use Rattle.ebs_rest.proofs.calls.put_block.Goals as goal

pub returns-in_err-digest-clause-value : goal.returns-in_err-digest-clause-value
returns-in_err-digest-clause-value c =
    hands_on _ _ c.in_err-digest.field-0.0 c.from_residual-in_err-digest.ensures.1
    (rw (c.in_ok-key.ensures.value, c.in_ok-index.ensures.value) (fails_first _ _ _ c.in_err-digest.ensures.value))

pub returns-clause-limits : goal.returns-clause-limits
returns-clause-limits c =
    rw (index_needed (codes "blockIndex") (found c.args.path.now (codes "blockIndex")) c.in_ok-index.index c.in_ok-index.ensures.value, c.in_ok-digest.ensures.size) refl
